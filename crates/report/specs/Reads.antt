-- The bytes behind the map as they come, read by read: the fold of `byte_of` does not depend on how they are cut, nor on what the space holds.
-- Assumes nothing.
use Rattle.std.specs.Prelude.{◌≡◌, refl, List, [], ◌∷◌, ◌++◌, ℕ, zero, suc, ◌+◌, ◌*◌, ◌<◌, length, get_or, take}
use Rattle.std.proofs.Common.{sym, ap, ◌∙◌, append-nil, append_assoc, arith, add-one, take_at, take-suc}
use Rattle.definitions.specs.declared.Move.{Move}
use Rattle.definitions.specs.Lists.{over}
use Rattle.definitions.specs.Edit.{moves_bytes}
use Rattle.definitions.specs.Map.{map_of}
use Rattle.definitions.specs.Writing.{map_text}
use Rattle.definitions.specs.Calls.{room_for_frames, room_for_moves, EditCase, case_of, edit_number, edit_by, edit_answer, edit_of, ReturnCase, return_case, return_number, return_by, return_answer, return_of, write_number, write_by, write_of}
use Rattle.moves.specs.Changes.{length-bytes}
use Rattle.report.specs.declared.edits.Said.{Said}
use Rattle.report.specs.declared.edits.Said.TheVariants.{Front}
use Rattle.protocol.specs.declared.asked.Program.{Program}
use Rattle.protocol.specs.declared.asked.Asked.{Asked}
use Rattle.protocol.specs.declared.asked.Asked.TheVariants.{Frames, Rows, Store, Return, Nothing}
use Rattle.protocol.specs.Asked.{asked_of}
use Rattle.report.specs.Edits.{Site, site_of, Session, session, or_refusal, frames_said, printing, edited, order_of, line_of, byte_of, behind, bytes_of, end_of}
use Rattle.report.specs.Says.{says_none}
use Rattle.report.specs.Kept.{Keeps, Answers, Stands, byte-other}

-- ---- however the bytes are cut

pub bytes_cut : (p : Program) (space : List ℕ) (s : Session) (xs ys : List ℕ) → bytes_of p space s (xs ++ ys) ≡ bytes_of p space (bytes_of p space s xs) ys
unfolding bytes_of
bytes_cut p space s [] ys = refl
bytes_cut p space s (x ∷ xs) ys = bytes_cut p space (behind s.printed (byte_of p s.site s.line x space)) xs ys

-- what was printed before stays in front
pub bytes-behind : (p : Program) (space before : List ℕ) (s : Session) (bs : List ℕ) → bytes_of p space (behind before s) bs ≡ behind before (bytes_of p space s bs)
unfolding bytes_of
bytes-behind p space before s [] = refl
bytes-behind p space before s (b ∷ bs) =
    let t = byte_of p s.site s.line b space in
    ap (λ (q : List ℕ). bytes_of p space (record { site = t.site; line = t.line; printed = q }) bs) (append_assoc before s.printed t.printed)
    ∙ bytes-behind p space before (behind s.printed t) bs

-- a session is what it was behind what it printed
alone : (s : Session) → s ≡ behind s.printed (session s.site s.line)
alone s = ap (λ (q : List ℕ). record { site = s.site; line = s.line; printed = q }) (sym (append-nil s.printed))

-- ---- whatever the space holds

-- the moves are written whatever stood there
moves-room : (vs : List Move) (z : List ℕ) → take (length vs * 23) (over (moves_bytes vs) z) ≡ moves_bytes vs
moves-room vs z = take_at (moves_bytes vs) _ (length vs * 23) (length-bytes vs ∙ omega arith)

-- of an edit's answer all but the space
edited-room : (f t ws e s s' : List ℕ) → length s ≡ length s' → edited ws (edit_of f t e s) ≡ edited ws (edit_of f t e s')
unfolding edit_of edit_answer edit_by edit_number case_of room_for_moves or_refusal
edited-room f t ws e s s' h = ap (λ (k : ℕ). edited ws (edit_by C k)) number ∙ go (edit_number C')
  where
    C : EditCase
    C = case_of f t e s

    C' : EditCase
    C' = case_of f t e s'

    number : edit_number C ≡ edit_number C'
    number = rw h

    go : (k : ℕ) → edited ws (edit_by C k) ≡ edited ws (edit_by C' k)
    go zero = ap (printing (site_of (edit_by C 0).frames (edit_by C 0).table ws)) (moves-room C.moves s ∙ sym (moves-room C.moves s'))
    go (suc k) = refl

-- and of a return's
returned-room : (f t ws : List ℕ) (x : ℕ) (s s' : List ℕ) → length s ≡ length s' → edited ws (return_of f t ws x s) ≡ edited ws (return_of f t ws x s')
unfolding return_of return_answer return_by return_number return_case room_for_moves or_refusal
returned-room f t ws x s s' h = ap (λ (k : ℕ). edited ws (return_by C k)) number ∙ go (return_number C')
  where
    C : ReturnCase
    C = return_case f t ws x s

    C' : ReturnCase
    C' = return_case f t ws x s'

    number : return_number C ≡ return_number C'
    number = rw h

    go : (k : ℕ) → edited ws (return_by C k) ≡ edited ws (return_by C' k)
    go zero = ap (printing (site_of (return_by C 0).frames (return_by C 0).table ws)) (moves-room C.moves s ∙ sym (moves-room C.moves s'))
    go (suc k) = refl

-- the map is written whatever stood there
frames-room : (f s s' : List ℕ) → length s ≡ length s' → frames_said (write_of f s) ≡ frames_said (write_of f s')
unfolding write_of write_by write_number room_for_frames frames_said or_refusal
frames-room f s s' h = ap (λ (k : ℕ). frames_said (write_by (map_of f) s k)) number ∙ go (write_number f s')
  where
    number : write_number f s ≡ write_number f s'
    number = rw h

    text : (z : List ℕ) → take (length (map_text (map_of f))) (over (map_text (map_of f)) z) ≡ map_text (map_of f)
    text z = take_at (map_text (map_of f)) _ (length (map_text (map_of f))) refl

    go : (k : ℕ) → frames_said (write_by (map_of f) s k) ≡ frames_said (write_by (map_of f) s' k)
    go zero = text s ∙ sym (text s')
    go (suc k) = refl

order-room : (a : Asked) (s : Site) (z z' : List ℕ) → length z ≡ length z' → order_of a s z ≡ order_of a s z'
unfolding order_of
order-room Frames s z z' h = ap (printing s) (frames-room s.frames z z' h)
order-room Rows s z z' h = refl
order-room (Store x) s z z' h = refl
order-room (Return x) s z z' h = returned-room s.frames s.table s.states x z z' h
order-room Nothing s z z' h = refl

pub line-room : (p : Program) (s : Site) (e z z' : List ℕ) → length z ≡ length z' → line_of p s e z ≡ line_of p s e z'
unfolding line_of
line-room p s e z z' h = rw (edited-room s.frames s.table s.states e z z' h, order-room (asked_of p e) s z z' h)

byte-room : (p : Program) (s : Site) (l : List ℕ) (b : ℕ) (z z' : List ℕ) → length z ≡ length z' → byte_of p s l b z ≡ byte_of p s l b z'
unfolding byte_of
byte-room p s l b z z' h = rw (line-room p s l z z' h)

pub bytes-room : (p : Program) (z z' : List ℕ) → length z ≡ length z' → (a : Session) (bs : List ℕ) → bytes_of p z a bs ≡ bytes_of p z' a bs
unfolding bytes_of
bytes-room p z z' h a [] = refl
bytes-room p z z' h a (b ∷ bs) =
    rw (byte-room p a.site a.line b z z' h) (bytes-room p z z' h (behind a.printed (byte_of p a.site a.line b z')) bs)

-- ---- bytes that end no line

-- they are added to the line under way, and that is all
abbrev pub Lengthens : List ℕ → Type 0
Lengthens bs = (p : Program) (space : List ℕ) (s : Session) → bytes_of p space s bs ≡ record { site = s.site; line = s.line ++ bs; printed = s.printed }

pub lengthens-none : Lengthens []
unfolding bytes_of
lengthens-none p space s = ap (λ (l : List ℕ). record { site = s.site; line = l; printed = s.printed }) (sym (append-nil s.line))

-- one byte more behind them
pub lengthens-more : (bs : List ℕ) (b : ℕ) → Lengthens bs → (b ≡ 10 → ⊥) → Lengthens (bs ++ (b ∷ []))
unfolding bytes_of
lengthens-more bs b h n p space s =
    bytes_cut p space s bs (b ∷ [])
    ∙ rw (h p space s, byte-other p s.site (s.line ++ bs) b space n, append_assoc s.line bs (b ∷ []), append-nil s.printed) refl

-- and one ahead of them
lengthens-ahead : (b : ℕ) (bs : List ℕ) → (b ≡ 10 → ⊥) → Lengthens bs → Lengthens (b ∷ bs)
unfolding bytes_of
lengthens-ahead b bs n h p space s =
    rw (byte-other p s.site s.line b space n, h p space (behind s.printed (session s.site (s.line ++ (b ∷ [])))), append_assoc s.line (b ∷ []) bs, append-nil s.printed) refl

-- the first n bytes, where none of them is the byte 10
pub lengthens-front : (read : List ℕ) (n : ℕ) → ((k : ℕ) → k < n → get_or read k 0 ≡ 10 → ⊥) → Lengthens (take n read)
lengthens-front read zero h = lengthens-none
lengthens-front [] (suc n) h = lengthens-none
lengthens-front (b ∷ bs) (suc n) h = lengthens-ahead b (take n bs) (h 0 (omega arith)) (lengthens-front bs n (λ k i. h (suc k) (omega (arith, i))))

-- ---- the bytes of one turn

-- no line has ended
pub run_none : (p : Program) (l : List ℕ) (s : Site) (space xs bs : List ℕ) → Lengthens bs → Keeps l (xs ++ bs)
    → Stands (Front 0) l s space (bytes_of p space (session s xs) bs)
run_none p l s space xs bs h k =
    rw (h p space (session s xs)) (record { answers = record { site-is = refl; says = says_none s.table space }; line = k })

-- behind them comes the byte at n
pub run-byte : (p : Program) (r : Said) (l : List ℕ) (s : Site) (space xs read : List ℕ) (n : ℕ) (s' : Site) (space' : List ℕ) → n < length read
    → Lengthens (take n read)
    → Stands r l s' space' (byte_of p s (xs ++ take n read) (get_or read n 0) space)
    → Stands r l s' space' (bytes_of p space (session s xs) (take (n + 1) read))
unfolding bytes_of
run-byte p r l s space xs read n s' space' i h k =
    rw (add-one, take-suc read n 0 i, bytes_cut p space (session s xs) (take n read) (get_or read n 0 ∷ []), h p space (session s xs)) k

-- ---- read after read

-- the site and the line under way are as the session says
pub record Led (l : List ℕ) (here : Site) (s : Session) : Type 0 where
  pub site-is : here ≡ s.site
  pub line : Keeps l s.line

pub stands-led : (r : Said) (l : List ℕ) (here : Site) (space : List ℕ) (s : Session) → Stands r l here space s → Led l here s
stands-led r l here space s h = record { site-is = h.answers.site-is; line = h.line }

pub led-none : (p : Program) (l : List ℕ) (s : Site) (space xs : List ℕ) → Keeps l xs → Led l s (bytes_of p space (session s xs) [])
unfolding bytes_of
led-none p l s space xs k = record { site-is = refl; line = k }

-- first the bytes us, then the bytes bs, with another space of the same length
pub led-more : (p : Program) (space₀ space : List ℕ) → length space ≡ length space₀ → (s : Session) (us bs : List ℕ) (l l' : List ℕ) (here here' : Site)
    → Led l here (bytes_of p space₀ s us)
    → Led l' here' (bytes_of p space (session here (bytes_of p space₀ s us).line) bs)
    → Led l' here' (bytes_of p space₀ s (us ++ bs))
led-more p space₀ space h s us bs l l' here here' a b =
    let S = bytes_of p space₀ s us in
    let q : Led l' here' (bytes_of p space (session S.site S.line) bs) = rw (← a.site-is) b in
    let e : bytes_of p space₀ s (us ++ bs) ≡ behind S.printed (bytes_of p space (session S.site S.line) bs) =
    bytes_cut p space₀ s us bs ∙ bytes-room p space₀ space (sym h) S bs ∙ ap (λ (z : Session). bytes_of p space z bs) (alone S)
    ∙ bytes-behind p space S.printed (session S.site S.line) bs in
    rw e (record { site-is = q.site-is; line = q.line })

-- ---- the end of the input

end-room : (p : Program) (s : Site) (l z z' : List ℕ) → length z ≡ length z' → end_of p s l z ≡ end_of p s l z'
unfolding end_of
end-room p s [] z z' h = refl
end-room p s (b ∷ l) z z' h = line-room p s (b ∷ l) z z' h

-- the site is this one after the bytes bs and the end of the input
abbrev pub Ended : Program → List ℕ → Site → List ℕ → Site → Type 0
Ended p space s bs here = let e = bytes_of p space (session s []) bs in here ≡ (end_of p e.site e.line space).site

pub ended : (p : Program) (space₀ space : List ℕ) → length space ≡ length space₀ → (s : Site) (bs : List ℕ) (l : List ℕ) (here : Site)
    → Led l here (bytes_of p space₀ (session s []) bs) → (r : Said) (here' : Site) (space' : List ℕ)
    → ((xs : List ℕ) → Keeps l xs → Answers r here' space' (end_of p here xs space)) → Ended p space₀ s bs here'
ended p space₀ space h s bs l here a r here' space' b =
    let S = bytes_of p space₀ (session s []) bs in
    let e : end_of p here S.line space ≡ end_of p S.site S.line space₀ = rw a.site-is (end-room p S.site S.line space space₀ h) in
    (b S.line a.line).site-is ∙ ap (λ (z : Session). z.site) e
