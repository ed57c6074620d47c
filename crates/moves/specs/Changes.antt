-- The moves of a row by its entries and causes, and their bytes in the space for them. Assumes nothing.
use Rattle.std.specs.Prelude.{◌≡◌, refl, Bool, true, false, cond, List, [], ◌∷◌, ◌++◌, map, ℕ, zero, suc, ◌+◌, ◌-◌, ◌*◌, ◌<◌, ◌≤◌, eqb, length, get_or, take, drop}
use Rattle.std.proofs.Common.{sym, ap, ap₂, ◌∙◌, subst, append_assoc, ⊎_elim, arith, add-one, eq-or-lt_of_le, eq-eqb, ne_eqb, length-append, length-drop, take_at, drop_at, drop-drop, length-take-le}
use Rattle.std.proofs.lemmas.List.{map-append, length-map}
use borrow.Rule.Slice.PartMut.{put_mid}
use Rattle.definitions.specs.declared.Move.{Move}
use Rattle.definitions.specs.Frames.{bytes_of}
use Rattle.definitions.specs.Select.{Place, entries_of, nowhere}
use Rattle.definitions.specs.Edit.{parting, cause_of, move_at, row_moves_to, move_line, moves_bytes}
use Rattle.definitions.specs.States.{with_cause, return_moves}
use Rattle.laws.specs.Lists.{get_d-mapped}
use Rattle.lockstep.specs.MoveLine.{length-move}
use Rattle.moves.specs.declared.applies.Mover.{Mover}
use Rattle.moves.specs.declared.applies.Mover.TheVariants.{Edit, Return}

-- the moves as they are told: those of a return all with cause 04
abbrev pub as_told : Mover → List Move → List Move
as_told Edit vs = vs
as_told Return vs = return_moves vs

-- and so the cause of one
abbrev pub cause_told : Mover → ℕ → ℕ
cause_told Edit k = k
cause_told Return k = 4

pub told_none : (r : Mover) → as_told r [] ≡ []
unfolding return_moves
told_none Edit = refl
told_none Return = refl

pub told-append : (r : Mover) (us vs : List Move) → as_told r (us ++ vs) ≡ as_told r us ++ as_told r vs
unfolding return_moves
told-append Return us vs = map-append (with_cause 4) us vs
told-append Edit us vs = refl

pub told-length : (r : Mover) (vs : List Move) → length (as_told r vs) ≡ length vs
unfolding return_moves
told-length Return vs = length-map vs (with_cause 4)
told-length Edit vs = refl

-- the move of a place of group g, where its entries differ
unfoldable pub change_at : ℕ → ℕ → ℕ → ℕ → ℕ → List Move
change_at g p old new cause = cond (eqb old new) [] (record { group = g; place = p; old = old; new = new; cause = cause } ∷ [])

-- those of the first k places
unfoldable pub changes_to : ℕ → List ℕ → List ℕ → List ℕ → ℕ → List Move
changes_to g old new causes zero = []
changes_to g old new causes (suc k) = changes_to g old new causes k ++ change_at g (suc k) (get_or old k 0) (get_or new k 0) (get_or causes k 0)

-- no change fewer with a place more
changes-more : (g : ℕ) (old new causes : List ℕ) (k : ℕ) → length (changes_to g old new causes k) ≤ length (changes_to g old new causes (suc k))
unfolding changes_to
changes-more g old new causes k = omega (arith, length-append (changes_to g old new causes k) (change_at g (suc k) (get_or old k 0) (get_or new k 0) (get_or causes k 0)))

pub changes-up : (g : ℕ) (old new causes : List ℕ) (j k : ℕ) → j ≤ k → length (changes_to g old new causes j) ≤ length (changes_to g old new causes k)
changes-up g old new causes j zero h = let e : j ≡ 0 = omega arith in rw e (omega arith)
changes-up g old new causes j (suc k) h =
    ⊎_elim (λ (e : j ≡ suc k). rw e (omega arith))
    (λ (l : j < suc k). omega (arith, changes-up g old new causes j k (omega arith), changes-more g old new causes k))
    (eq-or-lt_of_le h)

-- with the causes of its places, in a return 04 at each, they are the moves of a row
change-told : (r : Mover) (g p : ℕ) (a b : Place) → change_at g p a.entry b.entry (cause_told r (cause_of (parting a.walk b.walk))) ≡ as_told r (move_at g p a b)
unfolding change_at move_at return_moves
change-told Edit g p a b = refl
change-told Return g p a b = go (eqb a.entry b.entry)
  where
    go : (t : Bool) → cond t [] (record { group = g; place = p; old = a.entry; new = b.entry; cause = 4 } ∷ [])
        ≡ map (with_cause 4) (cond t [] (record { group = g; place = p; old = a.entry; new = b.entry; cause = cause_of (parting a.walk b.walk) } ∷ []))
    go true = refl
    go false = refl

pub changes-moves : (r : Mover) (g : ℕ) (ps qs : List Place) (causes : List ℕ) (k : ℕ) → k ≤ length ps → k ≤ length qs
    → ((j : ℕ) → j < k → get_or causes j 0 ≡ cause_told r (cause_of (parting (get_or ps j nowhere).walk (get_or qs j nowhere).walk)))
    → changes_to g (entries_of ps) (entries_of qs) causes k ≡ as_told r (row_moves_to g ps qs k)
unfolding changes_to row_moves_to entries_of
changes-moves r g ps qs causes zero h l c = sym (told_none r)
changes-moves r g ps qs causes (suc k) h l c =
    let a = get_or ps k nowhere in
    let b = get_or qs k nowhere in
    rw (get_d-mapped (λ (p : Place). p.entry) ps k nowhere 0 (omega arith), get_d-mapped (λ (p : Place). p.entry) qs k nowhere 0 (omega arith), c k (omega arith))
    (ap₂ (λ (us vs : List Move). us ++ vs) (changes-moves r g ps qs causes k (omega arith) (omega arith) (λ j i. c j (omega arith))) (change-told r g (suc k) a b)
    ∙ sym (told-append r (row_moves_to g ps qs k) (move_at g (suc k) a b)))

-- ---- bytes

pub bytes-append : (us vs : List Move) → moves_bytes (us ++ vs) ≡ moves_bytes us ++ moves_bytes vs
unfolding moves_bytes bytes_of
bytes-append [] vs = refl
bytes-append (u ∷ us) vs = ap (λ (l : List ℕ). move_line u ++ (10 ∷ l)) (bytes-append us vs) ∙ sym (append_assoc (move_line u) (10 ∷ moves_bytes us) (moves_bytes vs))

pub length-bytes : (vs : List Move) → length (moves_bytes vs) ≡ 23 * length vs
unfolding moves_bytes bytes_of
length-bytes [] = refl
length-bytes (v ∷ vs) =
    length-append (move_line v) (10 ∷ moves_bytes vs) ∙ omega (arith, length-bytes vs, length-move v, length-append (move_line v) (10 ∷ []))

-- of the space t, now s, the bytes from a up to b are written, and they are bs
pub record Written (t s : List ℕ) (a b : ℕ) (bs : List ℕ) : Type 0 where
  pub whole : s ≡ take a t ++ (bs ++ drop b t)
  pub end : b ≡ a + length bs
  pub within : b ≤ length t

pub written_none : (t : List ℕ) (a : ℕ) → a ≤ length t → Written t t a a []
written_none t a h = record { whole = sym (take-drop a t); end = omega arith; within = h }
  where
    take-drop : (n : ℕ) (l : List ℕ) → take n l ++ drop n l ≡ l
    take-drop zero l = refl
    take-drop (suc n) [] = refl
    take-drop (suc n) (x ∷ l) = ap (λ (y : List ℕ). x ∷ y) (take-drop n l)

pub written-length : {t s bs : List ℕ} {a b : ℕ} → Written t s a b bs → length s ≡ length t
written-length {t} {s} {bs} {a} {b} w =
    ap length w.whole ∙ length-append (take a t) (bs ++ drop b t)
    ∙ omega (arith, length-append bs (drop b t), length-take-le a t (omega (arith, w.end, w.within)), length-drop b t, w.end, w.within)

-- bytes behind them
pub written-more : {t s u bs cs : List ℕ} {a b c : ℕ} → Written t s a b bs → Written s u b c cs → Written t u a c (bs ++ cs)
written-more {t} {s} {u} {bs} {cs} {a} {b} {c} w w' =
    let k : length (take a t) ≡ a = length-take-le a t (omega (arith, w.end, w.within)) in
    let l : length (take a t ++ bs) ≡ b = length-append (take a t) bs ∙ omega (arith, k, w.end) in
    let e : s ≡ (take a t ++ bs) ++ drop b t = w.whole ∙ sym (append_assoc (take a t) bs (drop b t)) in
    let m : b + (c - b) ≡ c = omega (arith, w'.end) in
    let x : take b s ≡ take a t ++ bs = ap (take b) e ∙ take_at (take a t ++ bs) (drop b t) b l in
    let y : drop c s ≡ drop c t = ap (λ (i : ℕ). drop i s) (sym m) ∙ sym (drop-drop (c - b) b s) ∙ ap (drop (c - b)) (ap (drop b) e ∙ drop_at (take a t ++ bs) (drop b t) b l) ∙ drop-drop (c - b) b t ∙ ap (λ (i : ℕ). drop i t) m in
    record {
      whole = w'.whole ∙ ap₂ (λ (p q : List ℕ). p ++ (cs ++ q)) x y ∙ append_assoc (take a t) bs (cs ++ drop c t) ∙ ap (λ (p : List ℕ). take a t ++ p) (sym (append_assoc bs cs (drop c t)));
      end = w'.end ∙ omega (arith, w.end, length-append bs cs);
      within = omega (arith, w'.within, written-length w);
    }

-- one place: nothing where its entries are the same, and else the line in a part of the space
pub change-none : (t : List ℕ) (a g p old new cause : ℕ) → old ≡ new → a ≤ length t → Written t t a a (moves_bytes (change_at g p old new cause))
unfolding change_at moves_bytes bytes_of
change-none t a g p old new cause e h = rw (eq-eqb old new e) (written_none t a h)

pub change-length : (g p old new cause : ℕ) → (old ≡ new → ⊥) → length (change_at g p old new cause) ≡ 1
unfolding change_at
change-length g p old new cause f = rw (ne_eqb old new f) refl

pub change-line : (t ys : List ℕ) (a k g p old new cause : ℕ) → (old ≡ new → ⊥) → k ≡ 23 → a + 23 ≤ length t
    → ys ≡ move_line (record { group = g; place = p; old = old; new = new; cause = cause }) ++ (10 ∷ [])
    → Written t (put_mid a k t ys) a (a + 23) (moves_bytes (change_at g p old new cause))
unfolding change_at moves_bytes bytes_of
change-line t ys a k g p old new cause f e h q =
    rw (ne_eqb old new f)
    (record {
      whole = ap₂ (λ (l : List ℕ) (i : ℕ). take a t ++ (l ++ drop i (drop a t))) q e ∙ ap (λ (l : List ℕ). take a t ++ ((move_line (record { group = g; place = p; old = old; new = new; cause = cause }) ++ (10 ∷ [])) ++ l)) (drop-drop 23 a t);
      end = omega (arith, length-move (record { group = g; place = p; old = old; new = new; cause = cause }));
      within = h;
    })

-- a loop over the places of a row: one place more
pub changes-next : {t s u : List ℕ} {a b c : ℕ} (g : ℕ) (old new causes : List ℕ) (k p o m z : ℕ) → Written t s a b (moves_bytes (changes_to g old new causes k))
    → p ≡ k + 1 → o ≡ get_or old k 0 → m ≡ get_or new k 0 → z ≡ get_or causes k 0
    → Written s u b c (moves_bytes (change_at g p o m z)) → Written t u a c (moves_bytes (changes_to g old new causes (k + 1)))
unfolding changes_to
changes-next g old new causes k p o m z w e q r y w' =
    rw (add-one k, bytes-append (changes_to g old new causes k) (change_at g (suc k) (get_or old k 0) (get_or new k 0) (get_or causes k 0)))
    (written-more w (rw (e, q, r, y, add-one k) at w'))

-- and there is room for it
pub changes-room : {t s : List ℕ} {a b : ℕ} (g : ℕ) (old new causes : List ℕ) (k w p : ℕ) → Written t s a b (moves_bytes (changes_to g old new causes k))
    → p ≡ k + 1 → k < w → a + 23 * length (changes_to g old new causes w) ≤ length t
    → b + 23 * length (change_at g p (get_or old k 0) (get_or new k 0) (get_or causes k 0)) ≤ length s
unfolding changes_to
changes-room {t} {s} {a} {b} g old new causes k w p v e h r =
    let q : p ≡ suc k = omega arith in
    let z = change_at g (suc k) (get_or old k 0) (get_or new k 0) (get_or causes k 0) in
    let y = changes_to g old new causes k in
    let u : length (y ++ z) ≤ length (changes_to g old new causes w) = changes-up g old new causes (suc k) w (omega arith) in
    rw q (omega (arith, r, u, length-append y z, length-bytes y, v.end, written-length v))

pub changes-none : (t : List ℕ) (a g : ℕ) (old new causes : List ℕ) → a ≤ length t → Written t t a a (moves_bytes (changes_to g old new causes 0))
unfolding changes_to moves_bytes bytes_of
changes-none t a g old new causes h = written_none t a h

pub written_as : {t s : List ℕ} {a b : ℕ} {us vs : List Move} → us ≡ vs → Written t s a b (moves_bytes us) → Written t s a b (moves_bytes vs)
written_as {t} {s} {a} {b} e w = subst (λ (ms : List Move). Written t s a b (moves_bytes ms)) e w
