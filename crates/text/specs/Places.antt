-- Where the fields stand in a text of frames: reading one, and replacing one in its place. Assumes nothing.
use Rattle.std.specs.Prelude.{◌≡◌, refl, Bool, true, false, List, [], ◌∷◌, ◌++◌, ℕ, zero, suc, ◌+◌, ◌*◌, ◌^◌, ◌<◌, ◌≤◌, eqb, length, get_or, take, drop, set}
use Rattle.std.proofs.Common.{sym, ap, ◌∙◌, append_assoc, arith, add_assoc, length-append, drop_at, eqb-true, lt-ltb}
use Rattle.std.proofs.Math.Seq.{drop-append-add, take-append-add}
use Rattle.std.proofs.lemmas.List.{drop-append-le, take-append-le}
use Rattle.definitions.specs.Lists.{every, sum}
use Rattle.definitions.specs.Frames.{value, hex, written, bytes_of, Frame, layout, line_length, line_of, text_of}
use Rattle.laws.specs.Lists.{and_both, every-head, every-tail}
use Rattle.text.specs.Digits.{length-hex, not-both, value-hex}
use Rattle.text.specs.Frames.{fits, good_frame, fits_head, fits-tail, good-kind, good-fits, frame-is-good, length-line}

-- a text with w bytes from p on replaced
unfoldable pub splice : ℕ → ℕ → List ℕ → List ℕ → List ℕ
splice p w x t = take p t ++ (x ++ drop (p + w) t)

-- replacing behind a
pub splice-after : (a l x : List ℕ) (n p w : ℕ) → length a ≡ n → splice (n + p) w x (a ++ l) ≡ a ++ splice p w x l
unfolding splice
splice-after a l x n p w h =
    rw (← h, add_assoc (length a) p w, take-append-add a l p, drop-append-add a l (p + w)) (append_assoc a (take p l) (x ++ drop (p + w) l))

-- replacing in front of b
pub splice-before : (l b x : List ℕ) (p w : ℕ) → p + w ≤ length l → splice p w x (l ++ b) ≡ splice p w x l ++ b
unfolding splice
splice-before l b x p w h =
    rw (take-append-le p l b (omega arith), drop-append-le (p + w) l b h, append_assoc, append_assoc)

drop-after : (a l : List ℕ) (n p : ℕ) → length a ≡ n → drop (n + p) (a ++ l) ≡ drop p l
drop-after a l n p h = rw (← h) (drop-append-add a l p)

-- reading field j of fields of these counts of digits
pub read-field : (ws vs r : List ℕ) (j : ℕ) → fits ws vs ≡ true → j < length ws → value (get_or ws j 0) (drop (sum (take j ws)) (written ws vs ++ r)) ≡ get_or vs j 0
unfolding fits written sum
read-field [] vs r j e h = absurd (omega arith)
read-field (w ∷ ws) [] r j e h = not-both false e refl
read-field (w ∷ ws) (v ∷ vs) r zero e h = rw append_assoc (value-hex w v _ (fits_head w v ws vs e))
read-field (w ∷ ws) (v ∷ vs) r (suc j) e h =
    rw (append_assoc, drop-after (hex w v) (written ws vs ++ r) w (sum (take j ws)) (length-hex w v)) (read-field ws vs r j (fits-tail w v ws vs e) (omega arith))

-- the same field replaced
pub write-field : (ws vs : List ℕ) (j v : ℕ) → fits ws vs ≡ true → j < length ws
    → splice (sum (take j ws)) (get_or ws j 0) (hex (get_or ws j 0) v) (written ws vs) ≡ written ws (set vs j v)
unfolding fits written sum splice
write-field [] vs j v e h = absurd (omega arith)
write-field (w ∷ ws) [] j v e h = not-both false e refl
write-field (w ∷ ws) (u ∷ vs) zero v e h = rw (drop_at (hex w u) (written ws vs) (0 + w) (length-hex w u ∙ omega arith))
write-field (w ∷ ws) (u ∷ vs) (suc j) v e h =
    splice-after (hex w u) (written ws vs) (hex (get_or ws j 0) v) w (sum (take j ws)) (get_or ws j 0) (length-hex w u)
    ∙ ap (λ (l : List ℕ). hex w u ++ l) (write-field ws vs j v (fits-tail w u ws vs e) (omega arith))

-- a field ends within its line
pub sum_room : (ws : List ℕ) (j : ℕ) → sum (take j ws) + get_or ws j 0 ≤ sum ws
unfolding sum
sum_room [] zero = omega arith
sum_room [] (suc j) = omega arith
sum_room (w ∷ ws) zero = omega arith
sum_room (w ∷ ws) (suc j) = omega (arith, sum_room ws j)

-- a frame with one field replaced
unfoldable pub with : Frame → ℕ → ℕ → Frame
with f j v = record { kind = f.kind; fields = set f.fields j v }

-- where field j stands in a line of kind k
abbrev pub offset : ℕ → ℕ → ℕ
offset k j = 2 + sum (take j (layout k))

-- how many digits field j of kind k has
abbrev pub digits_of : ℕ → ℕ → ℕ
digits_of k j = get_or (layout k) j 0

-- reading a field of a line
pub read-line : (f : Frame) (r : List ℕ) (j : ℕ) → good_frame f ≡ true → j < length (layout f.kind)
    → value (digits_of f.kind j) (drop (offset f.kind j) (line_of f ++ r)) ≡ get_or f.fields j 0
unfolding line_of
read-line f r j g h =
    rw (append_assoc, drop-after (hex 2 f.kind) (written (layout f.kind) f.fields ++ r) 2 (sum (take j (layout f.kind))) (length-hex 2 f.kind))
    (read-field (layout f.kind) f.fields r j (good-fits f g) h)

-- replacing a field of a line
pub write-line : (f : Frame) (j v : ℕ) → good_frame f ≡ true → j < length (layout f.kind)
    → splice (offset f.kind j) (digits_of f.kind j) (hex (digits_of f.kind j) v) (line_of f) ≡ line_of (with f j v)
unfolding line_of with
write-line f j v g h =
    splice-after (hex 2 f.kind) (written (layout f.kind) f.fields) _ 2 (sum (take j (layout f.kind))) (digits_of f.kind j) (length-hex 2 f.kind)
    ∙ ap (λ (l : List ℕ). hex 2 f.kind ++ l) (write-field (layout f.kind) f.fields j v (good-fits f g) h)

-- the text of frames one behind the other
pub text-append : (fs gs : List Frame) → text_of (fs ++ gs) ≡ text_of fs ++ text_of gs
unfolding bytes_of
text-append [] gs = refl
text-append (f ∷ fs) gs = rw (text-append fs gs) (sym (append_assoc (line_of f) (10 ∷ text_of fs) (text_of gs)))

-- reading field j of the frame behind some others
pub read_at : (xs bs : List Frame) (f : Frame) (j n : ℕ) → good_frame f ≡ true → j < length (layout f.kind) → length (text_of xs) ≡ n
    → value (digits_of f.kind j) (drop (n + offset f.kind j) (text_of (xs ++ (f ∷ bs)))) ≡ get_or f.fields j 0
unfolding bytes_of
read_at xs bs f j n g h l =
    rw (text-append xs (f ∷ bs), drop-after (text_of xs) (text_of (f ∷ bs)) n (offset f.kind j) l) (read-line f (10 ∷ text_of bs) j g h)

-- replacing field j of it
pub write-at : (xs bs : List Frame) (f : Frame) (j n v : ℕ) → good_frame f ≡ true → j < length (layout f.kind) → length (text_of xs) ≡ n
    → splice (n + offset f.kind j) (digits_of f.kind j) (hex (digits_of f.kind j) v) (text_of (xs ++ (f ∷ bs))) ≡ text_of (xs ++ (with f j v ∷ bs))
unfolding bytes_of
write-at xs bs f j n v g h l =
    rw (text-append xs (f ∷ bs), text-append xs (with f j v ∷ bs))
    (splice-after (text_of xs) (text_of (f ∷ bs)) _ n (offset f.kind j) (digits_of f.kind j) l
    ∙ ap (λ (t : List ℕ). text_of xs ++ t)
    (splice-before (line_of f) (10 ∷ text_of bs) _ (offset f.kind j) (digits_of f.kind j) (omega (arith, length-line f g, sum_room (layout f.kind) j))
    ∙ ap (λ (t : List ℕ). t ++ (10 ∷ text_of bs)) (write-line f j v g h)))

-- a frame of kind k
abbrev pub of_kind : ℕ → Frame → Bool
of_kind k f = eqb f.kind k

-- frames of one kind, by their count
pub length-text : (k : ℕ) (fs : List Frame) → every good_frame fs ≡ true → every (of_kind k) fs ≡ true → length (text_of fs) ≡ length fs * (line_length k + 1)
unfolding bytes_of
length-text k [] g e = omega arith
length-text k (f ∷ fs) g e =
    let l = length-line f (every-head good_frame f fs g) in
    let q : f.kind ≡ k = eqb-true _ _ (every-head (of_kind k) f fs e) in
    let m : length (line_of f) ≡ line_length k = l ∙ ap (λ (i : ℕ). line_length i) q in
    length-append (line_of f) (10 ∷ text_of fs) ∙ omega (arith, m, length-text k fs (every-tail good_frame f fs g) (every-tail (of_kind k) f fs e))

-- a value that fits leaves the fields fitting
pub fits-set : (ws vs : List ℕ) (j v : ℕ) → fits ws vs ≡ true → v < 16 ^ get_or ws j 0 → fits ws (set vs j v) ≡ true
unfolding fits
fits-set [] [] j v e h = refl
fits-set [] (u ∷ vs) j v e h = not-both false e refl
fits-set (w ∷ ws) [] j v e h = not-both false e refl
fits-set (w ∷ ws) (u ∷ vs) zero v e h = and_both (lt-ltb v (16 ^ w) h) (fits-tail w u ws vs e)
fits-set (w ∷ ws) (u ∷ vs) (suc j) v e h = and_both (lt-ltb u (16 ^ w) (fits_head w u ws vs e)) (fits-set ws vs j v (fits-tail w u ws vs e) h)

-- the frame is then good
pub with-good : (f : Frame) (j v : ℕ) → good_frame f ≡ true → v < 16 ^ digits_of f.kind j → good_frame (with f j v) ≡ true
unfolding with
with-good f j v g h = frame-is-good (with f j v) (good-kind f g) (fits-set (layout f.kind) f.fields j v (good-fits f g) h)
