-- The layer of bytes and lines: a text that ends with the byte 10 is its lines. Assumes nothing.
use Rattle.std.specs.Prelude.{◌≡◌, refl, Bool, true, false, cond, ◌&&◌, ◌||◌, List, [], ◌∷◌, ◌++◌, ℕ, zero, suc, ◌+◌, ◌-◌, ◌<◌, ◌≤◌, leb, eqb, length, get_or, take, drop}
use Rattle.std.proofs.Common.{ap, ◌∙◌, ⊎_elim, arith, eq-or-lt_of_le, add-one, length-drop, drop-cons, drop-drop, leb-true, eqb-true, le-leb, eq-eqb, ne_eqb}
use Rattle.std.proofs.lemmas.Bool.{eqb-false}
use Rattle.definitions.specs.Lists.{every, last_of}
use Rattle.definitions.specs.Frames.{is_digit, with_byte, lines_of, bytes_of}
use Rattle.definitions.specs.Load.{within, allowed, sized}
use Rattle.laws.specs.Lists.{both, every-head, every-tail}
use Rattle.text.specs.Digits.{low, not-both}

-- the bytes before the first 10
unfoldable pub first : List ℕ → List ℕ
first [] = []
first (b ∷ t) = cond (eqb b 10) [] (b ∷ first t)

-- the lines of a text that is not empty: the first, and those of the rest
pub lines_split : (t : List ℕ) → 0 < length t → lines_of t ≡ first t ∷ lines_of (drop (suc (length (first t))) t)
unfolding lines_of with_byte first
lines_split [] h = absurd (omega arith)
lines_split (b ∷ t) h = go (eqb b 10) refl t (lines_split t)
  where
    go : (p : Bool) → eqb b 10 ≡ p → (u : List ℕ) → (0 < length u → lines_of u ≡ first u ∷ lines_of (drop (suc (length (first u))) u))
        → with_byte (eqb b 10) b (lines_of u) ≡ cond (eqb b 10) [] (b ∷ first u) ∷ lines_of (drop (length (cond (eqb b 10) [] (b ∷ first u))) u)
    go true e u ih = rw e refl
    go false e [] ih = rw e refl
    go false e (c ∷ u) ih = rw (e, ih (omega arith)) refl

-- a text that is empty or ends with the byte 10
abbrev pub Ended : List ℕ → Type 0
Ended t = 0 < length t → last_of t ≡ 10

-- so is the rest of one
pub ended-tail : (b : ℕ) (t : List ℕ) → Ended (b ∷ t) → Ended t
ended-tail b [] h p = absurd (omega arith)
ended-tail b (c ∷ t) h p =
    let e : suc (suc (length t)) - 1 ≡ suc (length t) = omega arith in let g : suc (length t) - 1 ≡ length t = omega arith in rw g
    (rw e at (h (omega arith)))

-- and all that is left of one
pub ended-drop : (n : ℕ) (t : List ℕ) → Ended t → Ended (drop n t)
ended-drop zero t h = h
ended-drop (suc n) [] h = h
ended-drop (suc n) (b ∷ t) h = ended-drop n t (ended-tail b t h)

-- a text that is ended is the text of its lines
pub bytes-lines : (t : List ℕ) → Ended t → bytes_of (lines_of t) ≡ t
unfolding lines_of with_byte bytes_of
bytes-lines [] h = refl
bytes-lines (b ∷ t) h = go (eqb b 10) refl t h (bytes-lines t (ended-tail b t h))
  where
    go : (p : Bool) → eqb b 10 ≡ p → (u : List ℕ) → Ended (b ∷ u) → bytes_of (lines_of u) ≡ u → bytes_of (with_byte p b (lines_of u)) ≡ b ∷ u
    go true e u g ih = rw (ih, eqb-true b 10 e)
    go false e [] g ih = absurd (eqb-false b 10 e (g (omega arith)))
    go false e (c ∷ u) g ih = rw (lines_split (c ∷ u) (omega arith)) (ap (λ (l : List ℕ). b ∷ l) (rw (lines_split (c ∷ u) (omega arith)) at ih))

-- a digit does not end a line
pub digit-not-ten : (b : ℕ) → is_digit b ≡ true → eqb b 10 ≡ false
digit-not-ten b e = ne_eqb b 10 (λ p. not-both (is_digit b) e (low b (omega (arith, p))).0)

-- a line of digits and a 10 before a text
pub line_first : (l t : List ℕ) → every is_digit l ≡ true → lines_of (l ++ (10 ∷ t)) ≡ l ∷ lines_of t
unfolding lines_of with_byte
line_first [] t e = refl
line_first (b ∷ l) t e = rw (digit-not-ten b (every-head is_digit b l e), line_first l t (every-tail is_digit b l e))

-- lines of digits are the lines of their text
pub lines-bytes : (ls : List (List ℕ)) → every (every is_digit) ls ≡ true → lines_of (bytes_of ls) ≡ ls
unfolding bytes_of lines_of
lines-bytes [] e = refl
lines-bytes (l ∷ ls) e = rw (line_first l (bytes_of ls) (every-head (every is_digit) l ls e), lines-bytes ls (every-tail (every is_digit) l ls e))

-- the lines of a text of digits and 10s are of digits
pub digit-lines : (t : List ℕ) → every allowed t ≡ true → every (every is_digit) (lines_of t) ≡ true
unfolding lines_of with_byte every
digit-lines [] e = refl
digit-lines (b ∷ t) e = go (eqb b 10) (is_digit b) refl (every-head allowed b t e) (lines_of t) (digit-lines t (every-tail allowed b t e))
  where
    go : (p q : Bool) → is_digit b ≡ q → (q || p) ≡ true → (ls : List (List ℕ)) → every (every is_digit) ls ≡ true → every (every is_digit) (with_byte p b ls) ≡ true
    go true q d a ls ih = ih
    go false true d a [] ih = rw d
    go false true d a (l ∷ ls) ih = rw d ih
    go false false d a ls ih = not-both false a refl

-- the first line is what stands before the first 10
pub first-take : (t : List ℕ) → first t ≡ take (length (first t)) t
unfolding first
first-take [] = refl
first-take (b ∷ t) = go (eqb b 10) (first-take t)
  where
    go : (p : Bool) → first t ≡ take (length (first t)) t → cond p [] (b ∷ first t) ≡ take (length (cond p [] (b ∷ first t))) (b ∷ t)
    go true ih = refl
    go false ih = ap (λ (l : List ℕ). b ∷ l) ih

-- a byte that is not 10 belongs to the line
pub first_next : (t : List ℕ) (e : ℕ) → e < length t → (get_or t e 0 ≡ 10 → ⊥) → length (first (drop e t)) ≡ suc (length (first (drop (e + 1) t)))
unfolding first
first_next t e h n = rw (add-one e, drop-cons t e 0 h, ne_eqb (get_or t e 0) 10 n)

-- the byte 10 ends it
pub first-stop : (t : List ℕ) (e : ℕ) → e < length t → get_or t e 0 ≡ 10 → length (first (drop e t)) ≡ 0
unfolding first
first-stop t e h n = rw (drop-cons t e 0 h, eq-eqb (get_or t e 0) 10 n)

-- the line from `at` to `e`, and those after it
pub line_at : (t : List ℕ) (at e : ℕ) → at < length t → at ≤ e → length (first (drop at t)) ≡ e - at
    → lines_of (drop at t) ≡ take (e - at) (drop at t) ∷ lines_of (drop (e + 1) t)
line_at t at e h l n =
    let k : at + suc (e - at) ≡ e + 1 = omega arith in
    lines_split (drop at t) (rw (length-drop at t) (omega arith))
    ∙ rw (n, drop-drop (suc (e - at)) at t, k) (ap (λ (f : List ℕ). f ∷ lines_of (drop (e + 1) t)) (first-take (drop at t) ∙ rw n refl))

-- a byte that is not 10 is not the last
pub not_last : (t : List ℕ) (e : ℕ) → e < length t → (get_or t e 0 ≡ 10 → ⊥) → last_of t ≡ 10 → e + 1 < length t
not_last t e h n l =
    let g : e + 1 ≤ length t = omega arith in
    ⊎_elim (λ q. absurd (n (let k : e ≡ length t - 1 = omega (arith, q) in rw k l))) (λ q. q) (eq-or-lt_of_le g)

-- what question 1 says
pub record Plain (t : List ℕ) : Type 0 where
  pub some : 1 ≤ length t
  pub most : length t ≤ 65536
  pub last : last_of t ≡ 10
  pub digits : every allowed t ≡ true

-- question 1, taken apart
pub plain : (t : List ℕ) → sized t ≡ true → Plain t
unfolding sized
plain t e =
    let a = both (within 1 65536 (length t) && eqb (last_of t) 10) (every allowed t) e in
    let b = both (within 1 65536 (length t)) (eqb (last_of t) 10) a.0 in
    let d = both (leb 1 (length t)) (leb (length t) 65536) b.0 in
    record { some = leb-true _ _ d.0; most = leb-true _ _ d.1; last = eqb-true _ _ b.1; digits = a.1 }

-- and put together
pub is_plain : (t : List ℕ) → Plain t → sized t ≡ true
unfolding sized
is_plain t p = simp (le-leb 1 (length t) p.some, le-leb (length t) 65536 p.most, eq-eqb (last_of t) 10 p.last) p.digits

-- the first line of an ended text is shorter than it
pub first-lt : (t : List ℕ) → Ended t → 0 < length t → length (first t) < length t
unfolding first
first-lt [] z h = absurd (omega arith)
first-lt (b ∷ t) z h = go (eqb b 10) refl t z (first-lt t (ended-tail b t z))
  where
    go : (p : Bool) → eqb b 10 ≡ p → (u : List ℕ) → Ended (b ∷ u) → (0 < length u → length (first u) < length u) → length (cond p [] (b ∷ first u)) < suc (length u)
    go true e u z ih = omega arith
    go false e [] z ih = absurd (eqb-false b 10 e (z (omega arith)))
    go false e (c ∷ u) z ih = omega (arith, ih (omega arith))
