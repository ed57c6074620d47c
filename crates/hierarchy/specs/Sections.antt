-- A section of a list, and how a place in it is read from the whole.
use Rattle.std.specs.Prelude.{◌≡◌, refl, Bool, true, false, List, [], ◌∷◌, ℕ, zero, suc, ◌+◌, ◌<◌, ◌≤◌, eqb, length, get_or, take, drop, set}
use Rattle.std.proofs.Common.{sym, ap, ◌∙◌, zero-add, arith, eqb-true, length-set, length-take, length-drop, get_or-take, get_or-drop, take-take, drop-drop, get_or-set_same, get_or-set_other, ext_get_or}
use Rattle.std.proofs.lemmas.Bool.{eqb-false}
use Rattle.std.proofs.Math.ListN.{get_or-eq_default}

-- the n words of a list from a on
unfoldable pub section : ℕ → ℕ → List ℕ → List ℕ
section a n xs = take n (drop a xs)

pub section-length : (a n : ℕ) (xs : List ℕ) → a + n ≤ length xs → length (section a n xs) ≡ n
unfolding section
section-length a n xs h = omega (arith, length-take n (drop a xs), length-drop a xs)

-- word k of a section
pub section-at : (a n k : ℕ) (xs : List ℕ) → k < n → get_or (section a n xs) k 0 ≡ get_or xs (a + k) 0
unfolding section
section-at a n k xs h = get_or-take n (drop a xs) k 0 h ∙ get_or-drop a xs k 0

-- and of one at the front
pub section-front : (n k : ℕ) (xs : List ℕ) → k < n → get_or (section 0 n xs) k 0 ≡ get_or xs k 0
section-front n k xs h = section-at 0 n k xs h ∙ ap (λ (i : ℕ). get_or xs i 0) (zero-add k)

-- there is none behind its end
pub section-beyond : (a n k : ℕ) (xs : List ℕ) → n ≤ k → get_or (section a n xs) k 0 ≡ 0
unfolding section
section-beyond a n k xs h = get_or-eq_default (section a n xs) 0 (omega (arith, length-take n (drop a xs)))

-- a part of a section is a part of the whole
part-of-front : (f n m : ℕ) (xs : List ℕ) → f + n ≤ m → take n (drop f (take m xs)) ≡ take n (drop f xs)
part-of-front zero n m xs h = take-take n m xs (omega arith)
part-of-front (suc f) n zero xs h = absurd (omega arith)
part-of-front (suc f) n (suc m) [] h = refl
part-of-front (suc f) n (suc m) (x ∷ xs) h = part-of-front f n m xs (omega arith)

pub section-part : (a m f n : ℕ) (xs : List ℕ) → f + n ≤ m → take n (drop f (section a m xs)) ≡ take n (drop (a + f) xs)
unfolding section
section-part a m f n xs h = part-of-front f n m (drop a xs) h ∙ rw (drop-drop f a xs)

-- ---- laying a list over another

-- zs is xs with the first n words of ys over it from a on; behind them it may be anything
pub record Laid (a n : ℕ) (ys xs zs : List ℕ) : Type 0 where
  pub long : length zs ≡ length xs
  pub here : (j : ℕ) → j < n → get_or zs (a + j) 0 ≡ get_or ys j 0
  pub front : (j : ℕ) → j < a → get_or zs j 0 ≡ get_or xs j 0

-- none, and one more
pub laid_none : (a : ℕ) (ys xs : List ℕ) → Laid a 0 ys xs xs
laid_none a ys xs = record { long = refl; here = λ j h. absurd (omega arith); front = λ j h. refl }

pub laid_more : (a i : ℕ) (ys xs zs : List ℕ) → Laid a i ys xs zs → a + i < length xs → Laid a (i + 1) ys xs (set zs (a + i) (get_or ys i 0))
laid_more a i ys xs zs l h =
    record {
      long = length-set zs (a + i) (get_or ys i 0) ∙ l.long;
      here = λ j k. go j k (eqb j i) refl;
      front = λ j k. get_or-set_other zs (a + i) j (get_or ys i 0) 0 (λ e. omega (arith, e)) ∙ l.front j k;
    }
  where
    go : (j : ℕ) → j < i + 1 → (t : Bool) → eqb j i ≡ t → get_or (set zs (a + i) (get_or ys i 0)) (a + j) 0 ≡ get_or ys j 0
    go j k true e = rw (eqb-true j i e) (get_or-set_same zs (a + i) (get_or ys i 0) 0 (omega (arith, l.long)))
    go j k false e =
        let d : j ≡ i → ⊥ = eqb-false j i e in
        get_or-set_other zs (a + i) (a + j) (get_or ys i 0) 0 (λ q. omega (arith, q)) ∙ l.here j (omega arith)

module _ {a : ℕ} {ys xs zs : List ℕ} (l : Laid a (length ys) ys xs zs) where
  -- what is laid is a section
  pub laid-here : (n : ℕ) → length ys ≡ n → a + n ≤ length xs → section a n zs ≡ ys
  laid-here n e h =
      let m = section-length a n zs (omega (arith, l.long)) in
      ext_get_or 0 (section a n zs) ys (m ∙ sym e)
      (λ j k. let i : j < n = omega (arith, m) in section-at a n j zs i ∙ l.here j (omega (arith, e)))

  -- and a section before it stays
  pub laid-front : (b k : ℕ) → b + k ≤ a → a ≤ length xs → section b k zs ≡ section b k xs
  laid-front b k h g =
      let m = section-length b k zs (omega (arith, l.long)) in
      let p = section-length b k xs (omega arith) in
      ext_get_or 0 (section b k zs) (section b k xs) (m ∙ sym p)
      (λ j q. let i : j < k = omega (arith, m) in section-at b k j zs i ∙ l.front (b + j) (omega arith) ∙ sym (section-at b k j xs i))

-- a word that is set behind a section leaves it
pub section-set : (b k j v : ℕ) (xs : List ℕ) → b + k ≤ j → j < length xs → section b k (set xs j v) ≡ section b k xs
section-set b k j v xs h g =
    let m = section-length b k (set xs j v) (omega (arith, length-set xs j v)) in
    let p = section-length b k xs (omega arith) in
    ext_get_or 0 (section b k (set xs j v)) (section b k xs) (m ∙ sym p)
    (λ i q. let o : i < k = omega (arith, m) in section-at b k i (set xs j v) o ∙ get_or-set_other xs j (b + i) v 0 (λ e. omega (arith, e)) ∙ sym (section-at b k i xs o))
