-- What std says of tests on slices, in the words of the definitions. Assumes nothing.
use Rattle.std.specs.Prelude.{◌≡◌, Bool, true, false, ◌&&◌, ◌||◌, List, [], ◌∷◌, ℕ, zero, suc, ◌<◌, eqb, length, MatchBool}
use Rattle.std.specs.List.{AllWithin, HoldsAt, list_any}
use Rattle.std.specs.Cmp.Lexicographic.{pointwise}
use Rattle.std.proofs.Common.{refl, sym, ap, ◌∙◌, arith}
use Rattle.std.proofs.Math.Bool.{and-false}
use Rattle.std.proofs.lemmas.Bool.{false≢true}
use Rattle.definitions.specs.Lists.{every, has, same}

-- `all` of an iterator over a list
pub all-every : {A : Type 0} (f : A → Bool) (xs : List A) (r : Bool)
    → MatchBool r (AllWithin (λ x. f x ≡ true) xs 0 (length xs)) ((k : ℕ) × (k < length xs) × HoldsAt (λ x. f x ≡ false) xs k) → r ≡ every f xs
unfolding every
all-every f xs true h = sym (each xs h)
  where
    each : (ys : List _) → AllWithin (λ x. f x ≡ true) ys 0 (length ys) → every f ys ≡ true
    each [] h = refl
    each (y ∷ ys) h = rw (h 0 y (omega arith) (omega arith)) (each ys (λ k d _ l. h (suc k) d (omega arith) (omega arith)))
all-every f xs false (k, l, h) = sym (one xs k l h)
  where
    one : (ys : List _) (k : ℕ) → k < length ys → HoldsAt (λ x. f x ≡ false) ys k → every f ys ≡ false
    one [] k l h = absurd (omega arith)
    one (y ∷ ys) zero l h = rw (h y)
    one (y ∷ ys) (suc k) l h = rw (one ys k (omega arith) (λ d. h d)) (and-false (f y))

-- `contains` of a slice of numbers
pub contains-has : (k : ℕ) (xs : List ℕ) → list_any (λ y. eqb y k) xs ≡ has k xs
unfolding has
contains-has k [] = refl
contains-has k (x ∷ xs) = ap (λ b. eqb x k || b) (contains-has k xs)

-- `==` of two slices of numbers
pub eq-same : (xs ys : List ℕ) → pointwise eqb xs ys ≡ same xs ys
unfolding same
eq-same [] [] = refl
eq-same [] (y ∷ ys) = refl
eq-same (x ∷ xs) [] = refl
eq-same (x ∷ xs) (y ∷ ys) = ap (λ b. eqb x y && b) (eq-same xs ys)

-- `&&` of two tests: the first answers r and the second s, and together they answer v. Where the first is yes,
pub and-yes : {r v s a b : Bool} → r ≡ a → r ≡ true → v ≡ s → s ≡ b → v ≡ a && b
and-yes {a = true} e h q f = q ∙ f
and-yes {a = false} e h q f = absurd (false≢true (sym e ∙ h))

-- and where it is no
pub and-no : {r v a : Bool} (b : Bool) → r ≡ a → r ≡ false → v ≡ r → v ≡ a && b
and-no {a = true} b e h q = absurd (false≢true (sym h ∙ e))
and-no {a = false} b e h q = q ∙ e
