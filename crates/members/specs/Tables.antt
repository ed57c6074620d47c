-- Tables that a loop fills, one slot for each entry of a list: what stands at a slot in the end. Assumes nothing.
use Rattle.std.specs.Prelude.{◌≡◌, Bool, true, false, cond, List, ltb, eqb, set, replicate}
use Rattle.std.proofs.Math.Path.{refl, subst}
use Rattle.std.proofs.Common.{sym, ◌∙◌, arith, eq-or-lt_of_le, get_or-set_same}
use Rattle.std.proofs.lemmas.Bool.{false≢true}
use Rattle.std.proofs.Math.Logic.{⊎_elim}
use Prim.Native.Nat.{ℕ, zero, suc, ◌<◌}
use Rattle.std.proofs.Math.ListN.{length, get_or, length-set}
use Rattle.std.proofs.lemmas.List.{length-replicate, get_or-replicate}
use Rattle.std.proofs.Math.Seq.{get_or-set_other}
use Rattle.definitions.specs.Lists.{some_of, linked}
use Rattle.laws.specs.Counting.{rising-at, number_at, at-number}

-- a table of n slots, all 0
unfoldable pub blank : ℕ → List ℕ
blank n = replicate n 0

pub blank-length : (n : ℕ) → length (blank n) ≡ n
unfolding blank
blank-length n = length-replicate n 0

pub blank-at : (n s : ℕ) → s < n → get_or (blank n) s 0 ≡ 0
unfolding blank
blank-at n s h = get_or-replicate n s 0 0 h

-- the table t, after g x is put at slot f x for each of the first k entries x
unfoldable pub put_to : {A : Type 0} → (A → ℕ) → (A → ℕ) → A → List A → List ℕ → ℕ → List ℕ
put_to f g d xs t zero = t
put_to f g d xs t (suc k) = set (put_to f g d xs t k) (f (get_or xs k d)) (g (get_or xs k d))

module _ {A : Type 0} (f g : A → ℕ) (d : A) (xs : List A) (t : List ℕ) where
  pub put-length : (k : ℕ) → length (put_to f g d xs t k) ≡ length t
  unfolding put_to
  put-length zero = refl
  put-length (suc k) = length-set (put_to f g d xs t k) (f (get_or xs k d)) (g (get_or xs k d)) ∙ put-length k

  -- a slot that no entry has
  pub put_other : (s k : ℕ) → ((j : ℕ) → j < k → f (get_or xs j d) ≡ s → ⊥) → get_or (put_to f g d xs t k) s 0 ≡ get_or t s 0
  unfolding put_to
  put_other s zero h = refl
  put_other s (suc k) h =
      get_or-set_other (put_to f g d xs t k) (f (get_or xs k d)) s (g (get_or xs k d)) 0 (λ e. h k (omega arith) (sym e))
      ∙ put_other s k (λ j l. h j (omega arith))

  -- the slot of entry j, where no later one has it
  put-at : (j k : ℕ) → j < k → f (get_or xs j d) < length t → ((i : ℕ) → j < i → i < k → f (get_or xs i d) ≡ f (get_or xs j d) → ⊥)
      → get_or (put_to f g d xs t k) (f (get_or xs j d)) 0 ≡ g (get_or xs j d)
  unfolding put_to
  put-at j zero l r h = absurd (omega arith)
  put-at j (suc k) l r h = ⊎_elim here (λ (i : j < k). before i (put-at j k i r (λ n p q. h n p (omega arith)))) (eq-or-lt_of_le (omega arith))
    where
      here : j ≡ k → get_or (set (put_to f g d xs t k) (f (get_or xs k d)) (g (get_or xs k d))) (f (get_or xs j d)) 0 ≡ g (get_or xs j d)
      here e =
          subst (λ (n : ℕ). get_or (set (put_to f g d xs t k) (f (get_or xs k d)) (g (get_or xs k d))) (f (get_or xs n d)) 0 ≡ g (get_or xs n d)) (sym e)
          (get_or-set_same (put_to f g d xs t k) (f (get_or xs k d)) (g (get_or xs k d)) 0 (subst (λ (n : ℕ). f (get_or xs n d) < length (put_to f g d xs t k)) e (omega (arith, put-length k))))

      before : j < k → get_or (put_to f g d xs t k) (f (get_or xs j d)) 0 ≡ g (get_or xs j d)
          → get_or (set (put_to f g d xs t k) (f (get_or xs k d)) (g (get_or xs k d))) (f (get_or xs j d)) 0 ≡ g (get_or xs j d)
      before i e =
          get_or-set_other (put_to f g d xs t k) (f (get_or xs k d)) (f (get_or xs j d)) (g (get_or xs k d)) 0 (λ q. h k i (omega arith) (sym q)) ∙ e

-- entries whose numbers, by n, rise strictly, each put at the slot that f gives of its number: what stands in the end at the slot of number
-- v, where w gives of the number of an entry what is put for it
pub put_is : {A : Type 0} (n : A → ℕ) (f : ℕ → ℕ) (g : A → ℕ) (d : A) (xs : List A) (t : List ℕ) (w : ℕ → ℕ)
    → ((a b : ℕ) → f a ≡ f b → a ≡ b) → linked (λ (a b : A). ltb (n a) (n b)) xs ≡ true
    → ((k : ℕ) → k < length xs → g (get_or xs k d) ≡ w (n (get_or xs k d))) → (v : ℕ) → f v < length t
    → get_or (put_to (λ (x : A). f (n x)) g d xs t (length xs)) (f v) 0 ≡ cond (some_of (λ (x : A). eqb (n x) v) xs) (w v) (get_or t (f v) 0)
put_is {A} n f g d xs t w one r h v l = go (some_of (λ (x : A). eqb (n x) v) xs) refl
  where
    go : (b : Bool) → some_of (λ (x : A). eqb (n x) v) xs ≡ b
        → get_or (put_to (λ (x : A). f (n x)) g d xs t (length xs)) (f v) 0 ≡ cond b (w v) (get_or t (f v) 0)
    go true e =
        let (k, i, q) = number_at n d v xs e in
        subst (λ (u : ℕ). get_or (put_to (λ (x : A). f (n x)) g d xs t (length xs)) (f u) 0 ≡ w u) q
        (put-at (λ (x : A). f (n x)) g d xs t k (length xs) i (subst (λ (u : ℕ). f u < length t) (sym q) l) (λ j a b u. omega (arith, rising-at n d xs k j r a b, one _ _ u))
        ∙ h k i)
    go false e =
        put_other (λ (x : A). f (n x)) g d xs t (f v) (length xs) (λ j a q. false≢true (sym e ∙ at-number n d v xs j a (one _ _ q)))
