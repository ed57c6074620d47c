-- Laws of lists of numbers, and of lists whose entries have numbers: how long they can be, and where an entry is found. Assumes nothing.
use Rattle.std.specs.Prelude.{◌≡◌, Bool, not, ◌&&◌, ◌||◌, leb, get_or}
use Rattle.std.proofs.Math.Path.{refl, subst}
use Rattle.std.proofs.Common.{sym}
use Rattle.std.proofs.Math.Bool.{true, false, cond}
use Rattle.std.proofs.lemmas.Bool.{false≢true}
use mathlib.Core.List.{List, [], ◌∷◌, map, map-id}
use Prim.Native.Nat.{ℕ, zero, suc, ◌+◌, ◌*◌, ◌<◌, ◌≤◌}
use native.Mathlib.Omega.{arith}
use Rattle.std.proofs.Math.Dec.{ltb, eqb}
use Rattle.std.proofs.Math.ListN.{length}
use borrow.Author.Tests.{ltb-true, ltb-false, leb-true, eqb-true, eqb-false, lt-ltb, eq-eqb, ne_eqb, not-true}
use Rattle.definitions.specs.Lists.{every, some_of, kept, linked_from, linked, lookup, sum, has, distinct}
use Rattle.laws.specs.Lists.{both, and_both, every-head, every-tail, kept-every, kept_same, linked-head, linked-tail, linked-rest}

-- ---- entries that pass a test

module _ {A : Type 0} (p : A → Bool) where
  -- where some entry passes the test, that at some place does
  pub some_at : (d : A) (xs : List A) → some_of p xs ≡ true → (k : ℕ) × (k < length xs) × (p (get_or xs k d) ≡ true)
  unfolding some_of
  some_at d [] e = absurd (false≢true e)
  some_at d (x ∷ xs) e = go (p x) refl e (some_at d xs)
    where
      go : (b : Bool) → p x ≡ b → b || some_of p xs ≡ true
          → (some_of p xs ≡ true → (k : ℕ) × (k < length xs) × (p (get_or xs k d) ≡ true))
          → (k : ℕ) × (k < suc (length xs)) × (p (get_or (x ∷ xs) k d) ≡ true)
      go true h r rest = (0, omega arith, h)
      go false h r rest = let (k, l, q) = rest r in (suc k, omega arith, q)

  -- and where that at some place does, some entry does
  pub at_some : (d : A) (xs : List A) (k : ℕ) → k < length xs → p (get_or xs k d) ≡ true → some_of p xs ≡ true
  unfolding some_of
  at_some d [] k l e = absurd (omega arith)
  at_some d (x ∷ xs) zero l e = rw e
  at_some d (x ∷ xs) (suc k) l e = go (p x) (at_some d xs k (omega arith) e)
    where
      go : (b : Bool) → some_of p xs ≡ true → b || some_of p xs ≡ true
      go true r = refl
      go false r = r

-- ---- entries with numbers of which none stands twice

-- where no number stands twice, the first does not stand again
pub distinct_head : (x : ℕ) (xs : List ℕ) → distinct (x ∷ xs) ≡ true → has x xs ≡ false
unfolding distinct
distinct_head x xs e = not-true (has x xs) (both (not (has x xs)) (distinct xs) e).0

-- nor does any behind it stand twice
pub distinct_tail : (x : ℕ) (xs : List ℕ) → distinct (x ∷ xs) ≡ true → distinct xs ≡ true
unfolding distinct
distinct_tail x xs e = (both (not (has x xs)) (distinct xs) e).1

module _ {A : Type 0} (f : A → ℕ) where
  has_kept : (k : ℕ) (p : A → Bool) (xs : List A) → has k (map f xs) ≡ false → has k (map f (kept p xs)) ≡ false
  unfolding has kept
  has_kept k p [] e = refl
  has_kept k p (x ∷ xs) e = go (eqb (f x) k) refl (p x) e (has_kept k p xs)
    where
      go : (b : Bool) → eqb (f x) k ≡ b → (t : Bool) → b || has k (map f xs) ≡ false
          → (has k (map f xs) ≡ false → has k (map f (kept p xs)) ≡ false) → has k (map f (cond t (x ∷ kept p xs) (kept p xs))) ≡ false
      go true h t r rest = absurd (false≢true (sym r))
      go false h true r rest = rw h (rest r)
      go false h false r rest = rest r

  -- where no number stands twice, none does among those kept
  pub distinct-kept : (p : A → Bool) (xs : List A) → distinct (map f xs) ≡ true → distinct (map f (kept p xs)) ≡ true
  unfolding distinct kept
  distinct-kept p [] e = refl
  distinct-kept p (x ∷ xs) e = go (p x) (distinct-kept p xs (distinct_tail (f x) (map f xs) e))
    where
      go : (b : Bool) → distinct (map f (kept p xs)) ≡ true → distinct (map f (cond b (x ∷ kept p xs) (kept p xs))) ≡ true
      go true r = rw (has_kept (f x) p xs (distinct_head (f x) (map f xs) e)) r
      go false r = r

  abbrev below : ℕ → A → Bool
  below n x = ltb (f x) n

  -- where all numbers are at most n, and none is n, all are below n
  below-unless : (n : ℕ) (xs : List A) → has n (map f xs) ≡ false → every (below (suc n)) xs ≡ true → every (below n) xs ≡ true
  unfolding every has
  below-unless n [] h e = refl
  below-unless n (x ∷ xs) h e = go (eqb (f x) n) refl h (λ r. below-unless n xs r (every-tail (below (suc n)) x xs e))
    where
      go : (b : Bool) → eqb (f x) n ≡ b → b || has n (map f xs) ≡ false → (has n (map f xs) ≡ false → every (below n) xs ≡ true)
          → ltb (f x) n && every (below n) xs ≡ true
      go true q r rest = absurd (false≢true (sym r))
      go false q r rest =
          and_both (lt-ltb (f x) n (omega (arith, ltb-true (f x) (suc n) (every-head (below (suc n)) x xs e), eqb-false (f x) n q))) (rest r)

  -- without the number n, one less at most
  one_less : (n : ℕ) (xs : List A) → distinct (map f xs) ≡ true → every (below (suc n)) xs ≡ true
      → length xs ≤ suc (length (kept (below n) xs))
  unfolding kept
  one_less n [] d e = omega arith
  one_less n (x ∷ xs) d e =
      go (ltb (f x) n) refl (one_less n xs (distinct_tail (f x) (map f xs) d) (every-tail (below (suc n)) x xs e))
    where
      go : (b : Bool) → ltb (f x) n ≡ b → length xs ≤ suc (length (kept (below n) xs))
          → suc (length xs) ≤ suc (length (cond b (x ∷ kept (below n) xs) (kept (below n) xs)))
      go true q r = omega arith
      go false q r =
          let s : f x ≡ n = omega (arith, ltb-false (f x) n q, ltb-true (f x) (suc n) (every-head (below (suc n)) x xs e)) in
          let h : has n (map f xs) ≡ false = subst (λ (k : ℕ). has k (map f xs) ≡ false) s (distinct_head (f x) (map f xs) d) in
          rw (kept_same (below n) xs (below-unless n xs h (every-tail (below (suc n)) x xs e))) (omega arith)

  -- of entries with numbers below n, none of which stands twice, there are n at most
  pub distinct-most : (n : ℕ) (xs : List A) → distinct (map f xs) ≡ true → every (λ (x : A). ltb (f x) n) xs ≡ true → length xs ≤ n
  distinct-most zero [] d e = omega arith
  distinct-most zero (x ∷ xs) d e = absurd (omega (arith, ltb-true (f x) 0 (every-head (below 0) x xs e)))
  distinct-most (suc n) xs d e =
      omega (arith, one_less n xs d e, distinct-most n (kept (below n) xs) (distinct-kept (below n) xs d) (kept-every (below n) xs))

-- of numbers below n, none of which stands twice, there are n at most
pub distinct-bound : (n : ℕ) (xs : List ℕ) → distinct xs ≡ true → every (λ (x : ℕ). ltb x n) xs ≡ true → length xs ≤ n
distinct-bound n xs d e = distinct-most (λ (x : ℕ). x) n xs (rw (map-id xs) d) e

-- ---- sums

-- a sum of numbers that are c at most
pub sum_bound : {A : Type 0} (f : A → ℕ) (c : ℕ) (xs : List A) → every (λ (x : A). leb (f x) c) xs ≡ true → sum (map f xs) ≤ length xs * c
unfolding sum
sum_bound f c [] e = omega arith
sum_bound f c (x ∷ xs) e = omega (arith, leb-true (f x) c (every-head (λ y. leb (f y) c) x xs e), sum_bound f c xs (every-tail (λ y. leb (f y) c) x xs e))

-- ---- entries with numbers that rise strictly

module _ {A : Type 0} (f : A → ℕ) where
  abbrev rises : A → A → Bool
  rises a b = ltb (f a) (f b)

  next-rises : (a b : A) (xs : List A) → linked_from rises a (b ∷ xs) ≡ true → f a < f b
  next-rises a b xs e = ltb-true (f a) (f b) (linked-head rises a b xs e)

  from-bound : (n : ℕ) (a : A) (xs : List A) → linked_from rises a xs ≡ true → f a < n → every (λ (b : A). ltb (f b) n) xs ≡ true
      → f a + length xs < n
  from-bound n a [] r h e = omega arith
  from-bound n a (b ∷ xs) r h e =
      omega (arith, next-rises a b xs r, from-bound n b xs (linked-tail rises a b xs r) (ltb-true (f b) n (every-head (λ c. ltb (f c) n) b xs e)) (every-tail (λ c. ltb (f c) n) b xs e))

  -- of strictly rising numbers below n there are n at most
  pub rising-bound : (n : ℕ) (xs : List A) → linked (λ (a b : A). ltb (f a) (f b)) xs ≡ true → every (λ (a : A). ltb (f a) n) xs ≡ true
      → length xs ≤ n
  unfolding linked
  rising-bound n [] r e = omega arith
  rising-bound n (a ∷ xs) r e =
      omega (arith, from-bound n a xs r (ltb-true (f a) n (every-head (λ c. ltb (f c) n) a xs e)) (every-tail (λ c. ltb (f c) n) a xs e))

  module _ (d : A) where
    first_below : (a : A) (xs : List A) (k : ℕ) → linked_from rises a xs ≡ true → k < length xs → f a < f (get_or xs k d)
    first_below a [] k r l = absurd (omega arith)
    first_below a (b ∷ xs) zero r l = next-rises a b xs r
    first_below a (b ∷ xs) (suc k) r l = omega (arith, next-rises a b xs r, first_below b xs k (linked-tail rises a b xs r) (omega arith))

    -- of two places the first has the smaller number
    pub rising-at : (xs : List A) (i j : ℕ) → linked (λ (a b : A). ltb (f a) (f b)) xs ≡ true → i < j → j < length xs
        → f (get_or xs i d) < f (get_or xs j d)
    unfolding linked
    rising-at [] i j r h l = absurd (omega arith)
    rising-at (a ∷ xs) i zero r h l = absurd (omega arith)
    rising-at (a ∷ xs) zero (suc j) r h l = first_below a xs j r (omega arith)
    rising-at (a ∷ xs) (suc i) (suc j) r h l = rising-at xs i j (linked-rest rises a xs r) (omega arith) (omega arith)

    -- a number stands at one place
    pub rising-one : (xs : List A) (i j : ℕ) → linked (λ (a b : A). ltb (f a) (f b)) xs ≡ true → i < length xs → j < length xs
        → f (get_or xs i d) ≡ f (get_or xs j d) → i ≡ j
    rising-one xs i j r k l e = go (ltb i j) refl (ltb j i) refl
      where
        go : (b : Bool) → ltb i j ≡ b → (c : Bool) → ltb j i ≡ c → i ≡ j
        go true p c q = absurd (omega (arith, rising-at xs i j r (ltb-true i j p) l))
        go false p true q = absurd (omega (arith, rising-at xs j i r (ltb-true j i q) k))
        go false p false q = omega (arith, ltb-false i j p, ltb-false j i q)

    -- the entry found by its number is the one at its place
    pub lookup-at : (g : A → ℕ) (xs : List A) (k : ℕ) → linked (λ (a b : A). ltb (f a) (f b)) xs ≡ true → k < length xs
        → lookup f g (f (get_or xs k d)) xs ≡ g (get_or xs k d)
    unfolding linked lookup
    lookup-at g [] k r l = absurd (omega arith)
    lookup-at g (a ∷ xs) zero r l = rw (eq-eqb (f a) (f a) refl)
    lookup-at g (a ∷ xs) (suc k) r l =
        rw (ne_eqb (f a) (f (get_or xs k d)) (λ e. omega (arith, first_below a xs k r (omega arith)))) (lookup-at g xs k (linked-rest rises a xs r) (omega arith))

    -- a number that some entry has is that of the entry at some place
    pub number_at : (v : ℕ) (xs : List A) → some_of (λ (a : A). eqb (f a) v) xs ≡ true → (k : ℕ) × (k < length xs) × (f (get_or xs k d) ≡ v)
    number_at v xs e = let (k, l, q) = some_at (λ a. eqb (f a) v) d xs e in (k, l, eqb-true _ _ q)

    -- and the number of the entry at a place is one that some entry has
    pub at-number : (v : ℕ) (xs : List A) (k : ℕ) → k < length xs → f (get_or xs k d) ≡ v → some_of (λ (a : A). eqb (f a) v) xs ≡ true
    at-number v xs k l e = at_some (λ a. eqb (f a) v) d xs k l (eq-eqb _ _ e)

    -- what is looked up stands at some place
    pub lookup-is : (g : A → ℕ) (v : ℕ) (xs : List A) → linked (λ (a b : A). ltb (f a) (f b)) xs ≡ true → some_of (λ (a : A). eqb (f a) v) xs ≡ true
        → (k : ℕ) × (k < length xs) × (f (get_or xs k d) ≡ v) × (lookup f g v xs ≡ g (get_or xs k d))
    lookup-is g v xs r e =
        let (k, l, q) = number_at v xs e in
        (k, l, q, subst (λ (u : ℕ). lookup f g u xs ≡ g (get_or xs k d)) q (lookup-at g xs k r l))

-- ---- lists that a function changes

-- two tests that agree
pub every-ext : {A : Type 0} (p q : A → Bool) (xs : List A) → ((x : A) → p x ≡ q x) → every p xs ≡ every q xs
unfolding every
every-ext p q [] h = refl
every-ext p q (x ∷ xs) h = rw (h x, every-ext p q xs h)

-- a test of what a function gives
pub some-map : {A B : Type 0} (p : B → Bool) (f : A → B) (xs : List A) → some_of p (map f xs) ≡ some_of (λ (x : A). p (f x)) xs
unfolding some_of
some-map p f [] = refl
some-map p f (x ∷ xs) = rw (some-map p f xs)

linked_from-map : {A B : Type 0} (p : B → B → Bool) (f : A → B) (x : A) (xs : List A)
    → linked_from p (f x) (map f xs) ≡ linked_from (λ (a b : A). p (f a) (f b)) x xs
unfolding linked_from
linked_from-map p f x [] = refl
linked_from-map p f x (y ∷ xs) = rw (linked_from-map p f y xs)

-- a test of neighbours, of what a function gives
pub linked-map : {A B : Type 0} (p : B → B → Bool) (f : A → B) (xs : List A) → linked p (map f xs) ≡ linked (λ (a b : A). p (f a) (f b)) xs
unfolding linked
linked-map p f [] = refl
linked-map p f (x ∷ xs) = linked_from-map p f x xs

-- what f gives, where h changes nothing of it
pub map-keeps : {A B : Type 0} (f : A → B) (h : A → A) → ((x : A) → f (h x) ≡ f x) → (xs : List A) → map f (map h xs) ≡ map f xs
map-keeps f h k [] = refl
map-keeps f h k (x ∷ xs) = rw (k x, map-keeps f h k xs)

module _ (p : ℕ → Bool) (g : ℕ → ℕ) (one : (x y : ℕ) → p x ≡ true → p y ≡ true → g x ≡ g y → x ≡ y) where
  has-map : (k : ℕ) (xs : List ℕ) → p k ≡ true → every p xs ≡ true → has k xs ≡ false → has (g k) (map g xs) ≡ false
  unfolding has
  has-map k [] q e h = refl
  has-map k (x ∷ xs) q e h = go (eqb x k) refl h (has-map k xs q (every-tail p x xs e))
    where
      go : (b : Bool) → eqb x k ≡ b → b || has k xs ≡ false → (has k xs ≡ false → has (g k) (map g xs) ≡ false)
          → eqb (g x) (g k) || has (g k) (map g xs) ≡ false
      go true s r rest = absurd (false≢true (sym r))
      go false s r rest = rw (ne_eqb (g x) (g k) (λ u. eqb-false x k s (one x k (every-head p x xs e) q u))) (rest r)

  -- no number stands twice after a function that gives different numbers of different ones
  pub distinct-map : (xs : List ℕ) → every p xs ≡ true → distinct xs ≡ true → distinct (map g xs) ≡ true
  unfolding distinct
  distinct-map [] e d = refl
  distinct-map (x ∷ xs) e d =
      rw (has-map x xs (every-head p x xs e) (every-tail p x xs e) (distinct_head x xs d)) (distinct-map xs (every-tail p x xs e) (distinct_tail x xs d))

-- a number that no entry has is looked up as 0
pub lookup-none : {A : Type 0} (number f : A → ℕ) (k : ℕ) (xs : List A) → some_of (λ (x : A). eqb (number x) k) xs ≡ false → lookup number f k xs ≡ 0
unfolding some_of lookup
lookup-none number f k [] e = refl
lookup-none number f k (x ∷ xs) e = go (eqb (number x) k) e (lookup-none number f k xs)
  where
    go : (b : Bool) → (b || some_of (λ (y : _). eqb (number y) k) xs) ≡ false
        → (some_of (λ (y : _). eqb (number y) k) xs ≡ false → lookup number f k xs ≡ 0) → cond b (f x) (lookup number f k xs) ≡ 0
    go true q ih = absurd (let z : ◌≡◌ {A = ℕ} 0 1 = cc in omega arith)
    go false q ih = ih q

-- ---- an entry looked up in a list that h changes, where h keeps each entry's number

module _ {A : Type 0} (f g : A → ℕ) (h : A → A) (keeps : (x : A) → f (h x) ≡ f x) where
  -- what h leaves as it is
  pub lookup-keeps : ((x : A) → g (h x) ≡ g x) → (v : ℕ) (xs : List A) → lookup f g v (map h xs) ≡ lookup f g v xs
  unfolding lookup
  lookup-keeps k v [] = refl
  lookup-keeps k v (x ∷ xs) = rw (keeps x, k x, lookup-keeps k v xs)

  module _ (d c : ℕ) (puts : (x : A) → g (h x) ≡ cond (eqb (f x) d) c (g x)) where
    lookup-here : (xs : List A) → some_of (λ (x : A). eqb (f x) d) xs ≡ true → lookup f g d (map h xs) ≡ c
    unfolding lookup some_of
    lookup-here [] e = absurd (false≢true e)
    lookup-here (x ∷ xs) e = rw (keeps x, puts x) (go (eqb (f x) d) e (lookup-here xs))
      where
        go : (b : Bool) → b || some_of (λ (y : A). eqb (f y) d) xs ≡ true
            → (some_of (λ (y : A). eqb (f y) d) xs ≡ true → lookup f g d (map h xs) ≡ c)
            → cond b (cond b c (g x)) (lookup f g d (map h xs)) ≡ c
        go true r rest = refl
        go false r rest = rest r

    lookup-other : (v : ℕ) → eqb v d ≡ false → (xs : List A) → lookup f g v (map h xs) ≡ lookup f g v xs
    unfolding lookup
    lookup-other v n [] = refl
    lookup-other v n (x ∷ xs) = rw (keeps x, puts x, lookup-other v n xs) (go (eqb (f x) v) refl)
      where
        go : (b : Bool) → eqb (f x) v ≡ b
            → cond b (cond (eqb (f x) d) c (g x)) (lookup f g v xs) ≡ cond b (g x) (lookup f g v xs)
        go true e = rw (eqb-true (f x) v e, n)
        go false e = refl

    -- what h makes c in the entries of number d
    pub lookup-puts : (xs : List A) → some_of (λ (x : A). eqb (f x) d) xs ≡ true → (v : ℕ)
        → lookup f g v (map h xs) ≡ cond (eqb v d) c (lookup f g v xs)
    lookup-puts xs e v = go (eqb v d) refl
      where
        go : (b : Bool) → eqb v d ≡ b → lookup f g v (map h xs) ≡ cond b c (lookup f g v xs)
        go true s = rw (eqb-true v d s) (lookup-here xs e)
        go false s = lookup-other v s xs
