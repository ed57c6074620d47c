-- Tables: lists that hold at each place what a function gives of it. A table of records by their numbers is filled from the last record to
-- the first. Assumes nothing.
use Rattle.std.specs.Prelude.{◌≡◌, refl, Bool, true, false, cond, List, eqb, length, get_or, drop, set, replicate}
use Rattle.std.proofs.Common.{sym, ◌∙◌, length-set, drop-cons, get_or-set_same, get_or-set_other, eqb-true}
use Prim.Native.Nat.{ℕ, zero, suc, ◌-◌, ◌<◌, ◌≤◌}
use native.Mathlib.Omega.{arith}
use Rattle.std.proofs.lemmas.List.{length-replicate}
use Rattle.std.proofs.Math.Seq.{drop-length}
use Rattle.std.proofs.lemmas.Bool.{eqb-false}
use Rattle.definitions.specs.Lists.{lookup}

-- xs has n entries, and at each place i what f gives of i; f gives 0 past them
pub record Tabled (xs : List ℕ) (n : ℕ) (f : ℕ → ℕ) : Type 0 where
  pub size : length xs ≡ n
  pub at : (i : ℕ) → get_or xs i 0 ≡ f i

-- after an entry is stored
pub get_d_set : (xs : List ℕ) (j v i : ℕ) → j < length xs → get_or (set xs j v) i 0 ≡ cond (eqb j i) v (get_or xs i 0)
get_d_set xs j v i h = go (eqb j i) refl
  where
    go : (b : Bool) → eqb j i ≡ b → get_or (set xs j v) i 0 ≡ cond b v (get_or xs i 0)
    go true e = rw (← eqb-true j i e) (get_or-set_same xs j v 0 h)
    go false e = get_or-set_other xs j i v 0 (λ q. eqb-false j i e (sym q))

get_d-blank : (n i : ℕ) → get_or {A = ℕ} (replicate n 0) i 0 ≡ 0
get_d-blank zero i = refl
get_d-blank (suc n) zero = refl
get_d-blank (suc n) (suc i) = get_d-blank n i

-- a table of nothing
pub blank : (n : ℕ) (f : ℕ → ℕ) → ((i : ℕ) → f i ≡ 0) → Tabled (replicate n 0) n f
blank n f e = record { size = length-replicate n 0; at = λ i. get_d-blank n i ∙ sym (e i) }

-- a table after an entry is stored
pub stored : (xs : List ℕ) (n : ℕ) (f g : ℕ → ℕ) (j v : ℕ) → Tabled xs n f → j < n → ((i : ℕ) → cond (eqb j i) v (f i) ≡ g i)
    → Tabled (set xs j v) n g
stored xs n f g j v h l e =
    record {
      size = length-set xs j v ∙ h.size;
      at = λ i. get_d_set xs j v i (omega (arith, h.size)) ∙ rw (h.at i) (e i);
    }

-- what the records from the k-th on give, each at its number: of two of one number the first
abbrev pub From : {A : Type 0} → (A → ℕ) → (A → ℕ) → List A → ℕ → List ℕ → ℕ → Type 0
From number value xs n ts k = Tabled ts n (λ i. lookup number value i (drop k xs))

module _ {A : Type 0} (number value : A → ℕ) (xs : List A) (n : ℕ) where
  -- none yet
  pub from-none : (k : ℕ) → k ≡ length xs → From number value xs n (replicate n 0) k
  unfolding lookup
  from-none k e = blank n (λ i. lookup number value i (drop k xs)) (λ i. rw (e, drop-length xs))

  -- one more
  pub from_more : (ts : List ℕ) (k : ℕ) (x none : A) → 0 < k → k ≤ length xs → x ≡ get_or xs (k - 1) none → number x < n
      → From number value xs n ts k → From number value xs n (set ts (number x) (value x)) (k - 1)
  unfolding lookup
  from_more ts zero x none p l e h f = absurd (omega arith)
  from_more ts (suc k) x none p l e h f =
      let q : suc k - 1 ≡ k = omega arith in
      rw q
      (stored ts n (λ i. lookup number value i (drop (suc k) xs)) (λ i. lookup number value i (drop k xs)) (number x) (value x) f h
      (λ i. rw (drop-cons xs k none (omega arith), ← (rw q at e))))

  -- all of them
  pub from_all : (ts : List ℕ) (k : ℕ) → k ≤ 0 → From number value xs n ts k → Tabled ts n (λ i. lookup number value i xs)
  from_all ts zero h f = f
  from_all ts (suc k) h f = absurd (omega arith)
