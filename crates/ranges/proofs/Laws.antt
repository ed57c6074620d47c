-- Laws of the loop of question 13: what is known where records 0 to k - 1 of a list are read, one record more, and the end. n is the count that the
-- code has of the list, and x what it reads at place k. Assumes nothing.
use mathlib.Core.Path.{◌≡◌, refl}
use mathlib.Core.Bool.{true}
use mathlib.Core.List.{List, map}
use Prim.Native.Nat.{ℕ, zero, suc, ◌+◌, ◌*◌, ◌<◌, ◌≤◌}
use native.Mathlib.Omega.{arith}
use native.Mathlib.Numerals.{add-one}
use lib.Dec.{leb}
use lib.ListN.{length, get_or, drop, drop_of_length-le}
use lib.Seq.{drop-cons}
use borrow.Author.Tests.{le-leb}
use Rattle.definitions.specs.declared.Device.{Device}
use Rattle.definitions.specs.Lists.{every, sum}
use Rattle.definitions.specs.Map.{map_of}
use Rattle.definitions.specs.Load.{device_ranged, ranged}
use Rattle.laws.specs.Lists.{every-mono}
use Rattle.laws.specs.Counting.{sum_bound}
use Rattle.laws.specs.Loadable.{ranged-is, device-ranged}
use Rattle.text.specs.Lines.{plain}
use Rattle.text.specs.RoundTrip.{Framed}
use Rattle.text.specs.Records.{device-at}

-- ---- a loop that adds up a number of each record; v is the sum so far

module _ {A : Type 0} (f : A → ℕ) (xs : List A) where
  -- with the records that are left, v comes to the whole
  abbrev pub Summed : ℕ → ℕ → Type 0
  Summed k v = (k ≤ length xs) × (v + sum (map f (drop k xs)) ≡ sum (map f xs))

  -- no record is read
  pub summed-none : Summed 0 0
  summed-none = (omega arith, omega arith)

  module _ (n k v : ℕ) (e : n ≡ length xs) (h : Summed k v) where
    -- all are read
    pub summed-end : n ≤ k → v ≡ sum (map f xs)
    unfolding sum
    summed-end l = let z = rw (drop_of_length-le xs {i = k} (omega (arith, e))) at h.1 in omega (arith, z)

    module _ (d x : A) (l : k < n) (p : x ≡ get_or xs k d) where
      summed-more : v + f x + sum (map f (drop (k + 1) xs)) ≡ sum (map f xs)
      unfolding sum
      summed-more =
          let z : sum (map f (drop k xs)) ≡ f x + sum (map f (drop (k + 1) xs)) = rw (p, add-one k, drop-cons xs k d (omega (arith, e))) in
          omega (arith, z, h.1)

      -- one more is read
      pub summed-next : Summed (k + 1) (v + f x)
      summed-next = (omega (arith, e), summed-more)

      -- which does not come to more than the whole
      pub summed-most : v + f x ≤ sum (map f xs)
      summed-most = omega (arith, summed-more)

-- the text has a line for each device
devices-room : (t : List ℕ) → Framed t → (n : ℕ) → n ≡ length (map_of t).devices → n ≤ length t
devices-room t h zero e = omega arith
devices-room t h (suc n) e = omega (arith, (device-at t h n (omega (arith, e))).room)

-- so there are fewer devices than the 65,536 bytes that question 1 allows, and question 5 bounds the weight of each
pub weights-most : (t : List ℕ) → Framed t → ranged (map_of t) ≡ true → sum (map (λ (d : Device). d.weight) (map_of t).devices) ≤ 65536 * 65535
weights-most t h r =
    let xs = (map_of t).devices in
    let e : every (λ (d : Device). leb d.weight 65535) xs ≡ true = every-mono device_ranged (λ (d : Device). leb d.weight 65535) xs
    (λ d u. le-leb d.weight 65535 (device-ranged d u).weight) (ranged-is (map_of t) r).devices in
    omega (arith, sum_bound (λ (d : Device). d.weight) 65535 xs e, devices-room t h (length xs) refl, (plain t h.sized).most)
