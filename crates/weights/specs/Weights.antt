-- The weights of the buckets, type by type: a bucket's children have smaller types, so theirs are known. Assumes nothing.
use Rattle.std.specs.Prelude.{◌≡◌, refl, Bool, true, false, cond, ℕ, zero, suc, max, ◌+◌, ◌-◌, ◌<◌, ◌≤◌, ◌^◌, ltb, eqb, length, get_or, take, drop, set, replicate, Option, None, Some, MatchOption}
use Rattle.std.specs.Option.{unwrap_or}
use Rattle.std.proofs.Common.{sym, ◌∙◌, inl, inr, arith, lit<, length-take, length-set, drop_of_length-le, drop-cons, get_or-take, get_or-drop, ext_get_or}
use Rattle.std.proofs.Math.Path.{ap}
use mathlib.Core.List.{List, [], ◌∷◌, map}
use Rattle.std.proofs.Math.Numerals.{add-one}
use Rattle.std.proofs.lemmas.List.{length-map}
use Rattle.std.proofs.Math.ListN.{get_or-eq_default}
use borrow.Author.Tests.{ltb-true, ltb-false, eqb-true, eqb-false, le-leb, lt-leb, eq-eqb, ne_eqb}
use Rattle.definitions.specs.Lists.{sum}
use Rattle.definitions.specs.Map.{is_bucket, bucket_number}
use Rattle.laws.specs.Lists.{get_d-mapped}
use Rattle.hierarchy.specs.Arrays.{part_at, ItemRange}
use Rattle.hierarchy.specs.Tables.{get_d_set}

-- the weight of item i, where devices and loads are the weights of devices and of buckets by their numbers
unfoldable pub item_in : List ℕ → List ℕ → ℕ → ℕ
item_in devices loads i = cond (is_bucket i) (get_or loads (bucket_number i) 0) (get_or devices i 0)

-- what a device of this acceptance and weight adds to a live weight: nothing at acceptance 0
abbrev pub live_part : ℕ → ℕ → ℕ
live_part acceptance weight = cond (eqb acceptance 0) 0 weight

-- each item is one that a map can have
abbrev pub Ranged : List ℕ → Type 0
Ranged items = (i : ℕ) → ItemRange (get_or items i 0)

-- the children of the buckets, and the weights of the devices
pub record Arrays : Type 0 where
  pub first : List ℕ
  pub count : List ℕ
  pub items : List ℕ
  pub devices : List ℕ

abbrev pub arrays : List ℕ → List ℕ → List ℕ → List ℕ → Arrays
arrays f c i d = record { first = f; count = c; items = i; devices = d }

-- what is read of them lies within them
pub record Within (a : Arrays) : Type 0 where
  pub firsts : length a.first ≡ 256
  pub counts : length a.count ≡ 256
  pub weighted : length a.devices ≡ 1024
  pub inside : (b : ℕ) → get_or a.first b 0 + get_or a.count b 0 ≤ length a.items
  pub ranged : Ranged a.items

-- the sum of the weights of the children of bucket b
unfoldable pub load_in : Arrays → List ℕ → ℕ → ℕ
load_in a loads b = sum (map (item_in a.devices loads) (part_at a.first a.count b a.items))

module _ (a : Arrays) (types : List ℕ) where
  -- the loads after bucket b, where those of type ty are weighed
  unfoldable pub weighed_at : ℕ → List ℕ → ℕ → List ℕ
  weighed_at ty loads b = cond (eqb (get_or types b 0) ty) (set loads b (load_in a loads b)) loads

  -- after the first k buckets
  unfoldable pub round_to : ℕ → List ℕ → ℕ → List ℕ
  round_to ty loads zero = loads
  round_to ty loads (suc k) = weighed_at ty (round_to ty loads k) k

  -- after the types up to n. No bucket has type 0.
  unfoldable pub up_to : ℕ → List ℕ
  up_to zero = replicate 256 0
  up_to (suc n) = round_to (suc n) (up_to n) 256

  -- no load of a bucket of type ty overflows
  abbrev pub Fitting : ℕ → List ℕ → Type 0
  Fitting ty loads = (b : ℕ) → b < 256 → get_or types b 0 ≡ ty → load_in a (round_to ty loads b) b < 2 ^ 32

-- the greatest entry, 0 where there is none
unfoldable pub greatest : List ℕ → ℕ
greatest [] = 0
greatest (x ∷ xs) = max x (greatest xs)

-- ---- the weight of an item

module _ (devices loads : List ℕ) (i : ℕ) where
  pub item-bucket : 65536 ≤ i → item_in devices loads i ≡ get_or loads (bucket_number i) 0
  unfolding item_in
  item-bucket h = rw (le-leb 65536 i h)

  pub item-device : i < 65536 → item_in devices loads i ≡ get_or devices i 0
  unfolding item_in
  item-device h = rw (lt-leb 65536 i h)

-- a bucket's number has its place
pub bucket-below : (i : ℕ) → ItemRange i → 65536 ≤ i → bucket_number i < 256
bucket-below i (inl r) h = absurd (omega arith)
bucket-below i (inr r) h = omega arith

-- and a device's
pub device-below : (i : ℕ) → ItemRange i → i < 65536 → i < 1024
device-below i (inl r) h = r
device-below i (inr r) h = absurd (omega arith)

-- ---- the loops

-- a loop that sums: one more, and the end
module _ (f : ℕ → ℕ) (xs : List ℕ) (i n t : ℕ) (e : n + sum (map f (drop i xs)) ≡ t) where
  pub sum-next : (v : ℕ) → i < length xs → v ≡ f (get_or xs i 0) → n + v + sum (map f (drop (i + 1) xs)) ≡ t
  unfolding sum
  sum-next v h q = rw (q, add-one i) (omega (arith, e, ap (λ (l : List ℕ). sum (map f l)) (drop-cons xs i 0 h)))

  pub sum-end : length xs ≤ i → n ≡ t
  unfolding sum
  sum-end h = omega (arith, e, ap (λ (l : List ℕ). sum (map f l)) (drop_of_length-le xs {i = i} h))

-- a loop that fills an array from the front: one more
pub filled_more : (g : ℕ → ℕ) (ts : List ℕ) (i : ℕ) → ((j : ℕ) → j < i → get_or ts j 0 ≡ g j) → (v : ℕ) → i < length ts → v ≡ g i
    → (j : ℕ) → j < i + 1 → get_or (set ts i v) j 0 ≡ g j
filled_more g ts i e v h q j l = get_d_set ts i v j h ∙ go (eqb i j) refl
  where
    go : (t : Bool) → eqb i j ≡ t → cond t v (get_or ts j 0) ≡ g j
    go true p = q ∙ ap g (eqb-true i j p)
    go false p = let d : i ≡ j → ⊥ = eqb-false i j p in e j (omega arith)

-- and all, of those of a list
pub filled-all : (f : ℕ → ℕ) (xs ts : List ℕ) (i : ℕ) → ((j : ℕ) → j < i → get_or ts j 0 ≡ f (get_or xs j 0)) → length xs ≡ length ts → length ts ≤ i → ts ≡ map f xs
filled-all f xs ts i e n h =
    ext_get_or 0 ts (map f xs) (sym n ∙ sym (length-map xs f))
    (λ j l. e j (omega arith) ∙ sym (get_d-mapped f xs j 0 0 (omega arith)))

-- each is at most the greatest
pub at_most : (xs : List ℕ) (i : ℕ) → get_or xs i 0 ≤ greatest xs
unfolding greatest
at_most [] i = omega arith
at_most (x ∷ xs) zero = omega arith
at_most (x ∷ xs) (suc i) = omega (arith, at_most xs i)

-- and the greatest at most what each is
least : (xs : List ℕ) (m : ℕ) → ((k : ℕ) → k < length xs → get_or xs k 0 ≤ m) → greatest xs ≤ m
unfolding greatest
least [] m h = omega arith
least (x ∷ xs) m h = let here : x ≤ m = h 0 (omega arith) in omega (arith, here, least xs m (λ k l. h (suc k) (omega arith)))

-- an entry that no other exceeds, or 0 where there is none
pub greatest-is : (xs : List ℕ) (o : Option ℕ)
    → MatchOption o (length xs ≡ 0) (λ m. ((k : ℕ) × (k < length xs) × (get_or xs k 0 ≡ m)) × ((k : ℕ) → k < length xs → get_or xs k 0 ≤ m))
    → unwrap_or o 0 ≡ greatest xs
greatest-is xs None e = let l = least xs 0 (λ k l. absurd (omega (arith, e, l))) in omega (arith, l)
greatest-is xs (Some m) (k, h) = omega (arith, k.2, at_most xs k.0, least xs m h)

-- a round: one bucket more, of the type or not
module _ (a : Arrays) (types : List ℕ) (ty b : ℕ) (loads₀ loads : List ℕ) (e : loads ≡ round_to a types ty loads₀ b) where
  pub round-taken : (v : ℕ) → get_or types b 0 ≡ ty → v ≡ load_in a loads b → set loads b v ≡ round_to a types ty loads₀ (b + 1)
  unfolding round_to weighed_at
  round-taken v q r = rw (add-one b, ← e, eq-eqb (get_or types b 0) ty q, r)

  pub round-left : (get_or types b 0 ≡ ty → ⊥) → loads ≡ round_to a types ty loads₀ (b + 1)
  unfolding round_to weighed_at
  round-left q = rw (add-one b, ← e, ne_eqb (get_or types b 0) ty q)

-- one type more
pub type-more : (a : Arrays) (types loads next : List ℕ) (n : ℕ) → loads ≡ up_to a types n → next ≡ round_to a types (n + 1) loads 256
    → next ≡ up_to a types (n + 1)
unfolding up_to
type-more a types loads next n e q = q ∙ rw (e, add-one n)

-- a round leaves the length
pub round-length : (a : Arrays) (types : List ℕ) (ty : ℕ) (loads : List ℕ) (k : ℕ) → length (round_to a types ty loads k) ≡ length loads
unfolding round_to weighed_at
round-length a types ty loads zero = refl
round-length a types ty loads (suc k) = go (eqb (get_or types k 0) ty) (round-length a types ty loads k)
  where
    l : List ℕ
    l = round_to a types ty loads k

    go : (t : Bool) → length l ≡ length loads → length (cond t (set l k (load_in a l k)) l) ≡ length loads
    go true h = length-set l k (load_in a l k) ∙ h
    go false h = h

-- a part of items
pub part-ranged : (items : List ℕ) (a n : ℕ) → Ranged items → Ranged (take n (drop a items))
part-ranged items a n r i = go (ltb i n) refl
  where
    go : (t : Bool) → ltb i n ≡ t → ItemRange (get_or (take n (drop a items)) i 0)
    go true e = rw (get_or-take n (drop a items) i 0 (ltb-true i n e), get_or-drop a items i 0) (r (a + i))
    go false e =
        let h : length (take n (drop a items)) ≤ i = omega (arith, ltb-false i n e, length-take n (drop a items)) in
        inl (rw (get_or-eq_default (take n (drop a items)) 0 h) (lit< tt))

-- the load of bucket b, as the code has its part of the items
pub load_part : (a : Arrays) (loads : List ℕ) (b : ℕ)
    → let x = get_or a.first b 0 in sum (map (item_in a.devices loads) (take (x + get_or a.count b 0 - x) (drop x a.items))) ≡ load_in a loads b
unfolding load_in
load_part a loads b =
    let x = get_or a.first b 0 in
    let e : x + get_or a.count b 0 - x ≡ get_or a.count b 0 = omega arith in
    rw e
