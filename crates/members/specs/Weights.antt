-- The weight that stands in each item's own frame, and the table that has it. Assumes nothing.
use Rattle.std.specs.Prelude.{◌≡◌, refl, Bool, true, false, cond, List, ℕ, ◌<◌, ◌≤◌, eqb, length}
use Rattle.std.proofs.Math.Path.{sym, subst}
use Rattle.std.proofs.Common.{◌∙◌, inl, inr, arith, le-leb}
use Rattle.std.proofs.Math.ListN.{get_or}
use Rattle.std.proofs.lemmas.Bool.{lt-leb}
use Rattle.definitions.specs.declared.Device.{Device}
use Rattle.definitions.specs.declared.Bucket.{Bucket}
use Rattle.definitions.specs.Lists.{some_of, lookup}
use Rattle.definitions.specs.Map.{Map, is_bucket, bucket_number}
use Rattle.definitions.specs.View.{device_weight}
use Rattle.definitions.specs.Load.{ranged, rising, has_device, has_bucket}
use Rattle.laws.specs.Counting.{lookup-at, lookup-none}
use Rattle.laws.specs.Loadable.{ChildRanged, rising-is}
use Rattle.text.specs.Records.{no_device, no_bucket}
use Rattle.members.specs.Levels.{slot_of, looked_up, device_own, bucket_own, devices_to, buckets_to, both-length, both-device, both-bucket}

-- what is written of bucket b
abbrev pub bucket_written : Map → ℕ → ℕ
bucket_written m b = lookup (λ (k : Bucket). k.number) (λ (k : Bucket). k.weight) b m.buckets

-- and of item i
unfoldable pub written_of : Map → ℕ → ℕ
written_of m i = cond (is_bucket i) (bucket_written m (bucket_number i)) (device_weight m i)

pub written-device : (m : Map) (i : ℕ) → i < 65536 → written_of m i ≡ device_weight m i
unfolding written_of
written-device m i h = rw (lt-leb 65536 i h)

pub written-bucket : (m : Map) (i : ℕ) → 65536 ≤ i → written_of m i ≡ bucket_written m (bucket_number i)
unfolding written_of
written-bucket m i h = rw (le-leb 65536 i h)

-- the table r has it of each item at its slot
pub record Weights (m : Map) (r : List ℕ) : Type 0 where
  pub size : length r ≡ 1280
  pub weight : (i : ℕ) → ChildRanged i → looked_up r i ≡ written_of m i

-- what is looked up is 0 where nothing has the number
some_or_none : {A : Type 0} (number f : A → ℕ) (k : ℕ) (xs : List A)
    → cond (some_of (λ (x : A). eqb (number x) k) xs) (lookup number f k xs) 0 ≡ lookup number f k xs
some_or_none number f k xs = go (some_of (λ (x : _). eqb (number x) k) xs) refl
  where
    go : (b : Bool) → some_of (λ (x : _). eqb (number x) k) xs ≡ b → cond b (lookup number f k xs) 0 ≡ lookup number f k xs
    go true e = refl
    go false e = sym (lookup-none number f k xs e)

module _ (m : Map) (h : ranged m ≡ true) (r : rising m ≡ true) where
  device-own : (k : ℕ) → k < length m.devices → device_own (get_or m.devices k no_device) ≡ device_weight m (get_or m.devices k no_device).number
  unfolding device_weight
  device-own k l = sym (lookup-at (λ (d : Device). d.number) no_device (λ (d : Device). d.weight) m.devices k (rising-is m r).devices l)

  bucket-own : (k : ℕ) → k < length m.buckets → bucket_own (get_or m.buckets k no_bucket) ≡ bucket_written m (get_or m.buckets k no_bucket).number
  bucket-own k l = sym (lookup-at (λ (b : Bucket). b.number) no_bucket (λ (b : Bucket). b.weight) m.buckets k (rising-is m r).buckets l)

  -- both loops give it
  pub weights-are : (t : List ℕ) → t ≡ buckets_to bucket_own m (devices_to device_own m (length m.devices)) (length m.buckets) → Weights m t
  unfolding has_device has_bucket device_weight
  weights-are t e =
      subst (Weights m) (sym e) (record { size = both-length m h r device_own bucket_own (device_weight m) (bucket_written m) device-own bucket-own; weight = item })
    where
      item : (i : ℕ) → ChildRanged i → get_or (buckets_to bucket_own m (devices_to device_own m (length m.devices)) (length m.buckets)) (slot_of i) 0 ≡ written_of m i
      item i (inl a) =
          both-device m h r device_own bucket_own (device_weight m) (bucket_written m) device-own bucket-own i a
          ∙ some_or_none (λ (d : Device). d.number) (λ (d : Device). d.weight) i m.devices ∙ sym (written-device m i (omega arith))
      item i (inr (a, b)) =
          both-bucket m h r device_own bucket_own (device_weight m) (bucket_written m) device-own bucket-own i a b
          ∙ some_or_none (λ (k : Bucket). k.number) (λ (k : Bucket). k.weight) (bucket_number i) m.buckets ∙ sym (written-bucket m i a)
