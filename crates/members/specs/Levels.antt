-- The level of each item, and the table that has it: filled by a loop over the devices and one over the buckets. Assumes nothing.
use Rattle.std.specs.Prelude.{◌≡◌, true, cond, List, length, get_or, set}
use Rattle.std.proofs.Math.Path.{refl, ap, subst}
use Rattle.std.proofs.Common.{sym, ◌∙◌, inl, inr, arith, add-one, le-leb}
use Prim.Native.Nat.{ℕ, ◌+◌, ◌-◌, ◌<◌, ◌≤◌}
use Rattle.std.proofs.lemmas.Bool.{lt-leb}
use Rattle.definitions.specs.declared.Device.{Device}
use Rattle.definitions.specs.declared.Bucket.{Bucket}
use Rattle.definitions.specs.declared.Link.{Link}
use Rattle.definitions.specs.Map.{Map, is_bucket, bucket_item, bucket_number}
use Rattle.definitions.specs.View.{bucket_type, type_by, type_of}
use Rattle.definitions.specs.Load.{device_ranged, bucket_ranged, link_ranged, ranged, rising, has_device, has_bucket, has_item}
use Rattle.laws.specs.Lists.{every-at}
use Rattle.laws.specs.Counting.{lookup-at}
use Rattle.laws.specs.Loadable.{ranged-is, DeviceRanged, device-ranged, BucketRanged, bucket-ranged, ChildRanged, LinkRanged, link-ranged, rising-is}
use Rattle.text.specs.Records.{no_device, no_bucket, no_link}
use Rattle.members.specs.Tables.{blank, blank-length, blank-at, put_to, put-length, put_other, put_is}

-- the slot of item i: devices first, and buckets behind them
unfoldable pub slot_of : ℕ → ℕ
slot_of i = cond (is_bucket i) (i - 65536 + 1024) i

-- 0 where item i is absent, and its type plus 1 where it is present
unfoldable pub level_of : Map → ℕ → ℕ
level_of m i = cond (has_item m i) (type_of m i + 1) 0

-- what the table r has at the slot of item i
abbrev pub looked_up : List ℕ → ℕ → ℕ
looked_up r i = get_or r (slot_of i) 0

-- the table r has each item's level at its slot
pub record Levels (m : Map) (r : List ℕ) : Type 0 where
  pub size : length r ≡ 1280
  pub level : (i : ℕ) → ChildRanged i → looked_up r i ≡ level_of m i

-- ---- slots

pub slot-device : (i : ℕ) → i < 65536 → i ≡ slot_of i
unfolding slot_of
slot-device i h = rw (lt-leb 65536 i h)

pub slot-bucket : (i : ℕ) → 65536 ≤ i → i - 65536 + 1024 ≡ slot_of i
unfolding slot_of
slot-bucket i h = rw (le-leb 65536 i h)

-- that of bucket b
pub slot-number : (b : ℕ) → slot_of (bucket_item b) ≡ b + 1024
slot-number b = let z : bucket_item b - 65536 ≡ b = omega arith in sym (slot-bucket (bucket_item b) (omega arith)) ∙ ap (λ (n : ℕ). n + 1024) z

pub slot_small : (i : ℕ) → ChildRanged i → slot_of i < 1280
slot_small i (inl a) = rw (← slot-device i (omega arith)) (omega arith)
slot_small i (inr (a, b)) = rw (← slot-bucket i a) (omega arith)

-- two items have two slots
pub slot-one : (i j : ℕ) → ChildRanged i → ChildRanged j → slot_of i ≡ slot_of j → i ≡ j
slot-one i j (inl a) (inl b) e = omega (arith, e, slot-device i (omega arith), slot-device j (omega arith))
slot-one i j (inl a) (inr (b, c)) e = omega (arith, e, slot-device i (omega arith), slot-bucket j b)
slot-one i j (inr (a, c)) (inl b) e = omega (arith, e, slot-bucket i a, slot-device j (omega arith))
slot-one i j (inr (a, c)) (inr (b, d)) e = omega (arith, e, slot-bucket i a, slot-bucket j b)

-- a bucket's item number is in range
pub bucket-item : (b : ℕ) → b ≤ 255 → ChildRanged (bucket_item b)
bucket-item b h = inr (omega arith, omega arith)

-- ---- the records that are read at a place are in range

module _ (m : Map) (h : ranged m ≡ true) (k : ℕ) where
  pub device-in : (d : Device) → k < length m.devices → d ≡ get_or m.devices k no_device → DeviceRanged d
  device-in d l e = subst DeviceRanged (sym e) (device-ranged _ (every-at device_ranged m.devices k no_device (ranged-is m h).devices l))

  pub bucket-in : (b : Bucket) → k < length m.buckets → b ≡ get_or m.buckets k no_bucket → BucketRanged b
  bucket-in b l e = subst BucketRanged (sym e) (bucket-ranged _ (every-at bucket_ranged m.buckets k no_bucket (ranged-is m h).buckets l))

  pub link-in : (n : Link) → k < length m.links → n ≡ get_or m.links k no_link → LinkRanged n
  link-in n l e = subst LinkRanged (sym e) (link-ranged _ (every-at link_ranged m.links k no_link (ranged-is m h).links l))

-- ---- the table

abbrev number : Device → ℕ
number d = d.number

-- what is put of a device and of a bucket: its level, and the weight in its frame
abbrev pub device_level : Device → ℕ
device_level d = 1

abbrev pub device_own : Device → ℕ
device_own d = d.weight

abbrev pub bucket_level : Bucket → ℕ
bucket_level b = b.ty + 1

abbrev pub bucket_own : Bucket → ℕ
bucket_own b = b.weight

-- after the first k devices, f of each at its slot
unfoldable pub devices_to : (Device → ℕ) → Map → ℕ → List ℕ
devices_to f m k = put_to (λ (d : Device). d.number) f no_device m.devices (blank 1280) k

-- from a table t, after the first k buckets, f of each
unfoldable pub buckets_to : (Bucket → ℕ) → Map → List ℕ → ℕ → List ℕ
buckets_to f m t k = put_to (λ (b : Bucket). b.number + 1024) f no_bucket m.buckets t k

module _ (m : Map) where
  -- a loop that makes the first: its start, and one device more
  pub devices-none : (f : Device → ℕ) → blank 1280 ≡ devices_to f m 0
  unfolding devices_to put_to
  devices-none f = refl

  pub devices-more : (f : Device → ℕ) (k : ℕ) (t : List ℕ) (d : Device) → t ≡ devices_to f m k → d ≡ get_or m.devices k no_device
      → set t d.number (f d) ≡ devices_to f m (k + 1)
  unfolding devices_to put_to
  devices-more f k t d e q = rw (add-one k, e, q)

  -- and one that makes the second
  pub buckets-none : (f : Bucket → ℕ) (t : List ℕ) → t ≡ buckets_to f m t 0
  unfolding buckets_to put_to
  buckets-none f t = refl

  pub buckets-more : (f : Bucket → ℕ) (t : List ℕ) (k : ℕ) (u : List ℕ) (b : Bucket) → u ≡ buckets_to f m t k → b ≡ get_or m.buckets k no_bucket
      → set u (b.number + 1024) (f b) ≡ buckets_to f m t (k + 1)
  unfolding buckets_to put_to
  buckets-more f t k u b e q = rw (add-one k, e, q)

  -- what both loops together put: f of the devices, which is v of their numbers, and g of the buckets, which is w of theirs
  module _ (h : ranged m ≡ true) (r : rising m ≡ true) (f : Device → ℕ) (g : Bucket → ℕ) (v w : ℕ → ℕ)
      (p : (k : ℕ) → k < length m.devices → f (get_or m.devices k no_device) ≡ v (get_or m.devices k no_device).number)
      (q : (k : ℕ) → k < length m.buckets → g (get_or m.buckets k no_bucket) ≡ w (get_or m.buckets k no_bucket).number) where
    abbrev devices_put : List ℕ
    devices_put = devices_to f m (length m.devices)

    abbrev pub both_put : List ℕ
    both_put = buckets_to g m devices_put (length m.buckets)

    -- what the loop over devices leaves at a device's slot, and behind those
    device-put : (i : ℕ) → i < 1024 → get_or devices_put i 0 ≡ cond (has_device m i) (v i) 0
    unfolding devices_to has_device
    device-put i l =
        put_is number (λ (n : ℕ). n) f no_device m.devices (blank 1280) v (λ a b e. e) (rising-is m r).devices p i (omega (arith, blank-length 1280))
        ∙ ap (cond (has_device m i) (v i)) (blank-at 1280 i (omega arith))

    device-length : length devices_put ≡ 1280
    unfolding devices_to
    device-length = put-length number f no_device m.devices (blank 1280) (length m.devices) ∙ blank-length 1280

    device-behind : (i : ℕ) → 1024 ≤ i → i < 1280 → get_or devices_put i 0 ≡ 0
    unfolding devices_to
    device-behind i k l =
        put_other number f no_device m.devices (blank 1280) i (length m.devices) (λ j b e. omega (arith, e, (device-in m h j _ b refl).number)) ∙ blank-at 1280 i l

    pub both-length : length both_put ≡ 1280
    unfolding buckets_to
    both-length = put-length (λ (b : Bucket). b.number + 1024) g no_bucket m.buckets devices_put (length m.buckets) ∙ device-length

    -- what both leave at a device's slot
    pub both-device : (i : ℕ) → i < 1024 → get_or both_put (slot_of i) 0 ≡ cond (has_device m i) (v i) 0
    unfolding buckets_to
    both-device i l =
        rw (← slot-device i (omega arith))
        (put_other (λ (b : Bucket). b.number + 1024) g no_bucket m.buckets devices_put i (length m.buckets) (λ j b e. omega (arith, e)) ∙ device-put i l)

    -- and at a bucket's
    pub both-bucket : (i : ℕ) → 65536 ≤ i → i ≤ 65791 → get_or both_put (slot_of i) 0 ≡ cond (has_bucket m (bucket_number i)) (w (bucket_number i)) 0
    unfolding buckets_to has_bucket
    both-bucket i a l =
        rw (← slot-bucket i a)
        (put_is (λ (b : Bucket). b.number) (λ (n : ℕ). n + 1024) g no_bucket m.buckets devices_put w (λ x y e. omega (arith, e)) (rising-is m r).buckets q (i - 65536) (omega (arith, device-length))
        ∙ ap (cond (has_bucket m (i - 65536)) (w (i - 65536))) (device-behind (i - 65536 + 1024) (omega arith) (omega arith)))

  -- the level of a device, and of a bucket
  level-device : (i : ℕ) → i < 65536 → level_of m i ≡ cond (has_device m i) 1 0
  unfolding level_of has_item type_of type_by
  level-device i h = rw (lt-leb 65536 i h)

  level-bucket : (i : ℕ) → 65536 ≤ i → level_of m i ≡ cond (has_bucket m (bucket_number i)) (bucket_type m (bucket_number i) + 1) 0
  unfolding level_of has_item type_of type_by
  level-bucket i h = rw (le-leb 65536 i h)

  -- of the levels
  pub levels-are : ranged m ≡ true → rising m ≡ true → (t : List ℕ)
      → t ≡ buckets_to bucket_level m (devices_to device_level m (length m.devices)) (length m.buckets) → Levels m t
  unfolding bucket_type
  levels-are h r t e = subst (Levels m) (sym e) (record { size = both-length h r device_level bucket_level v w p q; level = item })
    where
      v : ℕ → ℕ
      v n = 1

      w : ℕ → ℕ
      w n = bucket_type m n + 1

      p : (k : ℕ) → k < length m.devices → device_level (get_or m.devices k no_device) ≡ v (get_or m.devices k no_device).number
      p k l = refl

      q : (k : ℕ) → k < length m.buckets → bucket_level (get_or m.buckets k no_bucket) ≡ w (get_or m.buckets k no_bucket).number
      q k l = ap (λ (n : ℕ). n + 1) (sym (lookup-at (λ (b : Bucket). b.number) no_bucket (λ (b : Bucket). b.ty) m.buckets k (rising-is m r).buckets l))

      item : (i : ℕ) → ChildRanged i → get_or (both_put h r device_level bucket_level v w p q) (slot_of i) 0 ≡ level_of m i
      item i (inl a) = both-device h r device_level bucket_level v w p q i a ∙ sym (level-device i (omega arith))
      item i (inr (a, b)) = both-bucket h r device_level bucket_level v w p q i a b ∙ sym (level-bucket i a)
