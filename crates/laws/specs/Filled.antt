-- Document 02, question 22: in a loadable map each bucket has a child and holds a device, so the map has a bucket and a device. Assumes
-- nothing.
use Rattle.std.specs.Prelude.{◌≡◌, Bool, true, false, cond}
use Rattle.std.proofs.Math.Path.{refl, subst}
use Rattle.std.proofs.Common.{ap, arith, ltb-true, leb-true}
use mathlib.Core.List.{Memᴰ}
use Prim.Native.Nat.{ℕ, zero, suc, ◌<◌, ◌≤◌}
use Rattle.std.proofs.Math.Dec.{ltb}
use Rattle.std.proofs.Math.ListN.{length, get_or}
use Rattle.definitions.specs.declared.Action.{Action}
use Rattle.definitions.specs.declared.Action.TheVariants.{Idle}
use Rattle.definitions.specs.declared.Bucket.{Bucket}
use Rattle.definitions.specs.declared.Device.{Device}
use Rattle.definitions.specs.declared.Standing.{Standing}
use Rattle.definitions.specs.declared.Standing.TheVariants.{Outside}
use Rattle.definitions.specs.Map.{Map, is_bucket, bucket_item, bucket_number, actions_of}
use Rattle.definitions.specs.View.{children_of, bucket_type, type_of}
use Rattle.definitions.specs.Load.{has_device, has_bucket, has_item, filled, standing}
use Rattle.laws.specs.Lists.{every-at}
use Rattle.laws.specs.Members.{mem-at}
use Rattle.laws.specs.Counting.{number_at}
use Rattle.laws.specs.Loadable.{Loadable, in_blocks_lem}
use Rattle.laws.specs.Blocks.{InOrder, takes, selects, emits, step-in-order, length-actions}
use Rattle.laws.specs.Forest.{Holds, is, above, holds-up, type-bucket, kids_of, kids-bucket, forest}
use Rattle.laws.specs.Found.{present-typed, child-present, taken-bucket}

module _ (m : Map) (L : Loadable m) where
  -- a bucket that is present has a child
  pub bucket-filled : (b : ℕ) → has_bucket m b ≡ true → 0 < length (children_of m b)
  unfolding has_bucket filled
  bucket-filled b e =
      let none : Bucket = record { number = 0; ty = 0; kind = 0; weight = 0 } in
      let (k, l, q) = number_at (λ (c : Bucket). c.number) none b m.buckets e in
      let h = every-at (λ (c : Bucket). ltb 0 (length (children_of m c.number))) m.buckets k none L.filled l in
      subst (λ (n : ℕ). 0 < length (children_of m n)) q (ltb-true 0 _ h)

  abbrev HoldsDevice : ℕ → Type 0
  HoldsDevice i = (d : ℕ) × Holds (kids_of m) i d × (has_device m d ≡ true)

  -- a bucket of a type of at most f: its first child is a device, or a bucket of a smaller type
  holds-in : (f b : ℕ) → bucket_type m b ≤ f → has_bucket m b ≡ true → HoldsDevice (bucket_item b)
  unfolding has_item
  holds-in zero b l e = absurd (omega (arith, present-typed m L b e))
  holds-in (suc f) b l e = go (is_bucket c) refl (child-present m L b c child) (holds-in f)
    where
      c : ℕ
      c = get_or (children_of m b) 0 0

      child : Memᴰ c (children_of m b)
      child = mem-at 0 (children_of m b) 0 (bucket-filled b e)

      kid : Memᴰ c (kids_of m (bucket_item b))
      kid = rw (kids-bucket m b) child

      go : (u : Bool) → is_bucket c ≡ u → cond u (has_bucket m (bucket_number c)) (has_device m c) ≡ true
          → ((n : ℕ) → bucket_type m n ≤ f → has_bucket m n ≡ true → HoldsDevice (bucket_item n)) → HoldsDevice (bucket_item b)
      go false q h below = (c, above kid (is refl), h)
      go true q h below =
          let same : bucket_item (bucket_number c) ≡ c = omega (arith, leb-true 65536 c q) in
          let less = (forest m L).falls (bucket_item b) c kid in
          let (d, o, g) = below (bucket_number c)
          (omega (arith, less, type-bucket m b, type-bucket m (bucket_number c), ap (type_of m) same)) h in
          (d, holds-up (kids_of m) (type_of m) (forest m L) kid (subst (λ (i : ℕ). Holds (kids_of m) i d) same o), g)

  -- it holds a device
  pub bucket-device : (b : ℕ) → has_bucket m b ≡ true → (d : ℕ) × Holds (kids_of m) (bucket_item b) d × (has_device m d ≡ true)
  bucket-device b e = holds-in (bucket_type m b) b (omega arith) e

  -- the rule begins with a take, whose bucket is present
  pub has-bucket : (b : ℕ) × (has_bucket m b ≡ true)
  unfolding standing
  has-bucket = go (step-in-order m L.in_blocks 0 inside) refl refl
    where
      inside : 0 < length (actions_of m)
      inside = omega (arith, length-actions m, (in_blocks_lem m L.in_blocks).least)

      go : {st st' : Standing} {a : Action} → InOrder m st a st' → st ≡ Outside → get_or (actions_of m) 0 Idle ≡ a → (b : ℕ) × (has_bucket m b ≡ true)
      go (takes {b}) p q = (b, taken-bucket m L 0 b inside q)
      go (selects l) p q = absurd (let z : ◌≡◌ {A = ℕ} 0 1 = cc in omega arith)
      go emits p q = absurd (let z : ◌≡◌ {A = ℕ} 0 1 = cc in omega arith)

  -- a loadable map has a bucket
  pub buckets-some : 0 < length m.buckets
  unfolding has_bucket
  buckets-some =
      let (b, e) = has-bucket in
      let (k, l, q) = number_at (λ (c : Bucket). c.number) (record { number = 0; ty = 0; kind = 0; weight = 0 }) b m.buckets e in
      omega (arith, l)

  -- and a device
  pub devices-some : 0 < length m.devices
  unfolding has_device
  devices-some =
      let (b, e) = has-bucket in
      let (d, o, h) = bucket-device b e in
      let (k, l, q) = number_at (λ (c : Device). c.number) (record { number = 0; weight = 0; acceptance = 0 }) d m.devices h in
      omega (arith, l)
