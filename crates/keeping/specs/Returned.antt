-- A map with other values of its drives, as a return puts them in: what stays, and that load takes it. Assumes nothing.
use Rattle.std.specs.Prelude.{◌≡◌, length, get_or}
use Rattle.std.proofs.Math.Path.{refl, sym, ap}
use Rattle.std.proofs.Common.{◌∙◌}
use Rattle.std.proofs.Math.Bool.{Bool, true, false}
use mathlib.Core.List.{List, map}
use Prim.Native.Nat.{ℕ, zero, suc}
use Rattle.std.proofs.Math.Dec.{leb, ltb, eqb}
use borrow.Author.Tests.{eq-eqb}
use Rattle.definitions.specs.declared.Device.{Device}
use Rattle.definitions.specs.declared.Bucket.{Bucket}
use Rattle.definitions.specs.declared.Action.{Action}
use Rattle.definitions.specs.declared.Action.TheVariants.{Take, Select, Emit, Idle}
use Rattle.definitions.specs.declared.Standing.{Standing}
use Rattle.definitions.specs.declared.Standing.TheVariants.{Outside, Inside, Broken}
use Rattle.definitions.specs.Lists.{every, some_of, linked}
use Rattle.definitions.specs.Map.{Map, bucket_item, is_bucket, bucket_number, actions_of}
use Rattle.definitions.specs.View.{children_of, bucket_type, kind_number, type_by, type_of, weight_of}
use Rattle.definitions.specs.Rule.{widths, width_of}
use Rattle.definitions.specs.Load.{device_ranged, bucket_ranged, rising, has_device, has_bucket, has_item, takes_present, present, once, falling, filled, narrow, stand, standing, in_blocks, typed, slim, summed, ranged}
use Rattle.definitions.specs.Edit.{with_devices, with_sum, with_sums}
use Rattle.definitions.specs.States.{numbers_of, put_state}
use Rattle.definitions.specs.Calls.{independent}
use Rattle.laws.specs.Lists.{every_map, every-all}
use Rattle.laws.specs.Counting.{every-ext, some-map, linked-map, lookup-keeps}
use Rattle.laws.specs.Loadable.{Loadable, numbers, ranged-is, is-ranged, light-always, sums-leave-weights}

module _ (m : Map) (ds : List Device) where
  abbrev m' : Map
  m' = put_state m ds

  -- groups, children and steps stay
  pub state-groups : m'.groups ≡ m.groups
  unfolding put_state with_sums
  state-groups = refl

  pub state-children : (b : ℕ) → children_of m' b ≡ children_of m b
  unfolding put_state with_sums children_of
  state-children b = refl

  pub state-actions : actions_of m' ≡ actions_of m
  unfolding put_state with_sums actions_of
  state-actions = refl

  state-links : m'.links ≡ m.links
  unfolding put_state with_sums
  state-links = refl

  state-steps : m'.steps ≡ m.steps
  unfolding put_state with_sums
  state-steps = refl

  pub state-devices : m'.devices ≡ ds
  unfolding put_state with_sums
  state-devices = refl

  pub state-widths : widths m' ≡ widths m
  unfolding widths
  state-widths = rw state-actions

  pub state-width : width_of m' ≡ width_of m
  unfolding width_of
  state-width = rw state-widths

  pub state-independent : independent m' ≡ independent m
  unfolding independent
  state-independent = rw state-actions

  -- the buckets, but for the weights that are written of them
  state-buckets : m'.buckets ≡ map (with_sum (with_devices m ds)) m.buckets
  unfolding put_state with_sums
  state-buckets = refl

  -- a test of the buckets that does not look at their weights
  state-every : (p : Bucket → Bool) → ((n : Map) (b : Bucket) → p (with_sum n b) ≡ p b) → every p m'.buckets ≡ every p m.buckets
  state-every p h =
      let n = with_devices m ds in
      rw state-buckets (every_map p (with_sum n) m.buckets ∙ every-ext (λ (b : Bucket). p (with_sum n b)) p m.buckets (h n))

  state-has-bucket : (b : ℕ) → has_bucket m' b ≡ has_bucket m b
  unfolding has_bucket
  state-has-bucket b = rw state-buckets (some-map (λ (k : Bucket). eqb k.number b) (with_sum (with_devices m ds)) m.buckets)

  pub state-bucket-type : (b : ℕ) → bucket_type m' b ≡ bucket_type m b
  unfolding bucket_type
  state-bucket-type b =
      rw state-buckets (lookup-keeps (λ (k : Bucket). k.number) (λ (k : Bucket). k.ty) (with_sum (with_devices m ds)) (λ k. refl) (λ k. refl) b m.buckets)

  pub state-kind-number : (b : ℕ) → kind_number m' b ≡ kind_number m b
  unfolding kind_number
  state-kind-number b =
      rw state-buckets (lookup-keeps (λ (k : Bucket). k.number) (λ (k : Bucket). k.kind) (with_sum (with_devices m ds)) (λ k. refl) (λ k. refl) b m.buckets)

  state-type : (i : ℕ) → type_of m' i ≡ type_of m i
  unfolding type_of type_by
  state-type i = go (is_bucket i)
    where
      go : (b : Bool) → type_by m' i b ≡ type_by m i b
      go true = state-bucket-type (bucket_number i)
      go false = refl

  state-takes : (a : Action) → takes_present m' a ≡ takes_present m a
  unfolding takes_present
  state-takes (Take b) = state-has-bucket b
  state-takes (Select mode n t) = refl
  state-takes Emit = refl
  state-takes Idle = refl

  state-stand : (s : Standing) (a : Action) → stand m' s a ≡ stand m s a
  unfolding stand
  state-stand Outside (Take b) = ap Inside (state-bucket-type b)
  state-stand Outside (Select mode n t) = refl
  state-stand Outside Emit = refl
  state-stand Outside Idle = refl
  state-stand (Inside u) (Take b) = refl
  state-stand (Inside u) (Select mode n t) = refl
  state-stand (Inside u) Emit = refl
  state-stand (Inside u) Idle = refl
  state-stand Broken a = refl

  state-standing : (k : ℕ) → standing m' k ≡ standing m k
  unfolding standing
  state-standing zero = refl
  state-standing (suc k) = rw (state-standing k, state-actions) (state-stand (standing m k) (get_or (actions_of m) k Idle))

  -- questions 8 to 12, 21 to 23, whatever the values are
  state-once : once m' ≡ once m
  unfolding put_state with_sums once
  state-once = refl

  state-falling : falling m' ≡ falling m
  unfolding falling
  state-falling = simp (state-links, state-type, state-bucket-type)

  state-filled : filled m' ≡ filled m
  unfolding filled
  state-filled =
      let p : Bucket → Bool = λ (b : Bucket). ltb 0 (length (children_of m b.number)) in
      simp state-children (state-every p (λ n b. refl))

  state-narrow : narrow m' ≡ narrow m
  unfolding narrow
  state-narrow =
      let p : Bucket → Bool = λ (b : Bucket). leb (length (children_of m b.number)) 64 in
      simp state-children (state-every p (λ n b. refl))

  state-in-blocks : in_blocks m' ≡ in_blocks m
  unfolding in_blocks
  state-in-blocks = rw (state-standing (length m'.steps), state-steps)

  state-typed : typed m' ≡ typed m
  unfolding typed
  state-typed = rw state-actions

  state-slim : slim m' ≡ slim m
  unfolding slim
  state-slim = rw (state-widths, state-width)

  state-summed : summed m' ≡ true
  unfolding summed put_state with_sums
  state-summed =
      let n = with_devices m ds in
      let w : (ℕ → ℕ) → Bucket → Bool = λ (f : ℕ → ℕ) (b : Bucket). eqb b.weight (f (bucket_item b.number)) in
      every_map (w (weight_of (with_sums n))) (with_sum n) m.buckets
      ∙ every-all (λ (b : Bucket). w (weight_of (with_sums n)) (with_sum n b)) m.buckets
      (λ b. eq-eqb (weight_of n (bucket_item b.number)) _ (sym (sums-leave-weights n (bucket_item b.number))))

  -- the drives are the same, by their numbers
  module _ (same : numbers_of ds ≡ numbers m) where
    pub state-numbers : numbers m' ≡ numbers m
    state-numbers = rw state-devices same

    state-has-device : (d : ℕ) → has_device m' d ≡ has_device m d
    unfolding has_device
    state-has-device d =
        sym (some-map (λ (n : ℕ). eqb n d) (λ (e : Device). e.number) m'.devices)
        ∙ ap (λ (ns : List ℕ). some_of (λ (n : ℕ). eqb n d) ns) state-numbers
        ∙ some-map (λ (n : ℕ). eqb n d) (λ (e : Device). e.number) m.devices

    state-has-item : (i : ℕ) → has_item m' i ≡ has_item m i
    unfolding has_item
    state-has-item i = rw (state-has-bucket (bucket_number i), state-has-device i)

    state-rising : rising m' ≡ rising m
    unfolding rising
    state-rising =
        let below : Bucket → Bucket → Bool = λ (a b : Bucket). ltb a.number b.number in
        let e : linked below m'.buckets ≡ linked below m.buckets = rw state-buckets (linked-map below (with_sum (with_devices m ds)) m.buckets) in
        rw
        (e, state-links, ← linked-map ltb (λ (d : Device). d.number) m'.devices, state-numbers, linked-map ltb (λ (d : Device). d.number) m.devices)

    state-present : present m' ≡ present m
    unfolding present
    state-present =
        rw (every-ext (takes_present m') (takes_present m) (actions_of m') state-takes, state-actions)
        (simp (state-has-bucket, state-has-item, state-links))

    state-ranged : every device_ranged ds ≡ true → ranged m ≡ true → ranged m' ≡ true
    unfolding put_state with_sums bucket_ranged
    state-ranged f e =
        let r = ranged-is m e in
        is-ranged m'
        (record {
          least = r.least;
          most = r.most;
          devices = f;
          buckets = state-every bucket_ranged (λ n b. refl) ∙ r.buckets;
          links = r.links;
          steps = r.steps;
        })

    -- with values that load takes, the map is one that load takes
    pub state-loadable : Loadable m → every device_ranged ds ≡ true → Loadable m'
    state-loadable l f =
        let g = state-ranged f l.ranged in
        let r = state-rising ∙ l.rising in
        record {
          ranged = g;
          rising = r;
          present = state-present ∙ l.present;
          once = state-once ∙ l.once;
          falling = state-falling ∙ l.falling;
          filled = state-filled ∙ l.filled;
          narrow = state-narrow ∙ l.narrow;
          in_blocks = state-in-blocks ∙ l.in_blocks;
          typed = state-typed ∙ l.typed;
          slim = state-slim ∙ l.slim;
          summed = state-summed;
          light = light-always m' g r;
        }
