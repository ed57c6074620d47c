-- What holds of a map that load takes, by its record: how large it is, and that a fitting edit leaves it so. Assumes nothing.
use Rattle.std.specs.Prelude.{◌≡◌, cond, ◌&&◌, ◌||◌, ◌⊎◌, length, get_or, Option, None, Some}
use Rattle.std.proofs.Math.Path.{refl, sym, ap}
use Rattle.std.proofs.Common.{◌∙◌, inl, inr, arith, leb-true, ltb-true, eqb-true, lt-ltb, le-leb, eq-eqb}
use Rattle.std.proofs.Math.Bool.{Bool, true, false}
use mathlib.Core.List.{List, [], ◌∷◌, map}
use Prim.Native.Nat.{ℕ, zero, suc, ◌%◌, ◌<◌, ◌≤◌}
use Rattle.std.proofs.Math.Dec.{leb, ltb, eqb}
use Rattle.std.proofs.lemmas.List.{length-map}
use Rattle.definitions.specs.declared.Device.{Device}
use Rattle.definitions.specs.declared.Bucket.{Bucket}
use Rattle.definitions.specs.declared.Link.{Link}
use Rattle.definitions.specs.declared.Action.{Action}
use Rattle.definitions.specs.declared.Action.TheVariants.{Take, Select, Emit, Idle}
use Rattle.definitions.specs.declared.Standing.{Standing}
use Rattle.definitions.specs.declared.Standing.TheVariants.{Outside, Inside, Broken}
use Rattle.definitions.specs.declared.Change.{Change}
use Rattle.definitions.specs.declared.Change.TheVariants.{Acceptance, Weight}
use Rattle.definitions.specs.Lists.{every, some_of, linked, lookup, sum, first_no}
use Rattle.definitions.specs.Map.{Map, bucket_item, is_bucket, bucket_number, actions_of}
use Rattle.definitions.specs.View.{children_of, bucket_type, kind_from, kind_number, bucket_kind, type_by, type_of, acceptance_of, device_weight, weight_by, weight_in, weight_of}
use Rattle.definitions.specs.Rule.{widths, width_of}
use Rattle.definitions.specs.Load.{within, device_ranged, bucket_ranged, link_ranged, step_ranged, ranged, link_below, rising, has_device, has_bucket, has_item, takes_present, present, once, falling, filled, narrow, stand, standing, is_outside, in_blocks, typed, slim, summed, light, map_questions, loadable}
use Rattle.definitions.specs.Edit.{with_acceptance, with_weight, with_devices, with_sum, with_sums, put}
use Rattle.definitions.specs.Calls.{fits}
use Rattle.laws.specs.Lists.{both, every_map, every-mono, every-all}
use Rattle.laws.specs.Questions.{answer_to, answered}
use Rattle.laws.specs.Counting.{distinct-most, distinct-map, rising-bound, sum_bound, every-ext, some-map, linked-map, map-keeps, lookup-keeps, lookup-puts}

-- ---- the questions that are put to the map

-- a map of which each question is answered yes
pub record Loadable (m : Map) : Type 0 where
  pub ranged : ranged m ≡ true
  pub rising : rising m ≡ true
  pub present : present m ≡ true
  pub once : once m ≡ true
  pub falling : falling m ≡ true
  pub filled : filled m ≡ true
  pub narrow : narrow m ≡ true
  pub in_blocks : in_blocks m ≡ true
  pub typed : typed m ≡ true
  pub slim : slim m ≡ true
  pub summed : summed m ≡ true
  pub light : light m ≡ true

-- load's answer gives each question's
pub loadable-is : (m : Map) → loadable m ≡ true → Loadable m
unfolding loadable map_questions every answer_to
loadable-is m e =
    let y = answered (map_questions m) refl (eqb-true _ _ e) in
    record { ranged = y 5; rising = y 6; present = y 7; once = y 8; falling = y 9; filled = y 22; narrow = y 10; in_blocks = y 11; typed = y 21; slim = y 12; summed = y 23; light = y 13 }

-- and these give load's
pub is-loadable : (m : Map) → Loadable m → loadable m ≡ true
unfolding loadable map_questions first_no
is-loadable m l = rw (l.ranged, l.rising, l.present, l.once, l.falling, l.filled, l.narrow, l.in_blocks, l.typed, l.slim, l.summed, l.light)

-- ---- questions taken apart

within-is : (l h a : ℕ) → within l h a ≡ true → (l ≤ a) × (a ≤ h)
within-is l h a e = let b = both (leb l a) (leb a h) e in (leb-true l a b.0, leb-true a h b.1)

-- what question 5 says of a map
pub record Ranged (m : Map) : Type 0 where
  pub least : 1 ≤ m.groups
  pub most : m.groups ≤ 65536
  pub devices : every device_ranged m.devices ≡ true
  pub buckets : every bucket_ranged m.buckets ≡ true
  pub links : every link_ranged m.links ≡ true
  pub steps : every step_ranged m.steps ≡ true

-- question 5 taken apart
pub ranged-is : (m : Map) → ranged m ≡ true → Ranged m
unfolding ranged
ranged-is m e =
    let g = within 1 65536 m.groups in
    let d = every device_ranged m.devices in
    let b = every bucket_ranged m.buckets in
    let l = every link_ranged m.links in
    let q4 = both (g && d && b && l) (every step_ranged m.steps) e in
    let q3 = both (g && d && b) l q4.0 in
    let q2 = both (g && d) b q3.0 in
    let q1 = both g d q2.0 in
    let q0 = within-is 1 65536 m.groups q1.0 in
    record { least = q0.0; most = q0.1; devices = q1.1; buckets = q2.1; links = q3.1; steps = q4.1 }

-- and put together
pub is-ranged : (m : Map) → Ranged m → ranged m ≡ true
unfolding ranged
is-ranged m r =
    rw (le-leb 1 m.groups r.least, le-leb m.groups 65536 r.most, r.devices, r.buckets, r.links, r.steps)

-- of a device
pub record DeviceRanged (d : Device) : Type 0 where
  pub number : d.number ≤ 1023
  pub weight : d.weight ≤ 65535
  pub acceptance : d.acceptance ≤ 65536

-- a device's ranges taken apart
pub device-ranged : (d : Device) → device_ranged d ≡ true → DeviceRanged d
unfolding device_ranged
device-ranged d e =
    let q1 = both (leb d.number 1023 && leb d.weight 65535) (leb d.acceptance 65536) e in
    let q0 = both (leb d.number 1023) (leb d.weight 65535) q1.0 in
    record { number = leb-true _ _ q0.0; weight = leb-true _ _ q0.1; acceptance = leb-true _ _ q1.1 }

-- and put together
pub ranged-device : (d : Device) → DeviceRanged d → device_ranged d ≡ true
unfolding device_ranged
ranged-device d r = rw (le-leb _ 1023 r.number, le-leb _ 65535 r.weight, le-leb _ 65536 r.acceptance)

-- of a bucket
pub record BucketRanged (b : Bucket) : Type 0 where
  pub number : b.number ≤ 255
  pub least : 1 ≤ b.ty
  pub most : b.ty ≤ 255
  pub kinds : (1 ≤ b.kind) × (b.kind ≤ 2)

-- a bucket's ranges taken apart
pub bucket-ranged : (b : Bucket) → bucket_ranged b ≡ true → BucketRanged b
unfolding bucket_ranged
bucket-ranged b e =
    let p = both (leb b.number 255 && within 1 255 b.ty) (within 1 2 b.kind) e in
    let q = both (leb b.number 255) (within 1 255 b.ty) p.0 in
    let t = within-is 1 255 b.ty q.1 in
    record { number = leb-true _ _ q.0; least = t.0; most = t.1; kinds = within-is 1 2 b.kind p.1 }

-- of a child: a device's item number or a bucket's
abbrev pub ChildRanged : ℕ → Type 0
ChildRanged c = (c < 1024) ⊎ ((65536 ≤ c) × (c ≤ 65791))

abbrev child_ranged : ℕ → Bool
child_ranged c = ltb c 1024 || within 65536 65791 c

child-ranged : (c : ℕ) → child_ranged c ≡ true → ChildRanged c
child-ranged c e = go (ltb c 1024) refl e
  where
    go : (b : Bool) → ltb c 1024 ≡ b → b || within 65536 65791 c ≡ true → ChildRanged c
    go true h r = inl (ltb-true c 1024 h)
    go false h r = inr (within-is 65536 65791 c r)

-- of a link
pub record LinkRanged (l : Link) : Type 0 where
  pub bucket : l.bucket ≤ 255
  pub child : ChildRanged l.child

-- a link's ranges taken apart
pub link-ranged : (l : Link) → link_ranged l ≡ true → LinkRanged l
unfolding link_ranged
link-ranged l e =
    let q = both (leb l.bucket 255) (child_ranged l.child) e in
    record { bucket = leb-true _ _ q.0; child = child-ranged l.child q.1 }

-- what question 6 says
pub record Rising (m : Map) : Type 0 where
  pub devices : linked (λ (d e : Device). ltb d.number e.number) m.devices ≡ true
  pub buckets : linked (λ (b c : Bucket). ltb b.number c.number) m.buckets ≡ true
  pub links : linked link_below m.links ≡ true

-- question 6 taken apart
pub rising-is : (m : Map) → rising m ≡ true → Rising m
unfolding rising
rising-is m e =
    let d = linked (λ (d e : Device). ltb d.number e.number) m.devices in
    let b = linked (λ (b c : Bucket). ltb b.number c.number) m.buckets in
    let q1 = both (d && b) (linked link_below m.links) e in
    let q0 = both d b q1.0 in
    record { devices = q0.0; buckets = q0.1; links = q1.1 }

-- and put together
pub is-rising : (m : Map) → Rising m → rising m ≡ true
unfolding rising
is-rising m r = rw (r.devices, r.buckets, r.links)

-- what question 7 says
pub record Present (m : Map) : Type 0 where
  pub links : every (λ (l : Link). has_bucket m l.bucket && has_item m l.child) m.links ≡ true
  pub takes : every (takes_present m) (actions_of m) ≡ true

-- question 7 taken apart
pub present-is : (m : Map) → present m ≡ true → Present m
unfolding present
present-is m e =
    let q = both (every (λ (l : Link). has_bucket m l.bucket && has_item m l.child) m.links) (every (takes_present m) (actions_of m)) e in
    record { links = q.0; takes = q.1 }

-- what question 11 says
pub record InBlocks (m : Map) : Type 0 where
  pub least : 1 ≤ length m.steps
  pub most : length m.steps ≤ 16
  pub outside : is_outside (standing m (length m.steps)) ≡ true

-- question 11 taken apart
pub in_blocks_lem : (m : Map) → in_blocks m ≡ true → InBlocks m
unfolding in_blocks
in_blocks_lem m e =
    let q = both (within 1 16 (length m.steps)) (is_outside (standing m (length m.steps))) e in
    let s = within-is 1 16 (length m.steps) q.0 in
    record { least = s.0; most = s.1; outside = q.1 }

-- what question 12 says
pub record Slim (m : Map) : Type 0 where
  pub blocks : every (λ (w : ℕ). leb w 16) (widths m) ≡ true
  pub width : width_of m ≤ 32

-- question 12 taken apart
pub slim-is : (m : Map) → slim m ≡ true → Slim m
unfolding slim
slim-is m e =
    let q = both (every (λ (w : ℕ). leb w 16) (widths m)) (leb (width_of m) 32) e in
    record { blocks = q.0; width = leb-true _ _ q.1 }

-- ---- how large a map is

-- at most 1,024 devices
pub devices-most : (m : Map) → ranged m ≡ true → rising m ≡ true → length m.devices ≤ 1024
devices-most m g r =
    rising-bound (λ (d : Device). d.number) 1024 m.devices (rising-is m r).devices
    (every-mono device_ranged (λ (d : Device). ltb d.number 1024) m.devices
    (λ d e. lt-ltb d.number 1024 (omega (arith, (device-ranged d e).number))) (ranged-is m g).devices)

-- at most 256 buckets
pub buckets-most : (m : Map) → ranged m ≡ true → rising m ≡ true → length m.buckets ≤ 256
buckets-most m g r =
    rising-bound (λ (b : Bucket). b.number) 256 m.buckets (rising-is m r).buckets
    (every-mono bucket_ranged (λ (b : Bucket). ltb b.number 256) m.buckets
    (λ b e. lt-ltb b.number 256 (omega (arith, (bucket-ranged b e).number))) (ranged-is m g).buckets)

-- the item numbers of children, made numbers below 1,280: bucket 65,536 becomes 1,024
abbrev packed : ℕ → ℕ
packed c = c % 64512

packed-one : (c d : ℕ) → child_ranged c ≡ true → child_ranged d ≡ true → packed c ≡ packed d → c ≡ d
packed-one c d p q e = go (child-ranged c p) (child-ranged d q)
  where
    go : ChildRanged c → ChildRanged d → c ≡ d
    go (inl a) (inl b) = omega arith
    go (inl a) (inr b) = omega arith
    go (inr a) (inl b) = omega arith
    go (inr a) (inr b) = omega arith

packed-small : (c : ℕ) → child_ranged c ≡ true → ltb (packed c) 1280 ≡ true
packed-small c e = lt-ltb (packed c) 1280 (go (child-ranged c e))
  where
    go : ChildRanged c → packed c < 1280
    go (inl a) = omega arith
    go (inr a) = omega arith

-- at most 1,280 links, one for each item
pub links-most : (m : Map) → ranged m ≡ true → once m ≡ true → length m.links ≤ 1280
unfolding once link_ranged
links-most m g o =
    let cs = map (λ (l : Link). l.child) m.links in
    let e : every child_ranged cs ≡ true = every_map child_ranged (λ (l : Link). l.child) m.links
    ∙ every-mono link_ranged (λ (l : Link). child_ranged l.child) m.links (λ l h. (both (leb l.bucket 255) (child_ranged l.child) h).1) (ranged-is m g).links in
    omega (arith, distinct-most packed 1280 cs (distinct-map child_ranged packed packed-one cs e o) (every-mono child_ranged (λ (c : ℕ). ltb (packed c) 1280) cs packed-small e), length-map m.links (λ (l : Link). l.child))

-- how large a loadable map is at most
pub record Bounds (m : Map) : Type 0 where
  pub devices : length m.devices ≤ 1024
  pub buckets : length m.buckets ≤ 256
  pub links : length m.links ≤ 1280
  pub steps : length m.steps ≤ 16

-- and that it is no larger
pub bounds : (m : Map) → Loadable m → Bounds m
bounds m l =
    record {
      devices = devices-most m l.ranged l.rising;
      buckets = buckets-most m l.ranged l.rising;
      links = links-most m l.ranged l.once;
      steps = (in_blocks_lem m l.in_blocks).most;
    }

-- question 13 follows from 5 and 6
pub light-always : (m : Map) → ranged m ≡ true → rising m ≡ true → light m ≡ true
unfolding light
light-always m g r =
    let e : every (λ (d : Device). leb d.weight 65535) m.devices ≡ true = every-mono device_ranged (λ (d : Device). leb d.weight 65535) m.devices
    (λ d h. le-leb d.weight 65535 (device-ranged d h).weight) (ranged-is m g).devices in
    le-leb (sum (map (λ (d : Device). d.weight) m.devices)) 67107840
    (omega (arith, sum_bound (λ (d : Device). d.weight) 65535 m.devices e, devices-most m g r))

-- ---- what an edit leaves as it is, fitting or not

-- the devices' numbers
abbrev pub numbers : Map → List ℕ
numbers m = map (λ (d : Device). d.number) m.devices

cond-ap : {A B : Type 0} (f : A → B) (b : Bool) (x y : A) → f (cond b x y) ≡ cond b (f x) (f y)
cond-ap f true x y = refl
cond-ap f false x y = refl

cond-keeps : {A B : Type 0} (f : A → B) (b : Bool) (x y : A) → f x ≡ f y → f (cond b x y) ≡ f y
cond-keeps f true x y e = e
cond-keeps f false x y e = refl

abbrev number : Device → ℕ
number d = d.number

abbrev weight : Device → ℕ
weight d = d.weight

abbrev acceptance : Device → ℕ
acceptance d = d.acceptance

abbrev accepting : ℕ → Device → Device
accepting a e = record { number = e.number; weight = e.weight; acceptance = a }

abbrev weighing : ℕ → Device → Device
weighing w e = record { number = e.number; weight = w; acceptance = e.acceptance }

keeps-accepting : (d a : ℕ) (e : Device) → (with_acceptance d a e).number ≡ e.number
keeps-accepting d a e = cond-keeps number (eqb e.number d) (accepting a e) e refl

keeps-weighing : (d w : ℕ) (e : Device) → (with_weight d w e).number ≡ e.number
keeps-weighing d w e = cond-keeps number (eqb e.number d) (weighing w e) e refl

module _ (m : Map) where
  -- the groups
  pub put-groups : (c : Option Change) → (put m c).groups ≡ m.groups
  unfolding put with_sums
  put-groups (Some (Acceptance d a)) = refl
  put-groups (Some (Weight d w)) = refl
  put-groups None = refl

  -- the buckets, but for the weights that are written of them
  put-buckets : (P : List Bucket → Type 0) → P m.buckets → ((n : Map) → P (map (with_sum n) m.buckets)) → (c : Option Change) → P (put m c).buckets
  unfolding put with_sums
  put-buckets P p q (Some (Acceptance d a)) = p
  put-buckets P p q (Some (Weight d w)) = q (with_devices m (map (with_weight d w) m.devices))
  put-buckets P p q None = p

  -- the links
  pub put-links : (c : Option Change) → (put m c).links ≡ m.links
  unfolding put with_sums
  put-links (Some (Acceptance d a)) = refl
  put-links (Some (Weight d w)) = refl
  put-links None = refl

  -- the steps
  pub put-steps : (c : Option Change) → (put m c).steps ≡ m.steps
  unfolding put with_sums
  put-steps (Some (Acceptance d a)) = refl
  put-steps (Some (Weight d w)) = refl
  put-steps None = refl

  -- the devices' numbers
  pub put-numbers : (c : Option Change) → numbers (put m c) ≡ numbers m
  unfolding put with_sums
  put-numbers (Some (Acceptance d a)) = map-keeps (λ (e : Device). e.number) (with_acceptance d a) (keeps-accepting d a) m.devices
  put-numbers (Some (Weight d w)) = map-keeps (λ (e : Device). e.number) (with_weight d w) (keeps-weighing d w) m.devices
  put-numbers None = refl

module _ (m : Map) (c : Option Change) where
  -- how many devices there are
  pub put-length : length (put m c).devices ≡ length m.devices
  put-length =
      sym (length-map (put m c).devices (λ (d : Device). d.number))
      ∙ ap (λ (ns : List ℕ). length ns) (put-numbers m c)
      ∙ length-map m.devices (λ (d : Device). d.number)

  -- which devices there are
  pub put-has-device : (d : ℕ) → has_device (put m c) d ≡ has_device m d
  unfolding has_device
  put-has-device d =
      sym (some-map (λ (n : ℕ). eqb n d) (λ (e : Device). e.number) (put m c).devices)
      ∙ ap (λ (ns : List ℕ). some_of (λ (n : ℕ). eqb n d) ns) (put-numbers m c)
      ∙ some-map (λ (n : ℕ). eqb n d) (λ (e : Device). e.number) m.devices

  -- which buckets there are
  pub put-has-bucket : (b : ℕ) → has_bucket (put m c) b ≡ has_bucket m b
  unfolding has_bucket
  put-has-bucket b =
      let p : Bucket → Bool = λ (k : Bucket). eqb k.number b in
      put-buckets m (λ bs. some_of p bs ≡ some_of p m.buckets) refl (λ n. some-map p (with_sum n) m.buckets) c

  -- which items there are
  pub put-has-item : (i : ℕ) → has_item (put m c) i ≡ has_item m i
  unfolding has_item
  put-has-item i = rw (put-has-bucket (bucket_number i), put-has-device i)

  -- what is looked up of a bucket by its number, but for its weight
  put-looked-up : (g : Bucket → ℕ) → ((n : Map) (k : Bucket) → g (with_sum n k) ≡ g k) → (b : ℕ)
      → lookup (λ (k : Bucket). k.number) g b (put m c).buckets ≡ lookup (λ (k : Bucket). k.number) g b m.buckets
  put-looked-up g h b =
      put-buckets m (λ bs. lookup (λ (k : Bucket). k.number) g b bs ≡ lookup (λ (k : Bucket). k.number) g b m.buckets) refl
      (λ n. lookup-keeps (λ (k : Bucket). k.number) g (with_sum n) (λ k. refl) (h n) b m.buckets) c

  -- a bucket's type
  pub put-bucket-type : (b : ℕ) → bucket_type (put m c) b ≡ bucket_type m b
  unfolding bucket_type
  put-bucket-type b = put-looked-up (λ (k : Bucket). k.ty) (λ n k. refl) b

  -- a bucket's kind
  pub put-kind-number : (b : ℕ) → kind_number (put m c) b ≡ kind_number m b
  unfolding kind_number
  put-kind-number b = put-looked-up (λ (k : Bucket). k.kind) (λ n k. refl) b

  pub put-bucket-kind : (b : ℕ) → bucket_kind (put m c) b ≡ bucket_kind m b
  unfolding bucket_kind
  put-bucket-kind b = ap kind_from (put-kind-number b)

  -- an item's type
  pub put-type : (i : ℕ) → type_of (put m c) i ≡ type_of m i
  unfolding type_of type_by
  put-type i = go (is_bucket i)
    where
      go : (b : Bool) → type_by (put m c) i b ≡ type_by m i b
      go true = put-bucket-type (bucket_number i)
      go false = refl

  -- a bucket's children
  pub put-children : (b : ℕ) → children_of (put m c) b ≡ children_of m b
  unfolding children_of
  put-children b = rw (put-links m c)

  -- what the steps do
  pub put-actions : actions_of (put m c) ≡ actions_of m
  unfolding actions_of
  put-actions = rw (put-steps m c)

  -- the blocks' widths
  pub put-widths : widths (put m c) ≡ widths m
  unfolding widths
  put-widths = rw put-actions

  -- the width
  pub put-width : width_of (put m c) ≡ width_of m
  unfolding width_of
  put-width = rw put-widths

  -- where a step leads
  pub put-stand : (s : Standing) (a : Action) → stand (put m c) s a ≡ stand m s a
  unfolding stand
  put-stand Outside (Take b) = ap Inside (put-bucket-type b)
  put-stand Outside (Select mode n t) = refl
  put-stand Outside Emit = refl
  put-stand Outside Idle = refl
  put-stand (Inside u) (Take b) = refl
  put-stand (Inside u) (Select mode n t) = refl
  put-stand (Inside u) Emit = refl
  put-stand (Inside u) Idle = refl
  put-stand Broken a = refl

  -- where the rule stands
  pub put-standing : (k : ℕ) → standing (put m c) k ≡ standing m k
  unfolding standing
  put-standing zero = refl
  put-standing (suc k) = rw (put-standing k, put-actions) (put-stand (standing m k) (get_or (actions_of m) k Idle))

  -- whether what a step takes is present
  pub put-takes : (a : Action) → takes_present (put m c) a ≡ takes_present m a
  unfolding takes_present
  put-takes (Take b) = put-has-bucket b
  put-takes (Select mode n t) = refl
  put-takes Emit = refl
  put-takes Idle = refl

  -- a test of the buckets that does not look at their weights
  put-every : (p : Bucket → Bool) → ((n : Map) (b : Bucket) → p (with_sum n b) ≡ p b) → every p (put m c).buckets ≡ every p m.buckets
  put-every p h =
      put-buckets m (λ bs. every p bs ≡ every p m.buckets) refl
      (λ n. every_map p (with_sum n) m.buckets ∙ every-ext (λ (b : Bucket). p (with_sum n b)) p m.buckets (h n)) c

  -- question 6
  pub put-rising : rising (put m c) ≡ rising m
  unfolding rising
  put-rising =
      let below : Bucket → Bucket → Bool = λ (a b : Bucket). ltb a.number b.number in
      let e : linked below (put m c).buckets ≡ linked below m.buckets
      = put-buckets m (λ bs. linked below bs ≡ linked below m.buckets) refl (λ n. linked-map below (with_sum n) m.buckets) c in
      rw
      (e, put-links m c, ← linked-map ltb (λ (d : Device). d.number) (put m c).devices, put-numbers m c, linked-map ltb (λ (d : Device). d.number) m.devices)

  -- question 7
  pub put-present : present (put m c) ≡ present m
  unfolding present
  put-present =
      rw (every-ext (takes_present (put m c)) (takes_present m) (actions_of (put m c)) put-takes, put-actions)
      (simp (put-has-bucket, put-has-item, put-links m c))

  -- question 8
  pub put-once : once (put m c) ≡ once m
  unfolding once
  put-once = rw (put-links m c)

  -- question 9
  pub put-falling : falling (put m c) ≡ falling m
  unfolding falling
  put-falling = simp (put-links m c, put-type, put-bucket-type)

  -- question 22
  pub put-filled : filled (put m c) ≡ filled m
  unfolding filled
  put-filled =
      let p : Bucket → Bool = λ (b : Bucket). ltb 0 (length (children_of m b.number)) in
      simp put-children (put-every p (λ n b. refl))

  -- question 10
  pub put-narrow : narrow (put m c) ≡ narrow m
  unfolding narrow
  put-narrow =
      let p : Bucket → Bool = λ (b : Bucket). leb (length (children_of m b.number)) 64 in
      simp put-children (put-every p (λ n b. refl))

  -- question 11
  pub put-in-blocks : in_blocks (put m c) ≡ in_blocks m
  unfolding in_blocks
  put-in-blocks = rw (put-standing (length (put m c).steps), put-steps m c)

  -- question 12
  pub put-slim : slim (put m c) ≡ slim m
  unfolding slim
  put-slim = rw (put-widths, put-width)

-- ---- what an edit changes

module _ (m : Map) (d v : ℕ) where
  -- an edit of an acceptance changes that of d alone
  pub put-acceptance : has_device m d ≡ true → (e : ℕ) → acceptance_of (put m (Some (Acceptance d v))) e ≡ cond (eqb e d) v (acceptance_of m e)
  unfolding has_device acceptance_of put
  put-acceptance h e =
      lookup-puts (λ (x : Device). x.number) (λ (x : Device). x.acceptance) (with_acceptance d v) (keeps-accepting d v) d v
      (λ x. cond-ap acceptance (eqb x.number d) (accepting v x) x) m.devices h e

  -- and no device's weight
  pub acceptance-leaves-weight : (e : ℕ) → device_weight (put m (Some (Acceptance d v))) e ≡ device_weight m e
  unfolding device_weight put
  acceptance-leaves-weight e =
      lookup-keeps (λ (x : Device). x.number) (λ (x : Device). x.weight) (with_acceptance d v) (keeps-accepting d v)
      (λ x. cond-keeps weight (eqb x.number d) (accepting v x) x refl) e m.devices

  -- an edit of a weight changes that of d alone
  pub put-weight : has_device m d ≡ true → (e : ℕ) → device_weight (put m (Some (Weight d v))) e ≡ cond (eqb e d) v (device_weight m e)
  unfolding has_device device_weight put with_sums
  put-weight h e =
      lookup-puts (λ (x : Device). x.number) (λ (x : Device). x.weight) (with_weight d v) (keeps-weighing d v) d v
      (λ x. cond-ap weight (eqb x.number d) (weighing v x) x) m.devices h e

  -- and no device's acceptance
  pub weight-leaves-acceptance : (e : ℕ) → acceptance_of (put m (Some (Weight d v))) e ≡ acceptance_of m e
  unfolding acceptance_of put with_sums
  weight-leaves-acceptance e =
      lookup-keeps (λ (x : Device). x.number) (λ (x : Device). x.acceptance) (with_weight d v) (keeps-weighing d v)
      (λ x. cond-keeps acceptance (eqb x.number d) (weighing v x) x refl) e m.devices

-- ---- weights are the sums, whatever is written

-- two maps with the same children, types of buckets and weights of devices give their items the same weights
module _ (m n : Map) (kids : (b : ℕ) → children_of n b ≡ children_of m b) (types : (b : ℕ) → bucket_type n b ≡ bucket_type m b)
    (own : (d : ℕ) → device_weight n d ≡ device_weight m d) where
  weight-by : (f g : ℕ → ℕ) → ((i : ℕ) → g i ≡ f i) → (i : ℕ) (b : Bool) → weight_by n g i b ≡ weight_by m f i b
  unfolding weight_by
  weight-by f g h i true =
      rw (kids (bucket_number i)) (ap sum (map_same (children_of m (bucket_number i))))
    where
      map_same : (xs : List ℕ) → map g xs ≡ map f xs
      map_same [] = refl
      map_same (x ∷ xs) = rw (h x, map_same xs)
  weight-by f g h i false = own i

  weight-in : (k i : ℕ) → weight_in n k i ≡ weight_in m k i
  unfolding weight_in
  weight-in zero i = weight-by (λ (c : ℕ). 0) (λ (c : ℕ). 0) (λ c. refl) i (is_bucket i)
  weight-in (suc k) i = weight-by (weight_in m k) (weight_in n k) (weight-in k) i (is_bucket i)

  pub same-weights : (i : ℕ) → weight_of n i ≡ weight_of m i
  unfolding weight_of type_of type_by
  same-weights i = weight-in (type_of n i) i ∙ ap (λ (k : ℕ). weight_in m k i) (go (is_bucket i))
    where
      go : (b : Bool) → type_by n i b ≡ type_by m i b
      go true = types (bucket_number i)
      go false = refl

-- an edit of an acceptance changes no weight
pub acceptance-leaves-weights : (m : Map) (d a i : ℕ) → weight_of (put m (Some (Acceptance d a))) i ≡ weight_of m i
acceptance-leaves-weights m d a =
    same-weights m (put m (Some (Acceptance d a))) (put-children m (Some (Acceptance d a))) (put-bucket-type m (Some (Acceptance d a))) (acceptance-leaves-weight m d a)

-- nor does what is written of the buckets
pub sums-leave-weights : (m : Map) (i : ℕ) → weight_of (with_sums m) i ≡ weight_of m i
unfolding with_sums children_of bucket_type device_weight
sums-leave-weights m =
    same-weights m (with_sums m) (λ b. refl)
    (λ b. lookup-keeps (λ (k : Bucket). k.number) (λ (k : Bucket). k.ty) (with_sum m) (λ k. refl) (λ k. refl) b m.buckets) (λ d. refl)

-- question 23 of buckets, where item i weighs w i
abbrev written : (ℕ → ℕ) → Bucket → Bool
written w b = eqb b.weight (w (bucket_item b.number))

-- question 23 is answered yes after any edit
pub put-summed : (m : Map) (c : Option Change) → summed m ≡ true → summed (put m c) ≡ true
unfolding summed put with_sums
put-summed m (Some (Acceptance d a)) e =
    every-ext (written (weight_of (put m (Some (Acceptance d a))))) (written (weight_of m)) m.buckets (λ b. ap (eqb b.weight) (acceptance-leaves-weights m d a (bucket_item b.number))) ∙ e
put-summed m (Some (Weight d w)) e =
    let n = with_devices m (map (with_weight d w) m.devices) in
    every_map (written (weight_of (with_sums n))) (with_sum n) m.buckets
    ∙ every-all (λ (b : Bucket). written (weight_of (with_sums n)) (with_sum n b)) m.buckets
    (λ b. eq-eqb (weight_of n (bucket_item b.number)) _ (sym (sums-leave-weights n (bucket_item b.number))))
put-summed m None e = e

-- ---- an edit that fits

accepting-ranged : (d a : ℕ) → a ≤ 65536 → (e : Device) → device_ranged e ≡ true → device_ranged (with_acceptance d a e) ≡ true
accepting-ranged d a h e r =
    let q = device-ranged e r in
    let s = ranged-device (accepting a e) (record { number = q.number; weight = q.weight; acceptance = h }) in
    cond-keeps device_ranged (eqb e.number d) (accepting a e) e (s ∙ sym r) ∙ r

weighing-ranged : (d w : ℕ) → w ≤ 65535 → (e : Device) → device_ranged e ≡ true → device_ranged (with_weight d w e) ≡ true
weighing-ranged d w h e r =
    let q = device-ranged e r in
    let s = ranged-device (weighing w e) (record { number = q.number; weight = h; acceptance = q.acceptance }) in
    cond-keeps device_ranged (eqb e.number d) (weighing w e) e (s ∙ sym r) ∙ r

devices-ranged : (m : Map) (c : Option Change) → fits m c ≡ true → every device_ranged m.devices ≡ true → every device_ranged (put m c).devices ≡ true
unfolding fits put with_sums
devices-ranged m (Some (Acceptance d a)) f e =
    every_map device_ranged (with_acceptance d a) m.devices
    ∙ every-mono device_ranged (λ (x : Device). device_ranged (with_acceptance d a x)) m.devices
    (accepting-ranged d a (leb-true a 65536 (both (has_device m d) (leb a 65536) f).1)) e
devices-ranged m (Some (Weight d w)) f e =
    every_map device_ranged (with_weight d w) m.devices
    ∙ every-mono device_ranged (λ (x : Device). device_ranged (with_weight d w x)) m.devices
    (weighing-ranged d w (leb-true w 65535 (both (has_device m d) (leb w 65535) f).1)) e
devices-ranged m None f e = e

buckets-ranged : (m : Map) (c : Option Change) → every bucket_ranged (put m c).buckets ≡ every bucket_ranged m.buckets
unfolding bucket_ranged
buckets-ranged m c = put-every m c bucket_ranged (λ n b. refl)

-- question 5 is answered yes after a fitting edit
pub put-ranged : (m : Map) (c : Option Change) → fits m c ≡ true → ranged m ≡ true → ranged (put m c) ≡ true
put-ranged m c f e =
    let r = ranged-is m e in
    is-ranged (put m c)
    (record {
      least = rw (put-groups m c) r.least;
      most = rw (put-groups m c) r.most;
      devices = devices-ranged m c f r.devices;
      buckets = buckets-ranged m c ∙ r.buckets;
      links = rw (put-links m c) r.links;
      steps = rw (put-steps m c) r.steps;
    })

pub put_typed : (m : Map) (c : Option Change) → typed (put m c) ≡ typed m
unfolding typed
put_typed m c = rw (put-actions m c)

-- a fitting edit leaves a loadable map
pub put-loadable : (m : Map) (c : Option Change) → Loadable m → fits m c ≡ true → Loadable (put m c)
put-loadable m c l f =
    let g = put-ranged m c f l.ranged in
    let r = put-rising m c ∙ l.rising in
    record {
      ranged = g;
      rising = r;
      present = put-present m c ∙ l.present;
      once = put-once m c ∙ l.once;
      falling = put-falling m c ∙ l.falling;
      filled = put-filled m c ∙ l.filled;
      narrow = put-narrow m c ∙ l.narrow;
      in_blocks = put-in-blocks m c ∙ l.in_blocks;
      typed = put_typed m c ∙ l.typed;
      slim = put-slim m c ∙ l.slim;
      summed = put-summed m c l.summed;
      light = light-always (put m c) g r;
    }
