-- What the readers of the text need, and what their loops have read so far. Assumes nothing.
use Rattle.std.specs.Prelude.{◌≡◌, Bool, true, ◌||◌, List, [], ◌∷◌, ℕ, ◌+◌, ◌-◌, ◌<◌, ◌≤◌, length, get_or, take, set, replicate, Option, None, Some}
use Rattle.std.specs.List.{list_any}
use Rattle.std.proofs.Math.Path.{refl, ap}
use Rattle.std.proofs.Common.{sym, ◌∙◌, arith, add-one, take_all, take-suc, take-suc-set, eq-eqb, ne_eqb}
use Rattle.definitions.specs.declared.Device.{Device}
use Rattle.definitions.specs.declared.Bucket.{Bucket}
use Rattle.definitions.specs.declared.Step.{Step}
use Rattle.definitions.specs.declared.Change.{Change}
use Rattle.definitions.specs.declared.Change.TheVariants.{Acceptance, Weight}
use Rattle.definitions.specs.Lists.{every, some_of}
use Rattle.definitions.specs.Frames.{frames_in}
use Rattle.definitions.specs.Map.{Map, map_of}
use Rattle.definitions.specs.View.{bucket_type, kind_number, acceptance_of, device_weight}
use Rattle.definitions.specs.Load.{device_ranged, bucket_ranged}
use Rattle.definitions.specs.Edit.{with_acceptance, with_weight, with_sums, put}
use Rattle.laws.specs.Lists.{every-at, get_d-mapped}
use Rattle.laws.specs.Loadable.{Loadable, ranged-is, device-ranged, bucket-ranged, put-length}
use Rattle.text.specs.declared.Shape.{Shape}
use Rattle.text.specs.Shape.{shape_of}
use Rattle.text.specs.Records.{no_device, no_bucket, no_step, shape-devices}
use Rattle.hierarchy.specs.Tables.{Tabled, From, from-none, from_more, from_all}

-- no edit
pub no-edit : (m : Map) → put m None ≡ m
unfolding put
no-edit m = refl

-- ---- a device after an edit

module _ (m : Map) (d : Device) (k : ℕ) (h : k < length m.devices) (e : d ≡ get_or m.devices k no_device) where
  accepting : (n v : ℕ) → get_or (put m (Some (Acceptance n v))).devices k no_device ≡ with_acceptance n v d
  unfolding put
  accepting n v = rw e (get_d-mapped (with_acceptance n v) m.devices k no_device no_device h)

  weighing : (n v : ℕ) → get_or (put m (Some (Weight n v))).devices k no_device ≡ with_weight n v d
  unfolding put with_sums
  weighing n v = rw e (get_d-mapped (with_weight n v) m.devices k no_device no_device h)

  module _ (c : Option Change) (n v : ℕ) where
    -- the device whose acceptance is edited
    pub accepted : c ≡ Some (Acceptance n v) → d.number ≡ n
        → record { number = d.number; weight = d.weight; acceptance = v } ≡ get_or (put m c).devices k no_device
    accepted p q = rw (p, accepting n v, eq-eqb d.number n q)

    -- another
    pub not-accepted : c ≡ Some (Acceptance n v) → (d.number ≡ n → ⊥) → d ≡ get_or (put m c).devices k no_device
    not-accepted p q = rw (p, accepting n v, ne_eqb d.number n q)

    -- the device whose weight is edited
    pub weighed : c ≡ Some (Weight n v) → d.number ≡ n
        → record { number = d.number; weight = v; acceptance = d.acceptance } ≡ get_or (put m c).devices k no_device
    weighed p q = rw (p, weighing n v, eq-eqb d.number n q)

    -- another
    pub not-weighed : c ≡ Some (Weight n v) → (d.number ≡ n → ⊥) → d ≡ get_or (put m c).devices k no_device
    not-weighed p q = rw (p, weighing n v, ne_eqb d.number n q)

  -- no edit
  pub unedited : (c : Option Change) → c ≡ None → d ≡ get_or (put m c).devices k no_device
  unfolding put
  unedited c p = rw p e

-- ---- the devices

-- what a closure gives of each place below n is the device there
abbrev pub Gives : (ℕ → Device → Type 0) → ℕ → List Device → Type 0
Gives post n ds = (n ≡ length ds) × ((k : ℕ) → k < n → (d : Device) → post k d → d ≡ get_or ds k no_device)

-- the weights of the devices from the k-th on
abbrev pub WeightsFrom : List Device → List ℕ → ℕ → Type 0
WeightsFrom ds ts k = From (λ (d : Device). d.number) (λ (d : Device). d.weight) ds 1024 ts k

-- their acceptances
abbrev pub AcceptancesFrom : List Device → List ℕ → ℕ → Type 0
AcceptancesFrom ds ts k = From (λ (d : Device). d.number) (λ (d : Device). d.acceptance) ds 1024 ts k

module _ (ds : List Device) (r : every device_ranged ds ≡ true) (k : ℕ) (d : Device) (p : 0 < k) (h : k ≤ length ds) (e : d ≡ get_or ds (k - 1) no_device) where
  -- a device's number has its place
  pub device-small : d.number < 1024
  device-small =
      rw e (omega (arith, (device-ranged (get_or ds (k - 1) no_device) (every-at device_ranged ds (k - 1) no_device r (omega arith))).number))

  -- one weight more
  pub weights-more : (ts : List ℕ) → WeightsFrom ds ts k → WeightsFrom ds (set ts d.number d.weight) (k - 1)
  weights-more ts = from_more (λ d. d.number) (λ d. d.weight) ds 1024 ts k d no_device p h e device-small

  -- one acceptance more
  pub acceptances-more : (ts : List ℕ) → AcceptancesFrom ds ts k → AcceptancesFrom ds (set ts d.number d.acceptance) (k - 1)
  acceptances-more ts = from_more (λ d. d.number) (λ d. d.acceptance) ds 1024 ts k d no_device p h e device-small

module _ (ds : List Device) (k : ℕ) where
  -- no weight yet
  pub weights-none : k ≡ length ds → WeightsFrom ds (replicate 1024 0) k
  weights-none e = from-none (λ d. d.number) (λ d. d.weight) ds 1024 k e

  -- no acceptance yet
  pub acceptances-none : k ≡ length ds → AcceptancesFrom ds (replicate 1024 0) k
  acceptances-none e = from-none (λ d. d.number) (λ d. d.acceptance) ds 1024 k e

  -- all weights
  pub weights-all : (ts : List ℕ) → k ≤ 0 → WeightsFrom ds ts k → (m : Map) → m.devices ≡ ds → Tabled ts 1024 (device_weight m)
  unfolding device_weight
  weights-all ts h f m e = rw e (from_all (λ d. d.number) (λ d. d.weight) ds 1024 ts k h f)

  -- all acceptances
  pub acceptances-all : (ts : List ℕ) → k ≤ 0 → AcceptancesFrom ds ts k → (m : Map) → m.devices ≡ ds → Tabled ts 1024 (acceptance_of m)
  unfolding acceptance_of
  acceptances-all ts h f m e = rw e (from_all (λ d. d.number) (λ d. d.acceptance) ds 1024 ts k h f)

-- how many devices there are after an edit
pub edited-count : (t : List ℕ) (s : Shape) (c : Option Change) → s ≡ shape_of (frames_in t) → s.devices ≡ length (put (map_of t) c).devices
edited-count t s c e = shape-devices t s e ∙ sym (put-length (map_of t) c)

-- ---- the buckets

-- a field of the buckets from the k-th on
abbrev pub FieldFrom : (Bucket → ℕ) → Map → List ℕ → ℕ → Type 0
FieldFrom field m ts k = From (λ (b : Bucket). b.number) field m.buckets 256 ts k

abbrev pub TypesFrom : Map → List ℕ → ℕ → Type 0
TypesFrom = FieldFrom (λ (b : Bucket). b.ty)

abbrev pub KindsFrom : Map → List ℕ → ℕ → Type 0
KindsFrom = FieldFrom (λ (b : Bucket). b.kind)

-- none yet
pub field-none : (field : Bucket → ℕ) (m : Map) (k : ℕ) → k ≡ length m.buckets → FieldFrom field m (replicate 256 0) k
field-none field m k e = from-none (λ b. b.number) field m.buckets 256 k e

module _ (m : Map) (l : Loadable m) (k : ℕ) (b : Bucket) (p : 0 < k) (h : k ≤ length m.buckets) (e : b ≡ get_or m.buckets (k - 1) no_bucket) where
  -- a bucket's number has its place
  pub bucket-small : b.number < 256
  bucket-small =
      let r = every-at bucket_ranged m.buckets (k - 1) no_bucket (ranged-is m l.ranged).buckets (omega arith) in
      rw e (omega (arith, (bucket-ranged (get_or m.buckets (k - 1) no_bucket) r).number))

  -- one more
  pub field-more : (field : Bucket → ℕ) (ts : List ℕ) → FieldFrom field m ts k → FieldFrom field m (set ts b.number (field b)) (k - 1)
  field-more field ts = from_more (λ b. b.number) field m.buckets 256 ts k b no_bucket p h e bucket-small

module _ (m : Map) (k : ℕ) (ts : List ℕ) (h : k ≤ 0) where
  -- all types
  pub types-all : TypesFrom m ts k → Tabled ts 256 (bucket_type m)
  unfolding bucket_type
  types-all f = from_all (λ b. b.number) (λ b. b.ty) m.buckets 256 ts k h f

  -- all kinds
  pub kinds-all : KindsFrom m ts k → Tabled ts 256 (kind_number m)
  unfolding kind_number
  kinds-all f = from_all (λ b. b.number) (λ b. b.kind) m.buckets 256 ts k h f

-- ---- the steps

-- one step more
pub steps-more : (xs ts : List Step) (k : ℕ) (v : Step) → k < length xs → k < length ts → v ≡ get_or xs k no_step → take k ts ≡ take k xs
    → take (k + 1) (set ts k v) ≡ take (k + 1) xs
steps-more xs ts k v h l e p = rw (add-one k, take-suc-set ts k v l, take-suc xs k no_step h, p, e)

-- all of them
pub steps_all : (xs ts : List Step) (k n : ℕ) → n ≡ length xs → n ≤ k → k ≤ n → take k ts ≡ take k xs → take n ts ≡ xs
steps_all xs ts k n e h l p =
    let q : k ≡ n = omega arith in
    rw q at p ∙ take_all n xs (omega arith)

-- `any` of an iterator over a list
pub any-some : {A : Type 0} (f : A → Bool) (xs : List A) → list_any f xs ≡ some_of f xs
unfolding some_of
any-some f [] = refl
any-some f (x ∷ xs) = ap (λ (b : Bool). f x || b) (any-some f xs)
