-- Document 01, "The map's frames": what placing reads of a map. All that is defined about draws, walks and rules goes by a `View`.
use Rattle.std.specs.Prelude.{Bool, true, false, cond, List, map, ℕ, zero, suc, eqb}
use Rattle.definitions.specs.declared.Device.{Device}
use Rattle.definitions.specs.declared.Bucket.{Bucket}
use Rattle.definitions.specs.declared.Link.{Link}
use Rattle.definitions.specs.declared.Kind.{Kind}
use Rattle.definitions.specs.declared.Kind.TheVariants.{Straw, Tree}
use Rattle.definitions.specs.Lists.{kept, lookup, sum}
use Rattle.definitions.specs.Hash.{S}
use Rattle.definitions.specs.Map.{Map, is_bucket, bucket_number}

-- the seed of the hashes; of a bucket, by its number, its kind, the children's item numbers and their weights, in one order; of an item, its
-- type; of a device, its acceptance
pub record View : Type 0 where
  pub seed : ℕ
  pub kind : ℕ → Kind
  pub children : ℕ → List ℕ
  pub weights : ℕ → List ℕ
  pub type : ℕ → ℕ
  pub acceptance : ℕ → ℕ

-- the children of bucket b
unfoldable pub children_of : Map → ℕ → List ℕ
children_of m b = map (λ (l : Link). l.child) (kept (λ (l : Link). eqb l.bucket b) m.links)

-- the type of bucket b
unfoldable pub bucket_type : Map → ℕ → ℕ
bucket_type m b = lookup (λ (k : Bucket). k.number) (λ (k : Bucket). k.ty) b m.buckets

-- "01 straw, 02 tree"
abbrev pub kind_from : ℕ → Kind
kind_from n = cond (eqb n 2) Tree Straw

-- the kind of bucket b, as its frame has it
unfoldable pub kind_number : Map → ℕ → ℕ
kind_number m b = lookup (λ (k : Bucket). k.number) (λ (k : Bucket). k.kind) b m.buckets

unfoldable pub bucket_kind : Map → ℕ → Kind
bucket_kind m b = kind_from (kind_number m b)

-- "A device has type 0."
unfoldable pub type_by : Map → ℕ → Bool → ℕ
type_by m i true = bucket_type m (bucket_number i)
type_by m i false = 0

-- the type of item i
unfoldable pub type_of : Map → ℕ → ℕ
type_of m i = type_by m i (is_bucket i)

-- the acceptance of device d
unfoldable pub acceptance_of : Map → ℕ → ℕ
acceptance_of m d = lookup (λ (e : Device). e.number) (λ (e : Device). e.acceptance) d m.devices

-- the weight that stands in the frame of device d
unfoldable pub device_weight : Map → ℕ → ℕ
device_weight m d = lookup (λ (e : Device). e.number) (λ (e : Device). e.weight) d m.devices

-- "A bucket's weight is the sum of its children's weights": go gives the weight of a child
unfoldable pub weight_by : Map → (ℕ → ℕ) → ℕ → Bool → ℕ
weight_by m go i true = sum (map go (children_of m (bucket_number i)))
weight_by m go i false = device_weight m i

-- the weight of item i, whose type is at most k. A child's type is below its bucket's (question 9), so a bucket of type 0 has no child,
-- and more than the type changes nothing (`weight-enough`, crate laws).
unfoldable pub weight_in : Map → ℕ → ℕ → ℕ
weight_in m zero i = weight_by m (λ (c : ℕ). 0) i (is_bucket i)
weight_in m (suc k) i = weight_by m (weight_in m k) i (is_bucket i)

-- "nested buckets included"
unfoldable pub weight_of : Map → ℕ → ℕ
weight_of m i = weight_in m (type_of m i) i

-- the weights of the children of bucket b
unfoldable pub weights_of : Map → ℕ → List ℕ
weights_of m b = map (weight_of m) (children_of m b)

unfoldable pub view_of : Map → View
view_of m =
    record {
      seed = S;
      kind = bucket_kind m;
      children = children_of m;
      weights = weights_of m;
      type = type_of m;
      acceptance = acceptance_of m;
    }
