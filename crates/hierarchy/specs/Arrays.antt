-- The view that the plan and the values give, and what must hold of them for a draw to read inside them and a descent to end.
use Rattle.std.specs.Prelude.{◌≡◌, cond, List, map, ◌⊎◌, ℕ, ◌+◌, ◌<◌, ◌≤◌, length, get_or, take, drop}
use Rattle.definitions.specs.declared.Action.{Action}
use Rattle.definitions.specs.declared.Kind.{Kind}
use Rattle.definitions.specs.declared.Ranked.{Ranked}
use Rattle.definitions.specs.Map.{bucket_item, is_bucket, bucket_number, action_of}
use Rattle.definitions.specs.View.{View, kind_from}
use Rattle.definitions.specs.Walk.{hole, inner_walk}
use Rattle.hierarchy.specs.declared.Rule.{Rule}
use Rattle.hierarchy.specs.Sections.{section}
use Rattle.hierarchy.specs.Sums.{weights_by}

-- ---- where the sections begin: COUNT, TYPES, KINDS, CHILDREN, SEED and LIVE of src/lib.rt, which has the same numbers

abbrev pub count_at : ℕ
count_at = 256

abbrev pub types_at : ℕ
types_at = 512

abbrev pub kinds_at : ℕ
kinds_at = 768

abbrev pub children_at : ℕ
children_at = 1024

abbrev pub seed_at : ℕ
seed_at = 2304

abbrev pub live_at : ℕ
live_at = 2304

-- ---- the plan

-- of each bucket: where its children begin among those of all, how many they are, its type, its kind
abbrev pub firsts_in : List ℕ → List ℕ
firsts_in plan = section 0 256 plan

abbrev pub counts_in : List ℕ → List ℕ
counts_in plan = section count_at 256 plan

abbrev pub types_in : List ℕ → List ℕ
types_in plan = section types_at 256 plan

abbrev pub kinds_in : List ℕ → List ℕ
kinds_in plan = section kinds_at 256 plan

-- of bucket b
abbrev pub first_in : List ℕ → ℕ → ℕ
first_in plan b = get_or (firsts_in plan) b 0

abbrev pub count_in : List ℕ → ℕ → ℕ
count_in plan b = get_or (counts_in plan) b 0

abbrev pub bucket_type_in : List ℕ → ℕ → ℕ
bucket_type_in plan b = get_or (types_in plan) b 0

abbrev pub kind_in : List ℕ → ℕ → Kind
kind_in plan b = kind_from (get_or (kinds_in plan) b 0)

-- the type of item i
abbrev pub type_in : List ℕ → ℕ → ℕ
type_in plan i = cond (is_bucket i) (bucket_type_in plan (bucket_number i)) 0

-- the seed of the hashes
abbrev pub seed_in : List ℕ → ℕ
seed_in plan = get_or plan seed_at 0

-- ---- the children of all buckets in the plan, and at the same place in the values the weights of a straw's, the sums of a tree's

abbrev pub children_in : List ℕ → List ℕ
children_in xs = section children_at 1280 xs

-- the part of a list that belongs to bucket b, by where the buckets' parts begin and how long they are
abbrev pub part_at : List ℕ → List ℕ → ℕ → List ℕ → List ℕ
part_at first count b xs = take (get_or count b 0) (drop (get_or first b 0) xs)

-- those of bucket b
abbrev pub part_of : List ℕ → ℕ → List ℕ → List ℕ
part_of plan b xs = part_at (firsts_in plan) (counts_in plan) b (children_in xs)

-- child j of bucket b
abbrev pub child_in : List ℕ → ℕ → ℕ → ℕ
child_in plan b j = get_or (children_in plan) (first_in plan b + j) 0

-- ---- the values: the acceptances of the devices, and the live weights of the buckets

abbrev pub acceptances_in : List ℕ → List ℕ
acceptances_in values = section 0 1024 values

abbrev pub lives_in : List ℕ → List ℕ
lives_in values = section live_at 256 values

-- of bucket b
abbrev pub live_in : List ℕ → ℕ → ℕ
live_in values b = get_or (lives_in values) b 0

-- ---- both

abbrev pub view_in : List ℕ → List ℕ → View
view_in plan values =
    record {
      seed = seed_in plan;
      kind = kind_in plan;
      children = λ b. part_of plan b plan;
      weights = λ b. weights_by (kind_in plan b) (length (part_of plan b plan)) (part_of plan b values);
      type = type_in plan;
      acceptance = λ d. get_or (acceptances_in values) d 0;
    }

-- an item that a map can have: a device below 1,024, or a bucket below 256
-- A clause where it is asked: `Item::from` takes any number, and a map's words are numbers.
abbrev pub ItemRange : ℕ → Type 0
ItemRange i = (i < 1024) ⊎ ((65536 ≤ i) × (i < 65792))

-- what a draw and a descent need, of the plan alone: of the values they need their length, which is in their type
pub record Sound (plan : List ℕ) : Type 0 where
  pub inside : (b : ℕ) → b < 256 → first_in plan b + count_in plan b ≤ 1280
  pub narrow : (b : ℕ) → b < 256 → count_in plan b ≤ 64
  pub ranged : (b j : ℕ) → b < 256 → j < count_in plan b → ItemRange (child_in plan b j)
  pub falls : (b j : ℕ) → b < 256 → j < count_in plan b → type_in plan (child_in plan b j) < bucket_type_in plan b
  pub small : (b : ℕ) → b < 256 → bucket_type_in plan b < 256

-- an inner walk that gave up: fifty failures, and nothing found
abbrev pub given_up : Ranked
given_up = record { item = hole; entry = hole; fr = 50; f = 50; inner = 0 }

-- a live weight of 0 marks a bucket beneath which every inner walk gives up, whatever is held
pub record Flagged (plan values : List ℕ) : Type 0 where
  pub dead : (b : ℕ) → b < 256 → live_in values b ≡ 0 → (x n q : ℕ) (held : List ℕ) → (inner_walk (view_in plan values) x n held q (bucket_item b)).ranked ≡ given_up

-- ---- the rule

abbrev pub actions_in : Rule → List Action
actions_in r = map action_of (take r.len r.steps)
