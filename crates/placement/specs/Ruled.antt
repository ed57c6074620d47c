-- What a rule and the arrays must keep to, so that a run stays within the space for it and its list holds devices and holes alone.
use Rattle.std.specs.Prelude.{◌≡◌, List, ℕ, ◌+◌, ◌*◌, ◌<◌, ◌≤◌, length, get_or, Some}
use Rattle.definitions.specs.declared.Action.{Action}
use Rattle.definitions.specs.declared.Action.TheVariants.{Take, Select, Emit, Idle}
use Rattle.definitions.specs.View.{View}
use Rattle.definitions.specs.Walk.{draw_at}
use Rattle.hierarchy.specs.Arrays.{bucket_type_in, view_in, Flagged}
use Rattle.laws.specs.Blocks.{reached}
use Rattle.walk.specs.Searches.{Inward}
use Rattle.blocks.specs.Products.{product_to, emitted_to}

-- the type reached after the first k actions
abbrev pub reached_to : List ℕ → List Action → ℕ → ℕ
reached_to plan actions k = reached (bucket_type_in plan) actions k

-- what an action keeps to: p is the most places that the working list can have, e the most that are emitted, and u the type reached
abbrev pub Keeps : List ℕ → ℕ → ℕ → ℕ → Action → Type 0
Keeps plan p e u (Take b) = (b < 256) × (0 < bucket_type_in plan b)
Keeps plan p e u (Select mode n t) = (1 ≤ n) × (n ≤ 16) × (p * n ≤ 16) × (0 < u) × Inward mode t
Keeps plan p e u Emit = (e + p ≤ 32) × (u ≡ 0)
Keeps plan p e u Idle = Unit {0}

pub record Ruled (plan : List ℕ) (actions : List Action) : Type 0 where
  pub keeps : (k : ℕ) → k < length actions
      → Keeps plan (product_to actions k) (emitted_to actions k) (reached_to plan actions k) (get_or actions k Idle)

-- a bucket that is drawn has a type above 0, so what is drawn and has type 0 is a device
pub record Grounded (v : View) : Type 0 where
  pub above : (x r b i : ℕ) → draw_at v x r b ≡ Some i → 65536 ≤ i → 0 < v.type i

-- what a run needs of the arrays and of the rule, where the plan is sound
pub record Ready (plan values : List ℕ) (actions : List Action) : Type 0 where
  pub flagged : Flagged plan values
  pub grounded : Grounded (view_in plan values)
  pub ruled : Ruled plan actions
