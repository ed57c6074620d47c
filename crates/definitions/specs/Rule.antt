-- Document 01, "Walk, select and rule": the rule's blocks, the width W, and a group's list with its tries.
use Rattle.std.specs.Prelude.{List, [], ◌∷◌, ◌++◌, ℕ, zero, suc, ◌+◌, ◌-◌, ◌*◌, length, get_or, replicate}
use Rattle.definitions.specs.declared.Action.{Action}
use Rattle.definitions.specs.declared.Action.TheVariants.{Take, Select, Emit, Idle}
use Rattle.definitions.specs.Lists.{sum}
use Rattle.definitions.specs.Map.{Map, bucket_item, actions_of}
use Rattle.definitions.specs.View.{View, view_of}
use Rattle.definitions.specs.Select.{Place, Selected, entries_of, nowhere, select_of}

-- the working list, the list emitted so far, and the tries so far
pub record Run : Type 0 where
  pub working : List Place
  pub list : List Place
  pub tries : ℕ

-- "Take sets the working list to one bucket."
unfoldable pub taken : ℕ → List Place
taken b = record { item = bucket_item b; entry = bucket_item b; walk = [] } ∷ []

unfoldable pub selected : Run → Selected → Run
selected s k = record { working = k.places; list = s.list; tries = s.tries + k.tries }

-- "Emit appends the working list." A select begins with what the blocks before it have emitted. ("Buckets are held within their own select
-- only": the list has devices and holes alone, `emitted-devices`, crate laws.)
unfoldable pub act : View → ℕ → Run → Action → Run
act v x s (Take b) = record { working = taken b; list = s.list; tries = s.tries }
act v x s (Select mode n t) = selected s (select_of v x mode n t (entries_of s.list) s.working)
act v x s Emit = record { working = s.working; list = s.list ++ s.working; tries = s.tries }
act v x s Idle = s

-- the first k steps
unfoldable pub run_to : View → ℕ → List Action → ℕ → Run
run_to v x actions zero = record { working = []; list = []; tries = 0 }
run_to v x actions (suc k) = act v x (run_to v x actions k) (get_or actions k Idle)

-- "the product of their counts": of each block, p being the product in the block so far
unfoldable pub widths_from : ℕ → List Action → List ℕ
widths_from p [] = []
widths_from p (Take b ∷ rest) = widths_from 1 rest
widths_from p (Select mode n t ∷ rest) = widths_from (p * n) rest
widths_from p (Emit ∷ rest) = p ∷ widths_from p rest
widths_from p (Idle ∷ rest) = widths_from p rest

unfoldable pub widths : Map → List ℕ
widths m = widths_from 1 (actions_of m)

-- "W, the sum over blocks (take to emit) of the product of their counts"
unfoldable pub width_of : Map → ℕ
width_of m = sum (widths m)

-- "The list has width W ..; unused places at the end are ffff."
unfoldable pub padded : ℕ → List Place → List Place
padded w ps = ps ++ replicate (w - length ps) nowhere

-- a group's list of W places, and its tries
pub record Placed : Type 0 where
  pub places : List Place
  pub tries : ℕ

unfoldable pub placed_by : ℕ → Run → Placed
placed_by w s = record { places = padded w s.list; tries = s.tries }

unfoldable pub placed_of : Map → ℕ → Placed
placed_of m x = placed_by (width_of m) (run_to (view_of m) x (actions_of m) (length (actions_of m)))
