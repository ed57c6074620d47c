-- The group of a day. Assumes nothing.
use Rattle.std.specs.Prelude.{◌≡◌, List, ℕ, ◌<◌}
use Rattle.std.proofs.Common.{mod-lt}
use Rattle.definitions.specs.Map.{map_of}
use Rattle.definitions.specs.Writing.{day_group}
use Rattle.definitions.specs.Load.{load_number}
use Rattle.laws.specs.Loadable.{ranged-is}
use Rattle.text.specs.Loading.{loaded}

-- it is one of the map's
pub day-below : (f : List ℕ) (show day : ℕ) → load_number f ≡ 0 → day_group (map_of f) show day < (map_of f).groups
unfolding day_group
day-below f show day e = mod-lt _ (ranged-is _ (loaded f e).ranged).least
