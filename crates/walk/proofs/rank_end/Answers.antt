-- `walk::rank_end` meets its contract. Assumes nothing.
use mathlib.Core.Path.{refl}
use Rattle.definitions.specs.Walk.{rank_end}
use Rattle.walk.proofs.rank_end.Goals as goal

pub returns : goal.returns
unfolding rank_end
returns c = refl
