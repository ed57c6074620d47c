-- `walk::plain` meets its contract. Assumes nothing.
use mathlib.Core.Path.{refl}
use Rattle.definitions.specs.Walk.{plain}
use Rattle.walk.proofs.plain.Goals as goal

pub returns : goal.returns
unfolding plain
returns c = refl
