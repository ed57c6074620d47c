-- `walk::failed_to` meets its contract. Assumes nothing.
use mathlib.Core.Path.{refl}
use Rattle.definitions.specs.Walk.{failed_to}
use Rattle.walk.proofs.failed_to.Goals as goal

pub returns : goal.returns
unfolding failed_to
returns c = refl
