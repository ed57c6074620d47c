-- `walk::given_up` meets its contract. Assumes nothing.
use mathlib.Core.Path.{refl}
use Rattle.definitions.specs.Walk.{found, tries_in}
use Rattle.walk.proofs.given_up.Goals as goal

pub returns : goal.returns
unfolding found tries_in
returns c = refl
