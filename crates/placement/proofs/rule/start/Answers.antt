-- `placement::rule::start` meets its contract. Assumes nothing.
use mathlib.Core.Path.{refl}
use Rattle.placement.specs.Progress.{ran-start}
use Rattle.placement.proofs.rule.start.Goals as goal

pub returns : goal.returns
returns c = (λ v x actions. ran-start v x actions _ refl refl refl, refl, refl)
