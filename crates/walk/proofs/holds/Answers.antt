-- `walk::holds` meets its contract. Assumes nothing.
use Rattle.std.proofs.Common.{◌∙◌}
use Rattle.laws.specs.Chains.{contains-has}
use Rattle.walk.proofs.holds.Goals as goal

pub returns : goal.returns
returns c = c.contains.ensures.value ∙ contains-has _ _
