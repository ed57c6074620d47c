-- `lockstep::partings::same_drawn` meets its contract. Assumes nothing.
use Rattle.std.proofs.Common.{◌∙◌}
use Rattle.lockstep.proofs.Ends.{drawn-equal}
use Rattle.lockstep.proofs.partings.same_drawn.Goals as goal

pub returns : goal.returns
returns c = c.eq.ensures ∙ drawn-equal _ _
