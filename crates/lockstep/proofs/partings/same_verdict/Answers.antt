-- `lockstep::partings::same_verdict` meets its contract. Assumes nothing.
use Rattle.std.proofs.Common.{◌∙◌}
use Rattle.lockstep.proofs.Ends.{verdict-equal}
use Rattle.lockstep.proofs.partings.same_verdict.Goals as goal

pub returns : goal.returns
returns c = c.eq.ensures ∙ verdict-equal _ _
