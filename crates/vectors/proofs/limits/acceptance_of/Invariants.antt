-- The bytes not yet read get fewer. Assumes nothing.
use Rattle.std.proofs.Common.{length}
use Rattle.vectors.proofs.limits.acceptance_of.Given as goal

abbrev pub decreases-loop-rest : goal.decreases-loop-rest
decreases-loop-rest l = length l.rest
