-- What was read so far is at the front of the space. Assumes nothing.
use Rattle.std.proofs.Common.{length, ◌-◌}
use Rattle.console.specs.Gathering.{Gathers}
use Rattle.console.proofs.gather.Given as goal

abbrev pub invariant-loop-g : goal.invariant-loop-g
invariant-loop-g g l = Gathers l.g l.space

abbrev pub decreases-loop-g : goal.decreases-loop-g
decreases-loop-g g l = length l.space - l.g.read
