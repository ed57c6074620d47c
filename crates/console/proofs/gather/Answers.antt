-- Nothing is read at first. Assumes nothing.
use Rattle.console.specs.Gathering.{gathers-none}
use Rattle.console.proofs.gather.Goals as goal

pub loop-g-init : goal.loop-g-init
loop-g-init g c = gathers-none _
