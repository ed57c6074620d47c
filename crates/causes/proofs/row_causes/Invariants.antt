use Rattle.hierarchy.specs.Arrays.{view_in, actions_in}
use Rattle.causes.specs.Beside.{Reached}
use Rattle.causes.proofs.row_causes.Given as goal

abbrev pub invariant-loop-step : goal.invariant-loop-step
invariant-loop-step l = Reached (view_in l.plan l.old) (view_in l.plan l.new) l.x (actions_in l.fn.rule) l.step-index l.p
