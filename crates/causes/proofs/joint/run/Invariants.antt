use Rattle.hierarchy.specs.Arrays.{view_in, actions_in}
use Rattle.placement.specs.Progress.{Ran}
use Rattle.causes.proofs.joint.run.Given as goal

abbrev pub invariant-loop-step : goal.invariant-loop-step
invariant-loop-step l =
    Ran (view_in l.plan l.old) l.x (actions_in l.fn.rule) l.step-index l.p × Ran (view_in l.plan l.new) l.x (actions_in l.fn.rule) l.step-index l.p
