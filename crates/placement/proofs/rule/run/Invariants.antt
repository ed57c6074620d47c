use Rattle.hierarchy.specs.Arrays.{view_in, actions_in}
use Rattle.placement.specs.Progress.{Ran}
use Rattle.placement.proofs.rule.run.Given as goal

abbrev pub invariant-loop-k : goal.invariant-loop-k
invariant-loop-k l = Ran (view_in l.plan l.values) l.x (actions_in l.rule) l.k l.p
