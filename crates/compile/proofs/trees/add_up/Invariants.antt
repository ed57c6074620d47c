use Rattle.std.proofs.Common.{◌≡◌, drop}
use Rattle.compile.specs.Trees.{sum_to, Summed}
use Rattle.compile.proofs.trees.add_up.Given as goal

abbrev pub invariant-loop-i : goal.invariant-loop-i
invariant-loop-i l = (l.sum ≡ sum_to (drop l.a l.initial.words) l.i) × Summed l.a l.i l.initial.words l.words
