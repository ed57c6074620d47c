use Rattle.compile.specs.Trees.{LaidTo}
use Rattle.compile.proofs.trees.words_of.Given as goal

abbrev pub invariant-loop-b : goal.invariant-loop-b
invariant-loop-b l = LaidTo l.plan l.initial.words l.words l.b
