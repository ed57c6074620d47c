use Rattle.tree.specs.Walking.{Stands}
use Rattle.tree.proofs.leaf.Given as goal

abbrev pub invariant-loop-side : goal.invariant-loop-side
invariant-loop-side l = Stands l.q.seed l.q.x l.q.r l.q.item l.sums l.side l.n

abbrev pub decreases-loop-side : goal.decreases-loop-side
decreases-loop-side l = l.side
