-- `tree::before` meets its contract. Assumes nothing.
use Rattle.std.proofs.Common.{arith, length}
use borrow.Author.Tests.{lt-ltb, le-ltb}
use Rattle.hierarchy.specs.Sums.{before}
use Rattle.tree.proofs.before.Goals as goal

pub returns-then-i-sums : goal.returns-then-i-sums
unfolding before
returns-then-i-sums c = let a = c.args in rw (lt-ltb a.i (length a.sums.now) (omega arith)) c.clamp.ensures

pub returns-else-i-sums : goal.returns-else-i-sums
unfolding before
returns-else-i-sums c = let a = c.args in rw (le-ltb a.i (length a.sums.now) (omega arith))
