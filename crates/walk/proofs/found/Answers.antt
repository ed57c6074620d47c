-- `walk::found` meets its contract. Assumes nothing.
use borrow.Author.Tests.{eq-eqb, ne_eqb}
use Rattle.definitions.specs.Walk.{found}
use Rattle.walk.proofs.found.Goals as goal

pub returns-then-k-eq-HOLE : goal.returns-then-k-eq-HOLE
unfolding found
returns-then-k-eq-HOLE c = simp (c.tries_in-tries.ensures, eq-eqb _ _ c.if-k-eq-HOLE.true)

pub returns-else-k-eq-HOLE : goal.returns-else-k-eq-HOLE
unfolding found
returns-else-k-eq-HOLE c = simp (c.tries_in-tries.ensures, ne_eqb _ _ c.if-k-eq-HOLE.false)
