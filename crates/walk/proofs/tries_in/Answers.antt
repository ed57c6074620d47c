-- `walk::tries_in` meets its contract. Assumes nothing.
use native.Mathlib.Omega.{arith}
use borrow.Author.Tests.{eq-eqb, ne_eqb}
use Rattle.definitions.specs.Walk.{tries_in}
use Rattle.walk.proofs.tries_in.Goals as goal

pub returns-then-k-eq-HOLE : goal.returns-then-k-eq-HOLE
unfolding tries_in
returns-then-k-eq-HOLE c = rw (eq-eqb _ _ c.if-k-eq-HOLE.true) (omega arith)

pub returns : goal.returns
unfolding tries_in
returns c = rw (ne_eqb _ _ c.if-k-eq-HOLE.false) (omega arith)
