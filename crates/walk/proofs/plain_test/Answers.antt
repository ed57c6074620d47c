-- `walk::plain_test` meets its contract. Assumes nothing.
use Rattle.walk.proofs.plain_test.Goals as goal

pub returns : goal.returns
returns c = simp (c.plain.ensures, rw c.plan.view_is at c.verdict-w.ensures)
