-- `walk::on_tried` meets its contract: each arm is a case of `on_verdict`. Assumes nothing.
use Rattle.definitions.specs.Walk.{on_verdict, on_tried}
use Rattle.walk.proofs.on_tried.Goals as goal

pub returns-in-Held : goal.returns-in-Held
unfolding on_tried on_verdict
returns-in-Held c = simp (c.in-Held.is, c.failed_to.ensures, c.retry_at.ensures)

pub returns-in-Rejected : goal.returns-in-Rejected
unfolding on_tried on_verdict
returns-in-Rejected c = simp (c.in-Rejected.is, c.failed_to-in-Rejected.ensures)

pub returns-in-Passed : goal.returns-in-Passed
unfolding on_tried on_verdict
returns-in-Passed c = simp c.in-Passed.is
