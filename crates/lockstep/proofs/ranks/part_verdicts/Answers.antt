-- `lockstep::ranks::part_verdicts` meets its contract. Assumes nothing.
use Rattle.lockstep.proofs.ranks.part_verdicts.Goals as goal

pub returns : goal.returns
returns c = simp (c.part_plain.ensures, rw c.plan.view_is at c.verdict-w2.ensures, rw c.plan.view_is at c.verdict-w.ensures)
