-- The refusal, or the moves that stand in the space. Assumes nothing.
use Rattle.std.proofs.Common.{refl}
use Rattle.report.specs.Says.{or-refused, moves-done}
use Rattle.report.proofs.edits.tell.Goals as goal

pub returns-then-e-ne0 : goal.returns-then-e-ne0
returns-then-e-ne0 c = λ table space room. rw (or-refused _ _ c.if-e-ne0.true) (record { text-is = refl; within = tt })

pub returns : goal.returns
returns c = λ table space room. moves-done c.args.e.number c.args.e.moves _ table space c.if-e-ne0.false refl (room c.if-e-ne0.false)
