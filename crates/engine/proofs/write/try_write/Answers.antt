-- `engine::write::try_write` meets its contract: 14, 16, then the frames. Assumes nothing.
use Rattle.std.proofs.Common.{sym, leb-true, leb-false}
use Rattle.engine.specs.Calls.{write-14, write-16, write-0}
use Rattle.engine.specs.Rows.{stopped}
use Rattle.engine.proofs.write.try_write.Goals as goal

pub returns-in_err-whole : goal.returns-in_err-whole
returns-in_err-whole c =
    let h = c.in_err-whole.ensures in
    stopped _ _ _ _ c.from_residual.result c.from_residual.ensures.1 h.0 (sym (write-14 _ _ h.1))

pub returns-in_err-ask : goal.returns-in_err-ask
returns-in_err-ask c =
    let h = c.in_err-ask.ensures in
    stopped _ _ _ _ c.from_residual-in_err-ask.result c.from_residual-in_err-ask.ensures.1 h.1
    (sym (write-16 _ _ c.in_ok-whole.ensures.0 (leb-false _ _ h.0)))

pub returns : goal.returns
returns c = rw c.copy.ensures (sym (write-0 _ _ c.in_ok-whole.ensures.0 (leb-true _ _ c.in_ok-ask.ensures)))
