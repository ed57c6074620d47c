-- `engine::asked::rows_in` meets its contract. Assumes nothing.
use Rattle.std.proofs.Common.{refl, arith, leb-true, leb-false}
use Rattle.engine.specs.Rows.{stopped}
use Rattle.engine.proofs.asked.rows_in.Goals as goal

pub returns-in_err-ask : goal.returns-in_err-ask
returns-in_err-ask c =
    let h = c.in_err-ask.ensures in
    stopped _ _ _ _ c.from_residual.result c.from_residual.ensures.1 h.1 (refl, omega (arith, leb-false _ _ h.0, c.rows_of-rows.ensures.places))

pub returns : goal.returns
returns c = (c.rows_of-rows.ensures, leb-true _ _ c.in_ok-ask.ensures)
