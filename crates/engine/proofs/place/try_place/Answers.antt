-- `engine::place::try_place` meets its contract: 14, 15, 16, then the list. Assumes nothing.
use Rattle.std.proofs.Common.{sym, arith, ltb-true, ltb-false, leb-true, leb-false}
use Rattle.engine.specs.Calls.{place-14, place-15, place-16}
use Rattle.engine.specs.Done.{place-done}
use Rattle.engine.specs.Rows.{stopped}
use Rattle.engine.proofs.place.try_place.Goals as goal

pub returns-in_err-text : goal.returns-in_err-text
returns-in_err-text c =
    let h = c.in_err-text.ensures in
    stopped _ _ _ _ c.from_residual.result c.from_residual.ensures.1 h.0 (sym (place-14 _ _ _ h.1))

pub returns-in_err-ask : goal.returns-in_err-ask
returns-in_err-ask c =
    let T = c.in_ok-text.ensures in
    let R = rw T.1 at c.rows_of-rows.ensures in
    let h = c.in_err-ask.ensures in
    stopped _ _ _ _ c.from_residual-in_err-ask.result c.from_residual-in_err-ask.ensures.1 h.1 (sym (place-15 _ _ _ T.0 (omega (arith, ltb-false _ _ h.0, R.groups))))

pub returns-in_err-ask-2 : goal.returns-in_err-ask-2
returns-in_err-ask-2 c =
    let T = c.in_ok-text.ensures in
    let R = rw T.1 at c.rows_of-rows.ensures in
    let h = c.in_err-ask-2.ensures in
    stopped _ _ _ _ c.from_residual-in_err-ask-2.result c.from_residual-in_err-ask-2.ensures.1 h.1 (sym (place-16 _ _ _ T.0 (omega (arith, ltb-true _ _ c.in_ok-ask.ensures, R.groups)) (omega (arith, leb-false _ _ h.0, R.width))))

pub returns : goal.returns
returns c =
    let T = c.in_ok-text.ensures in
    let R = rw T.1 at c.rows_of-rows.ensures in
    let P = rw T.1 at c.place_into-tries.ensures in
    place-done _ _ _ _ c.rows_of-rows.result.width _ T.0 (omega (arith, ltb-true _ _ c.in_ok-ask.ensures, R.groups)) R.width
    (leb-true _ _ c.in_ok-ask-2.ensures) P.0 P.1
