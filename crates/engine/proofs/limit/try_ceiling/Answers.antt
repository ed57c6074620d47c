-- `engine::limit::try_ceiling` meets its contract: 14, 16, 17, 18, then what is found of the device. Assumes nothing.
use Rattle.std.proofs.Common.{sym, ◌∙◌}
use Rattle.engine.specs.Limits.{ceiling-14, ceiling-16, ceiling-17, ceiling-18, found-there, found_none}
use Rattle.engine.specs.Rows.{stopped, room-of}
use Rattle.engine.proofs.limit.try_ceiling.Goals as goal

pub of_device-requires-clause-device_value : goal.of_device-requires-clause-device_value
of_device-requires-clause-device_value c = found-there _ _ _ c.in-Some.ensures

pub returns-in_err-text : goal.returns-in_err-text
returns-in_err-text c =
    let h = c.in_err-text.ensures in
    stopped _ _ _ _ c.from_residual.result c.from_residual.ensures.1 h.0 (sym (ceiling-14 _ _ _ h.1))

pub returns-in_err-rows : goal.returns-in_err-rows
returns-in_err-rows c =
    let T = c.in_ok-text.ensures in
    let h = rw T.1 at c.in_err-rows.ensures in
    stopped _ _ _ _ c.from_residual-in_err-rows.result c.from_residual-in_err-rows.ensures.1 h.0 (sym (ceiling-16 _ _ _ T.0 h.1))

pub returns-in_err-ask : goal.returns-in_err-ask
returns-in_err-ask c =
    let T = c.in_ok-text.ensures in
    let R = rw T.1 at c.in_ok-rows.ensures in
    let h = c.in_err-ask.ensures in
    stopped _ _ _ _ c.from_residual-in_err-ask.result c.from_residual-in_err-ask.ensures.1 h.1 (sym (ceiling-17 _ _ _ T.0 (room-of _ _ _ R.0 R.1) (rw T.1 at (sym c.independent.ensures ∙ h.0))))

pub returns-in-None : goal.returns-in-None
returns-in-None c =
    let T = c.in_ok-text.ensures in
    let R = rw T.1 at c.in_ok-rows.ensures in
    sym (ceiling-18 _ _ _ T.0 (room-of _ _ _ R.0 R.1) (rw T.1 at (sym c.independent.ensures ∙ c.in_ok-ask.ensures)) (found_none _ _ (rw T.1 at c.in-None.ensures)))
