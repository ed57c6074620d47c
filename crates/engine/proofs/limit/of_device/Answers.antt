-- `engine::limit::of_device` meets its contract: 19, then the rows that hold the device. Assumes nothing.
use Rattle.std.proofs.Common.{refl, ap, ◌∙◌}
use Rattle.definitions.specs.View.{view_of}
use Rattle.text.specs.Agreement.{loaded-map}
use Rattle.compile.specs.Reading.{no-edit}
use Rattle.loaded.specs.Compiled.{compiled-from, compiled-runs}
use Rattle.engine.specs.Limits.{stale, told}
use Rattle.engine.specs.Rows.{stopped, room-by}
use Rattle.engine.proofs.limit.of_device.Goals as goal

pub compile-h-requires-clause-loadable : goal.compile-h-requires-clause-loadable
compile-h-requires-clause-loadable c = rw (no-edit _) (loaded-map _ c.requires.map_value.0)

pub is_fresh-is_fresh-requires-clause-runs : goal.is_fresh-is_fresh-requires-clause-runs
is_fresh-is_fresh-requires-clause-runs c =
    let e = c.compile-h.ensures in
    let C = compiled-from _ _ _ _ _ refl (e.values_value ∙ ap view_of (no-edit _)) e.flagged e.rule_value in
    compiled-runs _ _ _ _ (loaded-map _ c.requires.map_value.0) C _ c.requires.rows_value.0.width

pub returns-in_err-ask : goal.returns-in_err-ask
returns-in_err-ask c =
    let e = c.compile-h.ensures in
    let C = compiled-from _ _ _ _ _ refl (e.values_value ∙ ap view_of (no-edit _)) e.flagged e.rule_value in
    let R = c.requires.rows_value.0 in
    let h = c.in_err-ask.ensures in
    stopped _ _ _ _ c.from_residual.result c.from_residual.ensures.1 h.1 (stale _ _ c.args.device c.requires.map_value.0 c.requires.map_value.1 c.requires.device_value _ _ _ c.args.rows.groups c.args.rows.width C R.groups R.width (room-by _ _ _ R c.requires.rows_value.1)
    c.is_fresh-is_fresh.result c.is_fresh-is_fresh.ensures h.0 _ refl)

pub returns : goal.returns
returns c =
    let e = c.compile-h.ensures in
    let C = compiled-from _ _ _ _ _ refl (e.values_value ∙ ap view_of (no-edit _)) e.flagged e.rule_value in
    let R = c.requires.rows_value.0 in
    told _ _ c.args.device c.requires.map_value.0 c.requires.map_value.1 c.requires.device_value _ _ _ c.args.rows.groups c.args.rows.width C R.groups R.width (room-by _ _ _ R c.requires.rows_value.1)
    c.is_fresh-is_fresh.result c.is_fresh-is_fresh.ensures c.in_ok-ask.ensures c.holders-k.result c.holders-k.ensures.0
