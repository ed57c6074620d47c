-- `engine::fill::try_fill` meets its contract: 14, 16, then the rows. Assumes nothing.
use Rattle.std.proofs.Common.{refl, sym, ap, ap₂, ◌∙◌, ◌*◌}
use Rattle.definitions.specs.View.{view_of}
use Rattle.text.specs.Agreement.{loaded-map}
use Rattle.compile.specs.Reading.{no-edit}
use Rattle.loaded.specs.Compiled.{compiled-from, compiled-runs}
use Rattle.engine.specs.Calls.{fill-14, fill-16}
use Rattle.engine.specs.Done.{fill_done}
use Rattle.engine.specs.Rows.{stopped, room-by}
use Rattle.engine.proofs.fill.try_fill.Goals as goal

pub returns-in_err-text : goal.returns-in_err-text
returns-in_err-text c =
    let h = c.in_err-text.ensures in
    stopped _ _ _ _ c.from_residual.result c.from_residual.ensures.1 h.0 (sym (fill-14 _ _ h.1))

pub rows_in-requires : goal.rows_in-requires
rows_in-requires c = rw c.in_ok-text.ensures.1 c.in_ok-text.ensures.0

pub returns-in_err-rows : goal.returns-in_err-rows
returns-in_err-rows c =
    let h = rw c.in_ok-text.ensures.1 at c.in_err-rows.ensures in
    stopped _ _ _ _ c.from_residual-in_err-rows.result c.from_residual-in_err-rows.ensures.1 h.0 (sym (fill-16 _ _ c.in_ok-text.ensures.0 h.1))

pub compile-h-requires-clause-loadable : goal.compile-h-requires-clause-loadable
compile-h-requires-clause-loadable c =
    let T = c.in_ok-text.ensures in
    rw (T.1, no-edit _) (loaded-map _ T.0)

pub fill_rows-requires-clause-len_bound : goal.fill_rows-requires-clause-len_bound
fill_rows-requires-clause-len_bound c =
    let T = c.in_ok-text.ensures in
    let e = rw T.1 at c.compile-h.ensures in
    let C = compiled-from _ _ _ _ _ refl (e.values_value ∙ ap view_of (no-edit _)) e.flagged e.rule_value in
    let R = rw T.1 at c.in_ok-rows.ensures in
    let U = compiled-runs _ _ _ _ (loaded-map _ T.0) C _ R.0.width in
    (U.0, U.1)

pub fill_rows-requires-clause-len_bound_2 : goal.fill_rows-requires-clause-len_bound_2
fill_rows-requires-clause-len_bound_2 c =
    let T = c.in_ok-text.ensures in
    let e = rw T.1 at c.compile-h.ensures in
    let C = compiled-from _ _ _ _ _ refl (e.values_value ∙ ap view_of (no-edit _)) e.flagged e.rule_value in
    let R = rw T.1 at c.in_ok-rows.ensures in
    let U = compiled-runs _ _ _ _ (loaded-map _ T.0) C _ R.0.width in
    (U.2, U.3, R.0.few, room-by _ _ _ R.0 R.1)

pub returns : goal.returns
returns c =
    let T = c.in_ok-text.ensures in
    let e = rw T.1 at c.compile-h.ensures in
    let C = compiled-from _ _ _ _ _ refl (e.values_value ∙ ap view_of (no-edit _)) e.flagged e.rule_value in
    let R = rw T.1 at c.in_ok-rows.ensures in
    fill_done _ _ _ _ _ _ _ _ _ T.0 C R.0.width R.0.groups (R.0.places ∙ sym (ap₂ ◌*◌ R.0.groups R.0.width)) R.1 c.fill_rows.ensures
