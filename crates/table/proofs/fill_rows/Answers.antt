-- `table::fill_rows` meets its contract: the rows so far stand at the table's front. Assumes nothing.
use Rattle.std.proofs.Common.{refl, arith, length-take, length-drop}
use native.Mathlib.Nat.{add-sub_cancel_left, zero-mul}
use Rattle.hierarchy.specs.Arrays.{view_in, actions_in}
use Rattle.table.specs.Rows.{rows_to, row_put, room}
use Rattle.table.proofs.fill_rows.Goals as goal

pub loop-g-init : goal.loop-g-init
unfolding rows_to
loop-g-init c = rw zero-mul

pub loop-g-preserved : goal.loop-g-preserved
loop-g-preserved c =
    let a = c.args in
    let inside = room c.loop-g.g a.groups a.w c.loop-g-test.true in
    row_put (view_in a.plan.now a.values.now) (actions_in a.rule) a.rule.len a.w
    c.requires.len_bound_2.0 c.loop-g.g _ _ _ a.table.now _ _ refl (add-sub_cancel_left _ _)
    (simp (length-take, length-drop) (omega (arith, inside, c.loop-g.auto.table, c.requires.len_bound_2.3))) c.loop-g.invariant c.place_row.ensures.0
