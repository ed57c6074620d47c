-- `moves::applies::apply_group` meets its contract. Assumes nothing.
use Rattle.std.proofs.Common.{◌≡◌, ap, ◌∙◌, ◌-◌, ◌+◌, ◌*◌, ℕ, arith, take, drop}
use Rattle.std.proofs.Math.ListN.{length}
use native.Mathlib.Nat.{add-sub_cancel_left}
use Rattle.definitions.specs.Select.{entries_of}
use Rattle.survey.specs.Places.{places_at, moves_at}
use Rattle.moves.specs.Changes.{told-length, written_as}
use Rattle.moves.specs.Applied.{told-moves}
use Rattle.moves.proofs.applies.apply_group.Goals as goal

-- what is written are the moves of the group
pub apply_row-requires-clause-row_in_bounds : goal.apply_row-requires-clause-row_in_bounds
apply_row-requires-clause-row_in_bounds c =
    let a = c.args in
    let moved = moves_at a.plan.now a.old.now a.new.now a.rule a.task.w a.g in
    let row : take (a.g * a.task.w + a.task.w - a.g * a.task.w) (drop (a.g * a.task.w) a.table.now) ≡ entries_of (places_at a.plan.now a.old.now a.rule a.task.w a.g) =
    ap (λ (k : ℕ). take k (drop (a.g * a.task.w) a.table.now)) (add-sub_cancel_left (a.g * a.task.w) a.task.w) ∙ c.requires.table_value in
    let told = told-moves a.plan.now a.old.now a.new.now a.rule a.task.w a.g c.requires.long.0 c.requires.long.1 a.task.mover c.causes_for-told.result _ _ c.causes_for-told.ensures row c.row_of-row.ensures in
    omega (arith, c.requires.g_in_bounds, ap length told, told-length a.task.mover moved)

pub returns-clause-written : goal.returns-clause-written
returns-clause-written c =
    let a = c.args in
    let row : take (a.g * a.task.w + a.task.w - a.g * a.task.w) (drop (a.g * a.task.w) a.table.now) ≡ entries_of (places_at a.plan.now a.old.now a.rule a.task.w a.g) =
    ap (λ (k : ℕ). take k (drop (a.g * a.task.w) a.table.now)) (add-sub_cancel_left (a.g * a.task.w) a.task.w) ∙ c.requires.table_value in
    written_as
    (told-moves a.plan.now a.old.now a.new.now a.rule a.task.w a.g c.requires.long.0 c.requires.long.1 a.task.mover c.causes_for-told.result _ _ c.causes_for-told.ensures row c.row_of-row.ensures)
    c.apply_row.ensures.1
