-- `moves::applies::apply` meets its contract. The invariant: the groups below g are written. Assumes nothing.
use Rattle.std.proofs.Common.{arith}
use Rattle.survey.specs.Places.{places_at}
use Rattle.moves.specs.Applied.{length-row, applied-none, old_row, moves-room, applied-more, applied-still, applied-maps}
use Rattle.moves.proofs.applies.apply.Goals as goal
use Rattle.moves.proofs.applies.apply.Goals.{then-changed-g-ne0, else-changed-g-ne0}

pub loop-g-init : goal.loop-g-init
loop-g-init c = applied-none _ _ _ _ _ _

pub apply_group-at-requires-clause-table_value : goal.apply_group-at-requires-clause-table_value
apply_group-at-requires-clause-table_value c =
    let a = c.args in
    let l = c.loop-g in
    old_row a.task.mover a.task.w (places_at a.plan.now a.old.now a.rule a.task.w) (places_at a.plan.now a.new.now a.rule a.task.w) l.g a.task.groups
    a.table.now l.table a.space.now l.space l.at l.invariant c.loop-g-test.true (length-row a.plan.now a.old.now a.rule a.task.w c.requires.long.0)
    (length-row a.plan.now a.new.now a.rule a.task.w c.requires.long.1) c.requires.table_value c.requires.groups_bound.2

pub apply_group-at-requires-clause-g_in_bounds : goal.apply_group-at-requires-clause-g_in_bounds
apply_group-at-requires-clause-g_in_bounds c =
    let a = c.args in
    let l = c.loop-g in
    moves-room a.task.mover a.task.w (places_at a.plan.now a.old.now a.rule a.task.w) (places_at a.plan.now a.new.now a.rule a.task.w) l.g a.task.groups
    a.table.now l.table a.space.now l.space l.at l.invariant c.loop-g-test.true (length-row a.plan.now a.old.now a.rule a.task.w c.requires.long.0)
    (length-row a.plan.now a.new.now a.rule a.task.w c.requires.long.1) c.requires.groups_in_bounds

pub loop-g-preserved : goal.loop-g-preserved
loop-g-preserved c =
    let a = c.args in
    let l = c.loop-g in
    let olds = places_at a.plan.now a.old.now a.rule a.task.w in
    let news = places_at a.plan.now a.new.now a.rule a.task.w in
    let wide = length-row a.plan.now a.old.now a.rule a.task.w c.requires.long.0 in
    let wide' = length-row a.plan.now a.new.now a.rule a.task.w c.requires.long.1 in
    elim c.if-changed-g-ne0.branch [
      | then-changed-g-ne0 m ↦ rw (m.table-is, m.space-is, m.at-is)
          (applied-more a.task.mover a.task.w olds news l.g a.task.groups a.table.now l.table a.space.now l.space l.at l.invariant c.loop-g-test.true wide wide' m.apply_group-at.ensures.rewritten m.apply_group-at.ensures.written)
      | else-changed-g-ne0 m ↦ rw (m.table-is, m.space-is, m.at-is)
          (applied-still a.task.mover a.task.w olds news l.g a.task.groups a.table.now l.table a.space.now l.space l.at l.invariant c.loop-g-test.true wide wide' c.requires.table_value c.requires.groups_bound.2 (c.requires.by_index l.g c.loop-g-test.true m.if-changed-g-ne0.false))
    ]

pub returns : goal.returns
returns c =
    applied-maps c.args.task.mover c.loop-g.g c.args.task.groups c.requires.long.1 (omega arith) c.loop-g.invariant
