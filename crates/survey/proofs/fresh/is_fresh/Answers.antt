-- `survey::fresh::is_fresh` meets its contract. The invariant: the rows of the groups below g stand. Assumes nothing.
use Rattle.std.proofs.Common.{sym, ◌∙◌, arith}
use native.Mathlib.Nat.{add-sub_cancel_left}
use Rattle.survey.specs.Places.{places_at}
use Rattle.laws.specs.Lists.{same-is}
use Rattle.survey.specs.Surveyed.{rows_none, rows_more, rows-differ, rows_all}
use Rattle.survey.proofs.fresh.is_fresh.Goals as goal

pub loop-g-init : goal.loop-g-init
loop-g-init c = rows_none c.args.w (places_at c.args.plan.now c.args.values.now c.args.rule c.args.w) c.args.table.now

pub returns-then-not-stands : goal.returns-then-not-stands
returns-then-not-stands c =
    let a = c.args in
    let k = c.stands.ensures in
    sym
    (rows-differ a.w (places_at a.plan.now a.values.now a.rule a.w) c.loop-g.g a.table.now c.loop-g.invariant _ (add-sub_cancel_left _ _) a.groups
    c.loop-g-test.true c.requires.groups_bound.1 k.1 (sym k.0 ∙ c.if-not-stands.true))

pub loop-g-preserved : goal.loop-g-preserved
loop-g-preserved c =
    let a = c.args in
    rows_more a.w (places_at a.plan.now a.values.now a.rule a.w) c.loop-g.g a.table.now c.loop-g.invariant _ (add-sub_cancel_left _ _)
    (same-is _ _ (sym c.stands.ensures.0 ∙ c.if-not-stands.false))

pub returns : goal.returns
returns c =
    let a = c.args in
    rows_all a.w (places_at a.plan.now a.values.now a.rule a.w) c.loop-g.g a.groups a.table.now (omega arith) c.loop-g.invariant
