-- `survey::surveys::survey_within` meets its contract. The invariant: what is known where the groups below g were looked at. Assumes nothing.
use Rattle.std.specs.Prelude.{◌<◌, None, Some}
use Rattle.std.proofs.Common.{arith, rules}
use native.Mathlib.Nat.{add-sub_cancel_left}
use Rattle.survey.specs.Places.{places_at}
use Rattle.survey.specs.Between.{answers}
use Rattle.survey.specs.Surveyed.{sofar-none, sofar-more, surveyed-stale, surveyed-all}
use Rattle.survey.proofs.surveys.survey_within.Goals as goal

pub loop-g-init : goal.loop-g-init
loop-g-init c = sofar-none _ _ _ _ _ (search rules)

pub returns-in_err-k : goal.returns-in_err-k
returns-in_err-k c =
    let a = c.args in
    let olds = places_at a.plan.now a.old.now a.rule a.w in
    let news = places_at a.plan.now a.new.now a.rule a.w in
    let l = c.loop-g in
    let q = surveyed-stale a.w olds news l.g a.groups a.table.now l.changed l.moves l.invariant c.loop-g-test.true c.requires.groups_bound.1 _ (add-sub_cancel_left _ _) c.in_err-k.ensures in
    rw c.from_residual.ensures (record { surveyed = q; answers = answers a.table.now None q })

pub loop-g-preserved : goal.loop-g-preserved
loop-g-preserved c =
    let a = c.args in
    let olds = places_at a.plan.now a.old.now a.rule a.w in
    let news = places_at a.plan.now a.new.now a.rule a.w in
    let l = c.loop-g in
    let h : l.g < 65536 = omega arith in
    sofar-more a.w olds news l.g a.groups a.table.now l.changed l.moves l.invariant c.loop-g-test.true
    c.requires.groups_bound.1 _ (add-sub_cancel_left _ _) c.in_ok-k.k _ h c.in_ok-k.ensures c.from.ensures

pub returns : goal.returns
returns c =
    let a = c.args in
    let olds = places_at a.plan.now a.old.now a.rule a.w in
    let news = places_at a.plan.now a.new.now a.rule a.w in
    let l = c.loop-g in
    let q = surveyed-all a.w olds news l.g a.groups a.table.now l.changed l.moves (omega arith) l.invariant in
    record { surveyed = q; answers = answers a.table.now (Some _) q }
