-- `survey::looks::look_after` meets its contract. Assumes nothing.
use Rattle.std.proofs.Common.{ap, ◌∙◌}
use Rattle.std.proofs.Math.ListN.{length}
use Rattle.laws.specs.Chains.{eq-same}
use Rattle.survey.specs.Places.{row-length, looked-after}
use Rattle.survey.proofs.looks.look_after.Goals as goal

pub returns : goal.returns
returns c =
    let a = c.args in
    let e = c.row_of-after.ensures in
    rw c.then_some.ensures
    (looked-after _ _ a.w a.x a.d a.row.now _ c.holds.result c.eq.result (row-length a.plan.now a.old.now a.rule a.w a.x c.requires.runs.0)
    (ap length e ∙ row-length a.plan.now a.new.now a.rule a.w a.x c.requires.runs.1) e c.holds.ensures c.if-holds.false c.requires.within (c.eq.ensures ∙ eq-same _ _))
