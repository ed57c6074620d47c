-- `survey::looks::look_anywhere` meets its contract. Assumes nothing.
use Rattle.std.proofs.Common.{ap, ◌∙◌}
use Rattle.std.proofs.Math.ListN.{length}
use Rattle.laws.specs.Chains.{eq-same}
use Rattle.survey.specs.Places.{row-length, looked-one}
use Rattle.survey.proofs.looks.look_anywhere.Goals as goal

pub returns-in-Some : goal.returns-in-Some
returns-in-Some c =
    let a = c.args in
    let (o, n) = c.in-Some.ensures in
    rw c.then_some.ensures
    (looked-one _ _ a.w a.x a.row.now _ c.eq.result (ap length o ∙ row-length a.plan.now a.old.now a.rule a.w a.x c.requires.0) o n
    (c.eq.ensures ∙ eq-same _ _))
