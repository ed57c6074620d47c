-- `survey::looks::stands` meets its contract. Assumes nothing.
use Rattle.std.proofs.Common.{ap, ◌∙◌}
use Rattle.std.proofs.Math.ListN.{length}
use Rattle.laws.specs.Chains.{eq-same}
use Rattle.survey.specs.Places.{row-length, stood}
use Rattle.survey.proofs.looks.stands.Goals as goal

pub returns : goal.returns
returns c =
    let a = c.args in
    let e = c.row_of-places.ensures in
    stood _ a.w a.row.now _ c.eq.result (ap length e ∙ row-length a.plan.now a.values.now a.rule a.w a.x c.requires.0) e (c.eq.ensures ∙ eq-same _ _)
