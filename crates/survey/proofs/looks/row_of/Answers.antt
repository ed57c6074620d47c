-- `survey::looks::row_of` meets its contract. Assumes nothing.
use Rattle.std.proofs.Common.{rules, replicate}
use Rattle.survey.specs.Places.{row-taken}
use Rattle.survey.proofs.looks.row_of.Goals as goal

pub returns : goal.returns
returns c =
    let a = c.args in
    row-taken a.plan.now a.values.now a.rule a.w a.x _ (replicate 32 0) c.requires.3 (search rules) c.place_row.ensures.0
