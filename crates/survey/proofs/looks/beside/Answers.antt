-- `survey::looks::beside` meets its contract. Assumes nothing.
use Rattle.survey.specs.Places.{places_at, looked-stale, looked-moves}
use Rattle.survey.proofs.looks.beside.Goals as goal

pub returns-then-not-stands : goal.returns-then-not-stands
returns-then-not-stands c =
    let a = c.args in
    λ qs e. looked-stale (places_at a.plan.now a.old.now a.rule a.w a.x) qs a.w a.x a.row.now c.stands.result c.stands.ensures c.if-not-stands.true

pub returns : goal.returns
returns c =
    let a = c.args in
    λ qs e. looked-moves (places_at a.plan.now a.old.now a.rule a.w a.x) qs a.w a.x c.count_row.result a.row.now a.after.now c.stands.result
    c.requires.1 c.stands.ensures c.if-not-stands.false c.requires.2 e c.count_row.ensures.0 c.count_row.ensures.1
