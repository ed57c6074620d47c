-- `survey::looks::look_before` meets its contract. Assumes nothing.
use Rattle.survey.specs.Places.{looked-before}
use Rattle.survey.proofs.looks.look_before.Goals as goal

pub returns : goal.returns
returns c =
    let a = c.args in
    rw c.then_some.ensures
    (looked-before _ _ a.w a.x a.d a.row.now c.holds.result c.stands.result c.stands.ensures c.holds.ensures c.if-holds.false c.requires.within)
