-- By return_to's own contract. Assumes nothing.
use Rattle.std.proofs.Common.{arith}
use Rattle.report.specs.Says.{return-room}
use Rattle.report.specs.Kept.{answers-edit}
use Rattle.report.proofs.edits.make_return.Goals as goal

pub returns : goal.returns
returns c =
    let a = c.args in
    let e = c.return_to-e in
    answers-edit _ _ _ _ _ e.ensures
    (c.tell.ensures e.new.table e.new.space (λ z. let m = return-room a.map.now a.table.now a.states.now a.name a.space.now _ e.ensures z in omega (arith, m, e.auto.space)))
