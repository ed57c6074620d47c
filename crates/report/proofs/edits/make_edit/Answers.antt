-- By edit's own contract. Assumes nothing.
use Rattle.std.proofs.Common.{arith}
use Rattle.report.specs.Says.{edit-room}
use Rattle.report.specs.Kept.{answers-edit}
use Rattle.report.proofs.edits.make_edit.Goals as goal

pub returns : goal.returns
returns c =
    let a = c.args in
    let e = c.edit-e in
    λ states. answers-edit _ _ _ states _ e.ensures
    (c.tell.ensures e.new.table e.new.space (λ z. let m = edit-room a.map.now a.table.now a.line.now a.space.now _ e.ensures z in omega (arith, m, e.auto.space)))
