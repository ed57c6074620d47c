-- An edit is made, any other line does what it asks for. Assumes nothing.
use Rattle.std.proofs.Common.{sym, ap, ◌∙◌}
use Rattle.report.specs.Edits.{site_of, is_edit}
use Rattle.report.specs.Kept.{line_kept, line-edit, line-asked}
use Rattle.report.proofs.edits.answer.Goals as goal

pub returns-then-is_edit : goal.returns-then-is_edit
returns-then-is_edit c = λ xs k.
    let a = c.args in
    let here = site_of a.map.now a.table.now a.states.now in
    let form = sym (c.is_edit.ensures ∙ ap is_edit c.change_of.ensures) ∙ c.if-is_edit.true in
    rw (← line_kept a.p a.line.now xs k here a.space.now, line-edit a.p here a.line.now a.space.now form) (c.make_edit.ensures a.states.now)

pub returns : goal.returns
returns c = λ xs k.
    let a = c.args in
    let here = site_of a.map.now a.table.now a.states.now in
    let form = sym (c.is_edit.ensures ∙ ap is_edit c.change_of.ensures) ∙ c.if-is_edit.false in
    rw (← line_kept a.p a.line.now xs k here a.space.now, line-asked a.p here a.line.now a.space.now form, ← c.asked_of.ensures) c.serve.ensures
