-- `engine::edit::questions` meets its contract: 14, 16, 17 and 18. Assumes nothing.
use Rattle.std.proofs.Common.{refl, sym, ◌∙◌}
use Rattle.editing.specs.Fitting.{fitted-at, fitted_none}
use Rattle.engine.specs.Edits.{edit-14, edit-16, edit-17, edit-18}
use Rattle.engine.specs.Rows.{stopped, room-of}
use Rattle.engine.proofs.edit.questions.Goals as goal

pub returns-in_err-text : goal.returns-in_err-text
returns-in_err-text c =
    let h = c.in_err-text.ensures in
    stopped _ _ _ _ c.from_residual.result c.from_residual.ensures.1 h.0 (λ s. edit-14 _ _ _ _ h.1)

pub returns-in_err-rows : goal.returns-in_err-rows
returns-in_err-rows c =
    let T = c.in_ok-text.ensures in
    let h = rw T.1 at c.in_err-rows.ensures in
    stopped _ _ _ _ c.from_residual-in_err-rows.result c.from_residual-in_err-rows.ensures.1 h.0 (λ s. edit-16 _ _ _ _ T.0 h.1)

pub returns-in_err-ask : goal.returns-in_err-ask
returns-in_err-ask c =
    let T = c.in_ok-text.ensures in
    let R = rw T.1 at c.in_ok-rows.ensures in
    let h = c.in_err-ask.ensures in
    stopped _ _ _ _ c.from_residual-in_err-ask.result c.from_residual-in_err-ask.ensures.1 h.1 (λ s. edit-17 _ _ _ _ T.0 (room-of _ _ _ R.0 R.1) (rw T.1 at (sym c.independent.ensures ∙ h.0)))

pub returns-in-Some : goal.returns-in-Some
returns-in-Some c =
    let T = c.in_ok-text.ensures in
    let R = rw T.1 at c.in_ok-rows.ensures in
    let F = rw T.1 at (fitted-at _ _ _ _ refl c.in-Some.ensures) in
    record {
      loads = T.0;
      shape = rw (c.text.view_is, T.1) at c.text.invariant.1;
      only = rw T.1 at (sym c.independent.ensures ∙ c.in_ok-ask.ensures);
      change = c.change_of-change.ensures;
      fits = F.0;
      place = F.1;
      rows = R.0;
      room = R.1;
    }

pub returns-in-None : goal.returns-in-None
returns-in-None c =
    let T = c.in_ok-text.ensures in
    let R = rw T.1 at c.in_ok-rows.ensures in
    let n = rw (T.1, c.change_of-change.ensures) at (fitted_none _ _ _ refl c.in-None.ensures) in
    λ s. edit-18 _ _ _ _ T.0 (room-of _ _ _ R.0 R.1) (rw T.1 at (sym c.independent.ensures ∙ c.in_ok-ask.ensures)) n
