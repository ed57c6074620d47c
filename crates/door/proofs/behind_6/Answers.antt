-- `door::behind_6` meets its contract: the questions one after the other, and then those behind 10. Assumes nothing.
use Rattle.std.proofs.Common.{sym, ◌∙◌}
use Rattle.definitions.specs.Lists.{first_no}
use Rattle.definitions.specs.Load.{map_questions}
use Rattle.door.specs.Questions.{behind, stopped}
use Rattle.door.proofs.behind_6.Goals as goal

pub returns-in_err-ask : goal.returns-in_err-ask
unfolding map_questions behind first_no
returns-in_err-ask c =
    let h = c.in_err-ask.ensures in
    stopped _ _ _ _ c.from_residual.result c.from_residual.ensures.1 h.1 (simp (sym c.present.ensures ∙ h.0))

pub returns-in_err-ask-2 : goal.returns-in_err-ask-2
unfolding map_questions behind first_no
returns-in_err-ask-2 c =
    let h = c.in_err-ask-2.ensures in
    stopped _ _ _ _ c.from_residual-in_err-ask-2.result c.from_residual-in_err-ask-2.ensures.1 h.1 (simp (sym c.present.ensures ∙ c.in_ok-ask.ensures, sym c.once.ensures ∙ h.0))

pub returns-in_err-ask-3 : goal.returns-in_err-ask-3
unfolding map_questions behind first_no
returns-in_err-ask-3 c =
    let h = c.in_err-ask-3.ensures in
    stopped _ _ _ _ c.from_residual-in_err-ask-3.result c.from_residual-in_err-ask-3.ensures.1 h.1 (simp (sym c.present.ensures ∙ c.in_ok-ask.ensures, sym c.once.ensures ∙ c.in_ok-ask-2.ensures, sym c.falling.ensures ∙ h.0))

pub returns-in_err-ask-4 : goal.returns-in_err-ask-4
unfolding map_questions behind first_no
returns-in_err-ask-4 c =
    let h = c.in_err-ask-4.ensures in
    stopped _ _ _ _ c.from_residual-in_err-ask-4.result c.from_residual-in_err-ask-4.ensures.1 h.1 (simp (sym c.present.ensures ∙ c.in_ok-ask.ensures, sym c.once.ensures ∙ c.in_ok-ask-2.ensures, sym c.falling.ensures ∙ c.in_ok-ask-3.ensures, sym c.filled.ensures ∙ h.0))

pub returns-in_err-ask-5 : goal.returns-in_err-ask-5
unfolding map_questions behind first_no
returns-in_err-ask-5 c =
    let h = c.in_err-ask-5.ensures in
    stopped _ _ _ _ c.from_residual-in_err-ask-5.result c.from_residual-in_err-ask-5.ensures.1 h.1 (simp (sym c.present.ensures ∙ c.in_ok-ask.ensures, sym c.once.ensures ∙ c.in_ok-ask-2.ensures, sym c.falling.ensures ∙ c.in_ok-ask-3.ensures, sym c.filled.ensures ∙ c.in_ok-ask-4.ensures, sym c.narrow.ensures ∙ h.0))

pub returns : goal.returns
unfolding map_questions behind first_no
returns c = simp (sym c.present.ensures ∙ c.in_ok-ask.ensures, sym c.once.ensures ∙ c.in_ok-ask-2.ensures, sym c.falling.ensures ∙ c.in_ok-ask-3.ensures, sym c.filled.ensures ∙ c.in_ok-ask-4.ensures, sym c.narrow.ensures ∙ c.in_ok-ask-5.ensures) c.behind_10.ensures
