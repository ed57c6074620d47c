-- `door::load` meets its contract: the questions one after the other, and then those behind 6. Assumes nothing.
use Rattle.std.proofs.Common.{refl, sym, ◌∙◌}
use Rattle.definitions.specs.Lists.{first_no}
use Rattle.definitions.specs.Load.{text_questions, map_questions, load_number}
use Rattle.text.specs.RoundTrip.{Framed}
use Rattle.text.specs.Loading.{behind-text}
use Rattle.door.specs.Questions.{behind, stopped}
use Rattle.door.proofs.load.Goals as goal

pub returns-in_err-ask : goal.returns-in_err-ask
unfolding load_number text_questions first_no
returns-in_err-ask c =
    let h = c.in_err-ask.ensures in
    stopped _ _ _ _ c.from_residual.result c.from_residual.ensures.1 h.1 (simp (sym c.sized.ensures ∙ h.0))

pub returns-in_err-ask-2 : goal.returns-in_err-ask-2
unfolding load_number text_questions first_no
returns-in_err-ask-2 c =
    let h = c.in_err-ask-2.ensures in
    stopped _ _ _ _ c.from_residual-in_err-ask-2.result c.from_residual-in_err-ask-2.ensures.1 h.1 (simp (sym c.sized.ensures ∙ c.in_ok-ask.ensures, sym c.formed.ensures ∙ h.0))

pub returns-in_err-ask-3 : goal.returns-in_err-ask-3
unfolding load_number text_questions first_no
returns-in_err-ask-3 c =
    let o = c.outline_of-o.ensures in
    let h = c.in_err-ask-3.ensures in
    stopped _ _ _ _ c.from_residual-in_err-ask-3.result c.from_residual-in_err-ask-3.ensures.1 h.1 (simp (sym c.sized.ensures ∙ c.in_ok-ask.ensures, sym c.formed.ensures ∙ c.in_ok-ask-2.ensures, sym (c.ordered.ensures _ o.0 o.1) ∙ h.0))

pub returns-in_err-ask-4 : goal.returns-in_err-ask-4
unfolding load_number text_questions first_no
returns-in_err-ask-4 c =
    let o = c.outline_of-o.ensures in
    let h = c.in_err-ask-4.ensures in
    stopped _ _ _ _ c.from_residual-in_err-ask-4.result c.from_residual-in_err-ask-4.ensures.1 h.1 (simp (sym c.sized.ensures ∙ c.in_ok-ask.ensures, sym c.formed.ensures ∙ c.in_ok-ask-2.ensures, sym (c.ordered.ensures _ o.0 o.1) ∙ c.in_ok-ask-3.ensures, sym c.counted.ensures ∙ h.0))

pub returns-in_err-ask-5 : goal.returns-in_err-ask-5
unfolding map_questions first_no
returns-in_err-ask-5 c =
    let o = c.outline_of-o.ensures in
    let framed : Framed c.args.t.now = record { sized = sym c.sized.ensures ∙ c.in_ok-ask.ensures; formed = sym c.formed.ensures ∙ c.in_ok-ask-2.ensures; ordered = sym (c.ordered.ensures _ o.0 o.1) ∙ c.in_ok-ask-3.ensures; counted = sym c.counted.ensures ∙ c.in_ok-ask-4.ensures } in
    let h = c.in_err-ask-5.ensures in
    stopped _ _ _ _ c.from_residual-in_err-ask-5.result c.from_residual-in_err-ask-5.ensures.1 h.1 (behind-text _ framed ∙ simp (sym c.ranged.ensures ∙ h.0))

pub returns-in_err-ask-6 : goal.returns-in_err-ask-6
unfolding map_questions first_no
returns-in_err-ask-6 c =
    let o = c.outline_of-o.ensures in
    let framed : Framed c.args.t.now = record { sized = sym c.sized.ensures ∙ c.in_ok-ask.ensures; formed = sym c.formed.ensures ∙ c.in_ok-ask-2.ensures; ordered = sym (c.ordered.ensures _ o.0 o.1) ∙ c.in_ok-ask-3.ensures; counted = sym c.counted.ensures ∙ c.in_ok-ask-4.ensures } in
    let h = c.in_err-ask-6.ensures in
    stopped _ _ _ _ c.from_residual-in_err-ask-6.result c.from_residual-in_err-ask-6.ensures.1 h.1 (behind-text _ framed ∙ simp (sym c.ranged.ensures ∙ c.in_ok-ask-5.ensures, sym c.rising.ensures ∙ h.0))

pub returns-in_err-behind_6 : goal.returns-in_err-behind_6
unfolding map_questions behind first_no
returns-in_err-behind_6 c =
    let o = c.outline_of-o.ensures in
    let framed : Framed c.args.t.now = record { sized = sym c.sized.ensures ∙ c.in_ok-ask.ensures; formed = sym c.formed.ensures ∙ c.in_ok-ask-2.ensures; ordered = sym (c.ordered.ensures _ o.0 o.1) ∙ c.in_ok-ask-3.ensures; counted = sym c.counted.ensures ∙ c.in_ok-ask-4.ensures } in
    stopped _ _ _ _ c.from_residual-in_err-behind_6.result c.from_residual-in_err-behind_6.ensures.1 refl
    (behind-text _ framed ∙ simp (sym c.ranged.ensures ∙ c.in_ok-ask-5.ensures, sym c.rising.ensures ∙ c.in_ok-ask-6.ensures) c.in_err-behind_6.ensures)

pub returns : goal.returns
unfolding map_questions behind first_no
returns c =
    let o = c.outline_of-o.ensures in
    let framed : Framed c.args.t.now = record { sized = sym c.sized.ensures ∙ c.in_ok-ask.ensures; formed = sym c.formed.ensures ∙ c.in_ok-ask-2.ensures; ordered = sym (c.ordered.ensures _ o.0 o.1) ∙ c.in_ok-ask-3.ensures; counted = sym c.counted.ensures ∙ c.in_ok-ask-4.ensures } in
    (behind-text _ framed ∙ simp (sym c.ranged.ensures ∙ c.in_ok-ask-5.ensures, sym c.rising.ensures ∙ c.in_ok-ask-6.ensures) c.in_ok-behind_6.ensures, refl)
