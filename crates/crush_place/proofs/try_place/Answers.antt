-- `crush_place::try_place` meets its contract: load's questions, 15, then the list or 16. Assumes nothing.
use Rattle.std.proofs.Common.{refl, sym, arith, ltb-true, ltb-false}
use Rattle.std.specs.Prelude.{MatchResult}
use Rattle.std.specs.declared.result.Result.{Result}
use Rattle.std.specs.declared.result.Result.TheVariants.{Ok, Err}
use Rattle.door.specs.declared.question.Question.{Question}
use Rattle.engine.specs.Rows.{stopped, refused-some}
use Rattle.crush_place.specs.Calls.{daemon-load, daemon-15}
use Rattle.crush_place.proofs.try_place.Goals as goal

pub returns-in_err-text : goal.returns-in_err-text
returns-in_err-text c =
    let h = c.in_err-text.ensures in
    stopped _ _ _ _ c.from_residual.result c.from_residual.ensures.1 refl (rw (← h) (sym (daemon-load _ _ _ (λ e. refused-some _ _ h e))))

pub returns-in_err-ask : goal.returns-in_err-ask
returns-in_err-ask c =
    let T = c.in_ok-text.ensures in
    let g = rw (c.text.view_is, T.1) at c.groups.ensures in
    let h = c.in_err-ask.ensures in
    stopped _ _ _ _ c.from_residual-in_err-ask.result c.from_residual-in_err-ask.ensures.1 h.1
    (sym (daemon-15 _ _ _ T.0 (omega (arith, ltb-false _ _ h.0, g))))

pub listed-requires : goal.listed-requires
listed-requires c =
    let T = c.in_ok-text.ensures in
    let g = rw c.text.view_is at c.groups.ensures in
    (rw T.1 T.0, omega (arith, ltb-true _ _ c.in_ok-ask.ensures, g))

-- what is known of a result, without the first of two facts on its value
second : {T : Type 0} (N A : T → Type 0) (E : Question → Type 0) (r : Result T Question) → MatchResult r (λ x. N x × A x) E → MatchResult r A E
second N A E (Ok x) h = h.1
second N A E (Err q) h = h

pub returns : goal.returns
returns c = second _ _ _ c.listed.result (rw c.in_ok-text.ensures.1 at c.listed.ensures)
