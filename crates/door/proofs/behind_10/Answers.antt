-- `door::behind_10` meets its contract: the questions one after the other. Assumes nothing.
use Rattle.std.proofs.Common.{sym, ap, ◌∙◌, length, get_or}
use Rattle.definitions.specs.Lists.{first_no}
use Rattle.definitions.specs.Load.{map_questions}
use Rattle.laws.specs.Loadable.{in_blocks_lem}
use Rattle.door.specs.Questions.{behind, stopped, last}
use Rattle.door.specs.Types.{types-length, types_are}
use Rattle.door.proofs.behind_10.Goals as goal

pub in_blocks-requires-clause-types_len : goal.in_blocks-requires-clause-types_len
in_blocks-requires-clause-types_len c =
    let q = c.types_of.ensures in
    let levels = c.args.levels.now in
    (ap length q ∙ types-length levels 256, λ b h. ap (λ l. get_or l b 0) q ∙ types_are _ levels c.requires.levels.0 b h)

pub slim-requires-clause-t_len_bound : goal.slim-requires-clause-t_len_bound
slim-requires-clause-t_len_bound c = (in_blocks_lem _ (sym c.in_blocks.ensures ∙ c.in_ok-ask.ensures)).most

pub returns-in_err-ask : goal.returns-in_err-ask
unfolding map_questions behind first_no
returns-in_err-ask c =
    let h = c.in_err-ask.ensures in
    stopped _ _ _ _ c.from_residual.result c.from_residual.ensures.1 h.1 (simp (sym c.in_blocks.ensures ∙ h.0))

pub returns-in_err-ask-2 : goal.returns-in_err-ask-2
unfolding map_questions behind first_no
returns-in_err-ask-2 c =
    let h = c.in_err-ask-2.ensures in
    stopped _ _ _ _ c.from_residual-in_err-ask-2.result c.from_residual-in_err-ask-2.ensures.1 h.1 (simp (sym c.in_blocks.ensures ∙ c.in_ok-ask.ensures, sym c.typed.ensures ∙ h.0))

pub returns-in_err-ask-3 : goal.returns-in_err-ask-3
unfolding map_questions behind first_no
returns-in_err-ask-3 c =
    let h = c.in_err-ask-3.ensures in
    stopped _ _ _ _ c.from_residual-in_err-ask-3.result c.from_residual-in_err-ask-3.ensures.1 h.1 (simp (sym c.in_blocks.ensures ∙ c.in_ok-ask.ensures, sym c.typed.ensures ∙ c.in_ok-ask-2.ensures, sym c.slim.ensures ∙ h.0))

pub returns-in_err-ask-4 : goal.returns-in_err-ask-4
unfolding map_questions behind first_no
returns-in_err-ask-4 c =
    let h = c.in_err-ask-4.ensures in
    stopped _ _ _ _ c.from_residual-in_err-ask-4.result c.from_residual-in_err-ask-4.ensures.1 h.1 (simp (sym c.in_blocks.ensures ∙ c.in_ok-ask.ensures, sym c.typed.ensures ∙ c.in_ok-ask-2.ensures, sym c.slim.ensures ∙ c.in_ok-ask-3.ensures, sym c.summed.ensures ∙ h.0))

pub returns : goal.returns
unfolding map_questions behind first_no
returns c =
    last _ _ _ _ c.ask-5.ensures (λ h. simp (sym c.in_blocks.ensures ∙ c.in_ok-ask.ensures, sym c.typed.ensures ∙ c.in_ok-ask-2.ensures, sym c.slim.ensures ∙ c.in_ok-ask-3.ensures, sym c.summed.ensures ∙ c.in_ok-ask-4.ensures, sym c.light.ensures ∙ h))
    (λ h. simp (sym c.in_blocks.ensures ∙ c.in_ok-ask.ensures, sym c.typed.ensures ∙ c.in_ok-ask-2.ensures, sym c.slim.ensures ∙ c.in_ok-ask-3.ensures, sym c.summed.ensures ∙ c.in_ok-ask-4.ensures, sym c.light.ensures ∙ h))
