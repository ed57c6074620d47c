-- `walk::verdict` meets its contract: each answer is a case of `verdict_of`. Assumes nothing.
use mathlib.Core.Path.{sym, ◌∙◌}
use Rattle.definitions.specs.Walk.{verdict_of}
use Rattle.walk.proofs.verdict.Goals as goal

pub returns-then-holds : goal.returns-then-holds
unfolding verdict_of
returns-then-holds c = simp (sym c.holds.ensures ∙ c.if-holds.true)

pub returns-then-accepts : goal.returns-then-accepts
unfolding verdict_of
returns-then-accepts c =
    simp (sym c.holds.ensures ∙ c.if-holds.false, sym c.accepts.ensures ∙ c.if-accepts.true)

pub returns-else-accepts : goal.returns-else-accepts
unfolding verdict_of
returns-else-accepts c =
    simp (sym c.holds.ensures ∙ c.if-holds.false, sym c.accepts.ensures ∙ c.if-accepts.false)
