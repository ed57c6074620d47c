-- `lockstep::partings::cause` meets its contract, case by case. Assumes nothing.
use Rattle.std.proofs.Common.{sym, ◌∙◌}
use Rattle.std.proofs.lemmas.Bool.{false≢true}
use Rattle.definitions.specs.Edit.{cause_of}
use Rattle.lockstep.proofs.Ends.{held-equal}
use Rattle.lockstep.proofs.partings.cause.Goals as goal
use Rattle.lockstep.proofs.partings.cause.Goals.{then-eq, else-eq}

pub returns-in_default : goal.returns-in_default
unfolding cause_of
returns-in_default c = cc

pub returns-in-Draw : goal.returns-in-Draw
unfolding cause_of
returns-in-Draw c = cc

pub returns-then-eq-2 : goal.returns-then-eq-2
unfolding cause_of
returns-then-eq-2 c =
    elim c.if-eq.branch [
      | then-eq k ↦ simp (c.in-Some.is, c.in-Test.is, sym (held-equal _) ∙ sym c.eq.ensures ∙ k.if-eq.true)
      | else-eq k ↦
          simp (
            c.in-Some.is,
            c.in-Test.is,
            sym (held-equal _) ∙ sym c.eq.ensures ∙ k.if-eq.false,
            sym (held-equal _) ∙ sym k.eq-else-eq.ensures ∙ sym k.value-is ∙ c.if-eq-2.true,
          )
    ]

pub returns-else-eq-2 : goal.returns-else-eq-2
unfolding cause_of
returns-else-eq-2 c =
    elim c.if-eq.branch [
      | then-eq k ↦ absurd (false≢true (sym c.if-eq-2.false ∙ k.value-is ∙ k.if-eq.true))
      | else-eq k ↦
          simp (
            c.in-Some.is,
            c.in-Test.is,
            sym (held-equal _) ∙ sym c.eq.ensures ∙ k.if-eq.false,
            sym (held-equal _) ∙ sym k.eq-else-eq.ensures ∙ sym k.value-is ∙ c.if-eq-2.false,
          )
    ]
