-- `editing::survey_edit` meets its contract. Assumes nothing.
use mathlib.Core.Path.{◌≡◌, ap, ◌∙◌, sym, subst}
use Rattle.std.proofs.Common.{Some}
use Rattle.definitions.specs.declared.Change.TheVariants.{Acceptance}
use native.Mathlib.Omega.{arith}
use Rattle.survey.specs.declared.looks.Reach.{Reach}
use Rattle.survey.specs.Places.{Within}
use Rattle.editing.proofs.survey_edit.Goals as goal
use Rattle.editing.proofs.survey_edit.Goals.{In-Some-Acceptance}

-- the edit is one of an acceptance
edit : (c : In-Some-Acceptance) → c.args.c ≡ Some (Acceptance c.in-Some-Acceptance.d c.in-Some-Acceptance.v)
edit c = c.in-Some-Acceptance.is ∙ ap Some (rw c.in-Some-Acceptance.is at c.in-Some-Acceptance.field-0-is)

pub bounds-old-d : goal.bounds-old-d
bounds-old-d c =
    omega (arith, (c.requires.groups_bound.2 _ _ (edit (goal.at.bounds-old-d c).In-Some-Acceptance)).0)

pub survey_within-requires : goal.survey_within-requires
survey_within-requires c =
    let a = c.args in
    let within = (c.requires.groups_bound.2 _ _ (edit (goal.at.survey_within-requires c).In-Some-Acceptance)).1 in
    record { runs = c.requires.runs; groups_bound = (c.requires.groups_bound.0, c.requires.groups_bound.1); by_index = λ g h. subst (λ (r : Reach). Within r a.plan.now a.old.now a.new.now a.rule a.w g) (sym c.reach_of-reach.ensures) (within g h) }
