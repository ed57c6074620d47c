-- `survey::looks::look` meets its contract: one look for each reach. Assumes nothing.
use mathlib.Core.Path.{subst}
use Rattle.survey.specs.declared.looks.Reach.{Reach}
use Rattle.survey.specs.Places.{Within}
use Rattle.survey.proofs.looks.look.Goals as goal

pub look_before-requires : goal.look_before-requires
look_before-requires c =
    let a = c.args in
    record {
      runs = c.requires.runs;
      within = subst (λ (r : Reach). Within r a.plan.now a.old.now a.new.now a.rule a.w a.x) c.in-Before.is c.requires.within;
    }

pub look_after-requires : goal.look_after-requires
look_after-requires c =
    let a = c.args in
    record {
      runs = c.requires.runs;
      within = subst (λ (r : Reach). Within r a.plan.now a.old.now a.new.now a.rule a.w a.x) c.in-After.is c.requires.within;
    }
