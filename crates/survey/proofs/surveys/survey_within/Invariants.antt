use Rattle.survey.specs.Places.{places_at}
use Rattle.survey.specs.Surveyed.{Sofar}
use Rattle.survey.proofs.surveys.survey_within.Given as goal

abbrev pub invariant-loop-g : goal.invariant-loop-g
invariant-loop-g l =
    Sofar l.w (places_at l.plan l.old l.rule l.w) (places_at l.plan l.new l.rule l.w) l.g l.table l.moves l.changed
