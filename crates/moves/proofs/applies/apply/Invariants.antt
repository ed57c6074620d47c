use Rattle.survey.specs.Places.{places_at}
use Rattle.moves.specs.Applied.{Applied}
use Rattle.moves.proofs.applies.apply.Given as goal

abbrev pub invariant-loop-g : goal.invariant-loop-g
invariant-loop-g l =
    Applied l.task.mover l.task.w (places_at l.plan l.old l.rule l.task.w) (places_at l.plan l.new l.rule l.task.w) l.g l.initial.table l.table l.initial.space l.space l.at
