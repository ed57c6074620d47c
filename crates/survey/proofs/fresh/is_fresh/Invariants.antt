use Rattle.std.proofs.Common.{◌≡◌, ◌*◌, take}
use Rattle.survey.specs.Places.{places_at}
use Rattle.survey.specs.Surveyed.{rows_to}
use Rattle.survey.proofs.fresh.is_fresh.Given as goal

abbrev pub invariant-loop-g : goal.invariant-loop-g
invariant-loop-g l = take (l.g * l.w) l.table ≡ rows_to (places_at l.plan l.values l.rule l.w) l.g
