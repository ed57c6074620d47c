use Rattle.std.proofs.Common.{◌≡◌, ◌≤◌}
use Rattle.ceiling.specs.Rows.{rows_holding}
use Rattle.survey.proofs.holders.holders.Given as goal

abbrev pub invariant-loop-g : goal.invariant-loop-g
invariant-loop-g l = (l.r ≡ rows_holding l.w l.d l.table l.g) × (l.r ≤ l.g)
