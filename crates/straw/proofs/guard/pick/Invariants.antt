use Rattle.std.proofs.Common.{◌≡◌}
use Rattle.std.specs.Option.{MatchOption}
use Rattle.straw.specs.Guard.{Found, Absent}
use Rattle.straw.proofs.guard.pick.Given as goal

abbrev pub invariant-loop-i : goal.invariant-loop-i
invariant-loop-i l = MatchOption l.place ((l.t ≡ 1) × (l.k ≡ 0) × Absent l.weights l.i) (Found l.weights)
