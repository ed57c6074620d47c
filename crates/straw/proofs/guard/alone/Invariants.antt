use Rattle.std.proofs.Common.{◌≤◌}
use Rattle.straw.specs.Guard.{Loses, Counted}
use Rattle.straw.proofs.guard.alone.Given as goal

abbrev pub invariant-loop-i : goal.invariant-loop-i
invariant-loop-i l = (l.count ≤ l.i) × Counted (Loses l.hashes l.weights l.g) l.g l.i l.count
