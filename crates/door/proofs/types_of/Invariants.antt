use Rattle.std.proofs.Common.{◌≡◌}
use Rattle.door.specs.Types.{types_to}
use Rattle.door.proofs.types_of.Given as goal

abbrev pub invariant-loop-b : goal.invariant-loop-b
invariant-loop-b l = l.types ≡ types_to l.table l.b
