use Rattle.std.proofs.Common.{◌≡◌}
use Rattle.definitions.specs.Map.{map_of}
use Rattle.definitions.specs.Load.{standing}
use Rattle.blocks.proofs.standing.in_blocks.Given as goal

abbrev pub invariant-loop-k : goal.invariant-loop-k
invariant-loop-k l = l.st ≡ standing (map_of l.t) l.k
