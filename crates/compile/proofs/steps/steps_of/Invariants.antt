use Rattle.std.proofs.Common.{◌≡◌, length, take}
use Rattle.definitions.specs.Map.{map_of}
use Rattle.compile.proofs.steps.steps_of.Given as goal

abbrev pub invariant-loop-k : goal.invariant-loop-k
invariant-loop-k l = (length l.steps ≡ 16) × (take l.k l.steps ≡ take l.k (map_of l.text).steps)
