use Rattle.std.proofs.Common.{ℕ}
use Rattle.definitions.specs.declared.Device.{Device}
use Rattle.definitions.specs.Map.{map_of}
use Rattle.ranges.proofs.Laws.{Summed}
use Rattle.ranges.proofs.light.light.Given as goal

abbrev pub weight : Device → ℕ
weight d = d.weight

abbrev pub invariant-loop-k : goal.invariant-loop-k
invariant-loop-k l = Summed weight (map_of l.t).devices l.k l.total
