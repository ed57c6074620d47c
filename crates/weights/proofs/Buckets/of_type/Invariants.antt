use Rattle.std.proofs.Common.{◌≡◌}
use Rattle.weights.specs.Buckets.{arrays_of}
use Rattle.weights.specs.Weights.{round_to}
use Rattle.weights.proofs.Buckets.of_type.Given as goal

abbrev pub invariant-loop-b : goal.invariant-loop-b
invariant-loop-b l = l.loads ≡ round_to (arrays_of l.self) l.self.types.now l.ty l.initial.loads l.b
