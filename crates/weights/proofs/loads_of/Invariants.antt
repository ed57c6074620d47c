use Rattle.std.proofs.Common.{◌≡◌}
use Rattle.weights.specs.Weights.{arrays, up_to}
use Rattle.weights.proofs.loads_of.Given as goal

abbrev pub invariant-loop-ty : goal.invariant-loop-ty
invariant-loop-ty l = l.loads ≡ up_to (arrays l.first l.count l.items l.devices) l.types l.ty
