use mathlib.Core.Path.{◌≡◌}
use Prim.Native.Nat.{◌-◌, ◌^◌, ◌<◌}
use Rattle.definitions.specs.Straw.{digits, mantissa}
use Rattle.straw.proofs.logarithm.log.Given as goal

abbrev pub invariant-loop-i : goal.invariant-loop-i
invariant-loop-i l = (l.s.m < 2 ^ 32) × (l.s.d < 2 ^ l.i) × (digits (20 - l.i) l.s ≡ digits 20 (mantissa l.u))
