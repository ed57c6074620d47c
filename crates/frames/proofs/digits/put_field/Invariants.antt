use Rattle.std.proofs.Common.{◌≡◌, ◌++◌, length, drop}
use Rattle.definitions.specs.Frames.{hex}
use Rattle.frames.proofs.digits.put_field.Given as goal

abbrev pub invariant-loop-i : goal.invariant-loop-i
invariant-loop-i l = hex l.i l.w ++ drop l.i l.out ≡ hex (length l.initial.out) l.v
