use Rattle.std.proofs.Common.{◌≡◌, ◌++◌, ◌*◌, length, take, drop}
use Rattle.definitions.specs.Writing.{two_bytes}
use Rattle.crush_place.proofs.put_bytes.Given as goal

abbrev pub invariant-loop-i : goal.invariant-loop-i
invariant-loop-i l = (length l.out ≡ length l.initial.out) × (l.out ≡ two_bytes (take l.i l.row) ++ drop (2 * l.i) l.initial.out)
