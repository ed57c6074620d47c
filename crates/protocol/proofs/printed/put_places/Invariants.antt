use Rattle.std.proofs.Common.{◌≡◌, ◌*◌, length, take}
use mathlib.Core.List.{map}
use Rattle.definitions.specs.Lists.{joined}
use Rattle.definitions.specs.Frames.{hex}
use Rattle.text.specs.Front.{Front}
use Rattle.protocol.proofs.printed.put_places.Given as goal

abbrev pub invariant-loop-i : goal.invariant-loop-i
invariant-loop-i l = (length l.out ≡ length l.initial.out) × Front l.initial.out l.out (joined (map (hex 4) (take l.i l.row))) (4 * l.i)
