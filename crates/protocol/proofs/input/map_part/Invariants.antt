use Rattle.std.proofs.Common.{◌≡◌, ◌+◌, drop}
use Rattle.protocol.specs.Input.{spot_after, map_bytes}
use Rattle.protocol.proofs.input.map_part.Given as goal

abbrev pub invariant-loop-i : goal.invariant-loop-i
invariant-loop-i l = (map_bytes l.initial.s l.read ≡ l.i + map_bytes l.s (drop l.i l.read)) × (spot_after l.initial.s l.read ≡ spot_after l.s (drop l.i l.read))
