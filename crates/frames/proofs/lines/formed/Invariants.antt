use mathlib.Core.Path.{◌≡◌}
use Prim.Native.Nat.{◌-◌, ◌≤◌}
use lib.ListN.{length, drop}
use Rattle.definitions.specs.Lists.{every}
use Rattle.definitions.specs.Frames.{lines_of}
use Rattle.definitions.specs.Load.{line_formed}
use Rattle.frames.proofs.lines.formed.Given as goal

abbrev pub invariant-loop-at : goal.invariant-loop-at
invariant-loop-at l = (l.at ≤ length l.t) × (every line_formed (lines_of (drop l.at l.t)) ≡ every line_formed (lines_of l.t))

abbrev pub decreases-loop-at : goal.decreases-loop-at
decreases-loop-at l = length l.t - l.at
