use mathlib.Core.Path.{◌≡◌}
use Prim.Native.Nat.{◌+◌, ◌-◌, ◌<◌, ◌≤◌}
use lib.ListN.{length, drop}
use Rattle.text.specs.Lines.{first}
use Rattle.frames.proofs.lines.line_end.Given as goal

abbrev pub invariant-loop-e : goal.invariant-loop-e
invariant-loop-e l = (l.at ≤ l.e) × (l.e < length l.t) × (length (first (drop l.at l.t)) ≡ (l.e - l.at) + length (first (drop l.e l.t)))

abbrev pub decreases-loop-e : goal.decreases-loop-e
decreases-loop-e l = length l.t - l.e
