use mathlib.Core.Path.{◌≡◌}
use mathlib.Core.Bool.{true, ◌&&◌}
use Prim.Native.Nat.{◌+◌, ◌-◌, ◌≤◌}
use lib.Dec.{leb}
use lib.ListN.{length, drop}
use Rattle.definitions.specs.Lists.{every, linked_from}
use Rattle.definitions.specs.Frames.{lines_of, frames_in}
use Rattle.definitions.specs.Load.{line_formed, kinds_of, sorted}
use Rattle.text.specs.Shape.{Small, shape_of, plus}
use Rattle.frames.proofs.shape.outline_of.Given as goal

abbrev pub invariant-loop-at : goal.invariant-loop-at
invariant-loop-at l =
    (l.at ≤ length l.t) × (every line_formed (lines_of (drop l.at l.t)) ≡ true) × Small l.s (l.at + 1) × (plus l.s (shape_of (frames_in (drop l.at l.t))) ≡ shape_of (frames_in l.t))
    × (l.sorted && linked_from leb l.last (kinds_of (frames_in (drop l.at l.t))) ≡ sorted (frames_in l.t))

abbrev pub decreases-loop-at : goal.decreases-loop-at
decreases-loop-at l = length l.t - l.at
