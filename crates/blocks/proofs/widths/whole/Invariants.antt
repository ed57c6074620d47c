use Rattle.std.proofs.Common.{◌≡◌, ◌*◌, ◌≤◌, drop}
use Rattle.definitions.specs.Map.{map_of, actions_of}
use Rattle.blocks.specs.Widths.{widened_by, start}
use Rattle.blocks.proofs.widths.whole.Given as goal

abbrev pub invariant-loop-k : goal.invariant-loop-k
invariant-loop-k l = (l.w.whole ≤ 33 * l.k) × (widened_by l.w (drop l.k (actions_of (map_of l.t))) ≡ widened_by start (actions_of (map_of l.t)))
