use mathlib.Core.Path.{◌≡◌}
use Prim.Native.Nat.{ℕ, ◌<◌}
use lib.ListN.{length, get_or}
use Rattle.weights.specs.Weights.{item_in}
use Rattle.weights.proofs.weights_of.Given as goal

abbrev pub invariant-loop-i : goal.invariant-loop-i
invariant-loop-i l =
    (length l.weights ≡ 1280) × ((j : ℕ) → j < l.i → get_or l.weights j 0 ≡ item_in l.devices l.loads (get_or l.items j 0))
