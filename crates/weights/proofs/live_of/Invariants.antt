use mathlib.Core.Path.{◌≡◌}
use Prim.Native.Nat.{ℕ, ◌<◌}
use lib.ListN.{length, get_or}
use Rattle.weights.specs.Weights.{live_part}
use Rattle.weights.proofs.live_of.Given as goal

abbrev pub invariant-loop-d : goal.invariant-loop-d
invariant-loop-d l =
    (length l.weights ≡ 1024) × ((j : ℕ) → j < l.d → get_or l.weights j 0 ≡ live_part (get_or l.acceptance j 0) (get_or l.own j 0))
