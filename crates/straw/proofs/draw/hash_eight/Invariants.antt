use mathlib.Core.Path.{◌≡◌}
use Prim.Native.Nat.{ℕ}
use lib.ListN.{length, get_or}
use Rattle.definitions.specs.Hash.{hash3}
use Rattle.straw.specs.Hashes.{Halves}
use Rattle.straw.proofs.draw.hash_eight.Given as goal

abbrev pub invariant-loop-i : goal.invariant-loop-i
invariant-loop-i l =
    (length l.hashes ≡ length l.initial.hashes) × Halves (λ (n : ℕ). hash3 l.seed l.x (get_or l.eight n 0) l.r) l.i l.hashes
