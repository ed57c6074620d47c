use Prim.Native.Nat.{ℕ, ◌+◌}
use lib.ListN.{get_or}
use Rattle.straw.specs.Hashes.{Filled}
use Rattle.straw.proofs.draw.eight_at.Given as goal

abbrev pub invariant-loop-j : goal.invariant-loop-j
invariant-loop-j l = Filled (λ (n : ℕ). get_or l.items (l.i + n) 0) 8 l.j l.eight
