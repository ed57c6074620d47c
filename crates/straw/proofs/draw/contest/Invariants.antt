use Rattle.std.specs.Prelude.{Some}
use Prim.Native.Nat.{ℕ}
use Rattle.straw.specs.Guard.{Hashed, Ahead}
use Rattle.straw.proofs.draw.contest.Given as goal

abbrev pub invariant-loop-i : goal.invariant-loop-i
invariant-loop-i l =
    (seed x r : ℕ) → Hashed seed x r l.items l.hashes → Ahead seed x r l.items l.weights l.g l.i (Some (l.item, l.least))
