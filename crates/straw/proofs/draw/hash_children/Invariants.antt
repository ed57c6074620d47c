use mathlib.Core.List.{List}
use Prim.Native.Nat.{ℕ, ◌*◌}
use lib.ListN.{get_or}
use Rattle.definitions.specs.Hash.{hash3}
use Rattle.straw.specs.Hashes.{Filled}
use Rattle.straw.proofs.draw.hash_children.Given as goal

-- what the hashes are
abbrev pub hash_at : ℕ → ℕ → ℕ → List ℕ → ℕ → ℕ
hash_at seed x r items n = hash3 seed x (get_or items n 0) r

abbrev pub invariant-loop-k : goal.invariant-loop-k
invariant-loop-k l = Filled (hash_at l.seed l.x l.r l.items) 64 (l.k * 8) l.hashes
