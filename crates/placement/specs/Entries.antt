-- The entries of a list. Assumes nothing.
use Rattle.std.specs.Prelude.{◌≡◌, refl, List, [], ◌∷◌, ℕ, zero, suc, ◌<◌, length, get_or}
use Rattle.std.proofs.Common.{arith}

-- an entry of a list, whatever stands for those past its end
pub same_at : (es : List ℕ) (i d e : ℕ) → i < length es → get_or es i d ≡ get_or es i e
same_at [] i d e h = absurd (omega arith)
same_at (x ∷ es) zero d e h = refl
same_at (x ∷ es) (suc i) d e h = same_at es i d e (omega arith)
