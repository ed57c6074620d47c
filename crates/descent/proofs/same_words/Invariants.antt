use Rattle.std.specs.Prelude.{◌≡◌, true, ℕ, ◌<◌, get_or}
use Rattle.descent.proofs.same_words.Given as goal

abbrev pub invariant-loop-i : goal.invariant-loop-i
invariant-loop-i l = l.same ≡ true → (j : ℕ) → j < l.i → get_or l.old j 0 ≡ get_or l.new j 0
