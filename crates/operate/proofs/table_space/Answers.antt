-- The table has as many places as its type says: the list itself is too long to be computed, so the lemma is given all that it takes.
use Rattle.std.proofs.Common.{ℕ, sym}
use Rattle.std.proofs.lemmas.List.{length-replicate}
use Rattle.operate.proofs.table_space.Goals as goal

pub returns : goal.returns
returns c = sym (length-replicate {0} {A = ℕ} 2097152 0)
