-- `descent::same_part` meets its contract: the parts that are compared are the children's. Assumes nothing.
use native.Mathlib.Nat.{add-sub_cancel_left}
use Rattle.descent.proofs.same_part.Goals as goal

pub returns : goal.returns
returns c = rw add-sub_cancel_left at c.same_words.ensures
