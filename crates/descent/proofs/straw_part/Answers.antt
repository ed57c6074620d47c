-- `descent::straw_part` meets its contract: the parts that are lent to the draw are the children's. Assumes nothing.
use native.Mathlib.Nat.{add-sub_cancel_left}
use Rattle.descent.proofs.straw_part.Goals as goal

pub returns : goal.returns
returns c = rw add-sub_cancel_left at c.draw.ensures
