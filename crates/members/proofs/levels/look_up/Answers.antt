-- `members::levels::look_up` meets its contract: the slot is the item's. Assumes nothing.
use mathlib.Core.Path.{ap}
use Prim.Native.Nat.{ℕ}
use lib.ListN.{get_or}
use Rattle.members.proofs.levels.look_up.Goals as goal

pub slot-requires : goal.slot-requires
slot-requires c = c.requires.1

pub returns : goal.returns
returns c = ap (λ (i : ℕ). get_or c.args.table.now i 0) c.slot.ensures.0
