-- The numbers of the questions. Assumes nothing.
use Rattle.std.specs.Prelude.{◌≤◌, ℕ}
use Rattle.std.proofs.Common.{arith}
use Rattle.door.specs.declared.question.Question.{Question}
use Rattle.door.specs.declared.question.Question.TheVariants.{Sized, Formed, Ordered, Counted, Ranged, Rising, Present, Once, Falling, Narrow, InBlocks, Slim, Light, Whole, GroupBelow, Room, Independent, Fits, Fresh, RoomForMoves, Typed, Filled, Summed, Named, RoomForName}

abbrev pub number_of : Question → ℕ
number_of Sized = 1
number_of Formed = 2
number_of Ordered = 3
number_of Counted = 4
number_of Ranged = 5
number_of Rising = 6
number_of Present = 7
number_of Once = 8
number_of Falling = 9
number_of Narrow = 10
number_of InBlocks = 11
number_of Slim = 12
number_of Light = 13
number_of Whole = 14
number_of GroupBelow = 15
number_of Room = 16
number_of Independent = 17
number_of Fits = 18
number_of Fresh = 19
number_of RoomForMoves = 20
number_of Typed = 21
number_of Filled = 22
number_of Summed = 23
number_of Named = 24
number_of RoomForName = 25

-- none is 0, which is that of a call that was done
pub number-some : (q : Question) → 1 ≤ number_of q
number-some Sized = omega arith
number-some Formed = omega arith
number-some Ordered = omega arith
number-some Counted = omega arith
number-some Ranged = omega arith
number-some Rising = omega arith
number-some Present = omega arith
number-some Once = omega arith
number-some Falling = omega arith
number-some Narrow = omega arith
number-some InBlocks = omega arith
number-some Slim = omega arith
number-some Light = omega arith
number-some Whole = omega arith
number-some GroupBelow = omega arith
number-some Room = omega arith
number-some Independent = omega arith
number-some Fits = omega arith
number-some Fresh = omega arith
number-some RoomForMoves = omega arith
number-some Typed = omega arith
number-some Filled = omega arith
number-some Summed = omega arith
number-some Named = omega arith
number-some RoomForName = omega arith
