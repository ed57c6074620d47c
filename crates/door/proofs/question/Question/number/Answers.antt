-- `door::question::Question::number` meets its contract: each question's number is the one written beside it. Assumes nothing.
use Rattle.std.proofs.Common.{◌≡◌, refl, ◌+◌}
use denote.Enum.Declared.{tag_of}
use Rattle.door.specs.declared.question.Question.{Question}
use Rattle.door.specs.declared.question.Question.TheVariants.{Sized, Formed, Ordered, Counted, Ranged, Rising, Present, Once, Falling, Narrow, InBlocks, Slim, Light, Whole, GroupBelow, Room, Independent, Fits, Fresh, RoomForMoves, Typed, Filled, Summed, Named, RoomForName}
use Rattle.door.specs.contracts.question.Question.{the_type}
use Rattle.door.specs.Question.{number_of}
use Rattle.door.proofs.question.Question.number.Goals as goal

number-tag : (q : Question) → tag_of the_type q + 1 ≡ number_of q
number-tag Sized = refl
number-tag Formed = refl
number-tag Ordered = refl
number-tag Counted = refl
number-tag Ranged = refl
number-tag Rising = refl
number-tag Present = refl
number-tag Once = refl
number-tag Falling = refl
number-tag Narrow = refl
number-tag InBlocks = refl
number-tag Slim = refl
number-tag Light = refl
number-tag Whole = refl
number-tag GroupBelow = refl
number-tag Room = refl
number-tag Independent = refl
number-tag Fits = refl
number-tag Fresh = refl
number-tag RoomForMoves = refl
number-tag Typed = refl
number-tag Filled = refl
number-tag Summed = refl
number-tag Named = refl
number-tag RoomForName = refl

pub returns : goal.returns
returns c = number-tag c.args.self
