-- What comes back of each call as one record: the numbers and counts that it answers, and the contents at exit of all that it was lent to
-- write.
use Rattle.std.specs.Prelude.{List, ℕ}
use Rattle.definitions.specs.Calls.{SizesAnswer, LoadAnswer, PlaceAnswer, FillAnswer, EditAnswer, StoreAnswer, CeilingAnswer, WriteAnswer, DayAnswer}
use Rattle.engine.specs.declared.load.Sizes.{Sizes}
use Rattle.engine.specs.declared.place.Placing.{Placing}
use Rattle.engine.specs.declared.fill.Filled.{Filled}
use Rattle.engine.specs.declared.edit.Edited.{Edited}
use Rattle.engine.specs.declared.limit.Limit.{Limit}
use Rattle.engine.specs.declared.write.Written.{Written}
use Rattle.engine.specs.declared.day.Day.{Day}

abbrev pub sizes_answer : Sizes → SizesAnswer
sizes_answer r = record { number = r.number; groups = r.groups; places = r.places }

abbrev pub load_answer : Sizes → List ℕ → LoadAnswer
load_answer r states = record { number = r.number; groups = r.groups; places = r.places; states = states }

abbrev pub write_answer : Written → List ℕ → WriteAnswer
write_answer r space = record { number = r.number; bytes = r.bytes; space = space }

abbrev pub day_answer : Day → DayAnswer
day_answer r = record { number = r.number; group = r.group }

abbrev pub place_answer : Placing → List ℕ → PlaceAnswer
place_answer r row = record { number = r.number; places = r.places; tries = r.tries; row = row }

abbrev pub fill_answer : Filled → List ℕ → FillAnswer
fill_answer r table = record { number = r.number; places = r.places; table = table }

abbrev pub edit_answer : Edited → List ℕ → List ℕ → List ℕ → EditAnswer
edit_answer r frames table space = record { number = r.number; moves = r.moves; frames = frames; table = table; space = space }

abbrev pub store_answer : ℕ → List ℕ → StoreAnswer
store_answer n states = record { number = n; states = states }

abbrev pub ceiling_answer : Limit → CeilingAnswer
ceiling_answer r = record { number = r.number; groups = r.groups; moves = r.moves }
