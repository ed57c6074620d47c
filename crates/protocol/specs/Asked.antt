-- The lines behind the map that are no edits.
use Rattle.std.specs.Prelude.{cond, ◌&&◌, List, [], ◌∷◌, ℕ, eqb, length, drop}
use Rattle.definitions.specs.Lists.{every, same}
use Rattle.definitions.specs.Frames.{is_digit, value}
use Rattle.protocol.specs.declared.asked.Program.{Program}
use Rattle.protocol.specs.declared.asked.Program.TheVariants.{Fill, Operate}
use Rattle.protocol.specs.declared.asked.Asked.{Asked}
use Rattle.protocol.specs.declared.asked.Asked.TheVariants.{Frames, Rows, Store, Return, Nothing}

-- what a line of this kind (35 or 36, in hexadecimal 23 or 24) with a name asks for: "`23` name (4 digits): store", "`24` name: return"
unfoldable pub named_by : ℕ → ℕ → Asked
named_by kind name = cond (eqb kind 35) (Store name) (cond (eqb kind 36) (Return name) Nothing)

-- six digits, a kind and a name: the name is "a 16-bit number" (document 02, change 8)
unfoldable pub named_of : List ℕ → Asked
named_of line = cond (eqb (length line) 6 && every is_digit line) (named_by (value 2 line) (value 4 (drop 2 line))) Nothing

-- what a line of no edit form asks for: of `operate` the line `2c` the map as frames, `2d` the table as rows, and the lines with a name
unfoldable pub asked_of : Program → List ℕ → Asked
asked_of Fill line = Nothing
asked_of Operate line = cond (same line (50 ∷ 99 ∷ [])) Frames (cond (same line (50 ∷ 100 ∷ [])) Rows (named_of line))
