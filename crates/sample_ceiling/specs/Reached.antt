-- Document 02, "How much will a dead drive move?", where the ceiling is reached: three drives, two places a group. One of the two groups has drive 0;
-- as it dies both places move, and as it comes back both again.
use Rattle.std.specs.Prelude.{◌≡◌, refl, List, [], ◌∷◌, ◌++◌, ℕ, replicate}
use Rattle.definitions.specs.Frames.{hex}
use Rattle.definitions.specs.Calls.{edit_of, ceiling_of}
use Rattle.definitions.specs.Open.{computing}
use Rattle.samples.specs.Samples.{line}

-- drives 0, 1 and 3 in a cabinet; an edit changes the line of drive 0
abbrev pub map_with : List ℕ → List ℕ
map_with drive-0 =
    line 10 0x0000000002
    ++ drive-0
    ++ line 22 0x0100010000000100010000
    ++ line 22 0x0100030000000100010000
    ++ line 18 0x020000010100000003
    ++ line 14 0x03000000000000
    ++ line 14 0x03000000000001
    ++ line 14 0x03000000000003
    ++ line 12 0x040100000000
    ++ line 12 0x040302000000
    ++ line 12 0x040400000000
    ++ line 6 0x05000b

-- drive 0 alive, and dead
abbrev pub alive : List ℕ
alive = map_with (line 22 0x0100000000000100010000)

abbrev pub dead : List ℕ
dead = map_with (line 22 0x0100000000000100000000)

abbrev pub alive-table : List ℕ
alive-table = 0x0003 ∷ 0x0001 ∷ 0x0000 ∷ 0x0001 ∷ []

abbrev pub dead-table : List ℕ
dead-table = 0x0003 ∷ 0x0001 ∷ 0x0001 ∷ 0x0003 ∷ []

-- "21000000000000": place 1 of group 1 loses drive 0, cause 01, and takes drive 1, which place 2 then has held, cause 03
abbrev pub dies : List ℕ
dies = hex 14 0x21000000000000

abbrev pub dying-moves : List ℕ
dying-moves = line 22 0x1300000001010000000101 ++ line 22 0x1300000001020001000303

-- "21000000010000": the way back
abbrev pub returns : List ℕ
returns = hex 14 0x21000000010000

abbrev pub returning-moves : List ℕ
returning-moves = line 22 0x1300000001010001000001 ++ line 22 0x1300000001020003000103

-- a space of two moves
abbrev pub space : List ℕ
space = replicate 46 7

-- two moves, and as many are the ceiling before the edit
pub died : edit_of alive alive-table dies space ≡ record { number = 0; moves = 2; frames = dead; table = dead-table; space = dying-moves }
unfolding computing
died = refl

pub ceiling-alive : ceiling_of alive alive-table 0 ≡ record { number = 0; groups = 1; moves = 2 }
unfolding computing
ceiling-alive = refl

-- after it no group has the drive: for a lowering that is no ceiling
pub ceiling-dead : ceiling_of dead dead-table 0 ≡ record { number = 0; groups = 0; moves = 0 }
unfolding computing
ceiling-dead = refl

-- raised again, two moves; their ceiling is that of the table afterwards
pub returned : edit_of dead dead-table returns space ≡ record { number = 0; moves = 2; frames = alive; table = alive-table; space = returning-moves }
unfolding computing
returned = refl

-- a table that is not the map's, and a drive that is not there
pub ceiling-refused : (ceiling_of alive dead-table 0).number ∷ (ceiling_of alive alive-table 2).number ∷ (ceiling_of alive (0 ∷ 0 ∷ 0 ∷ []) 2).number ∷ [] ≡ 19 ∷ 18 ∷ 16 ∷ []
unfolding computing
ceiling-refused = refl
