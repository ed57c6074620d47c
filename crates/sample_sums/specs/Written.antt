-- Document 02, "Cabinet weights on paper", on a map of four levels: question 23, and what an edit writes.
use Rattle.std.specs.Prelude.{◌≡◌, refl, List, [], ◌∷◌, ◌++◌, ℕ, Some}
use Rattle.definitions.specs.declared.Change.TheVariants.{Acceptance, Weight}
use Rattle.definitions.specs.Frames.{hex}
use Rattle.definitions.specs.Map.{map_of}
use Rattle.definitions.specs.Writing.{map_text}
use Rattle.definitions.specs.Load.{load_number}
use Rattle.definitions.specs.Edit.{put}
use Rattle.definitions.specs.Open.{computing}
use Rattle.samples.specs.Samples.{line}

-- site 0 has room 1 and drive 2, the room cabinet 2 with drives 0 and 1; cabinet 3 with drive 3 is nobody's. Given are the weights that are
-- written, the line of drive 0, and how many drives the rule asks for
-- in each of four rooms
abbrev pub map_with : List ℕ → ℕ → ℕ → ℕ → ℕ → ℕ → List ℕ
map_with drive-0 site room cabinet other count =
    line 10 0x0000000001
    ++ drive-0
    ++ line 22 0x0100010000000300010000
    ++ line 22 0x0100020000000700010000
    ++ line 22 0x0100030000000400010000
    ++ (hex 10 0x0200000301 ++ line 8 site)
    ++ (hex 10 0x0200010202 ++ line 8 room)
    ++ (hex 10 0x0200020101 ++ line 8 cabinet)
    ++ (hex 10 0x0200030101 ++ line 8 other)
    ++ line 14 0x03000000000002
    ++ line 14 0x03000000010001
    ++ line 14 0x03000100010002
    ++ line 14 0x03000200000000
    ++ line 14 0x03000200000001
    ++ line 14 0x03000300000003
    ++ line 12 0x040100000000
    ++ line 12 0x040304020000
    ++ (hex 4 0x0403 ++ hex 2 count ++ line 6 0x000000)
    ++ line 12 0x040400000000
    ++ line 6 0x050013

-- drive 0 weighs 5
abbrev pub asked : ℕ → ℕ → ℕ → ℕ → ℕ → ℕ
asked site room cabinet other count = load_number (map_with (line 22 0x0100000000000500010000) site room cabinet other count)

-- the sums; each weight but one of them; one that all above it add up; one that no sum can have, and what comes of it modulo 2^32; no drive
-- added; and 23 beside 12
pub asked-23 :
    asked 15 8 8 4 4
    ∷ asked 16 8 8 4 4
    ∷ asked 15 9 8 4 4
    ∷ asked 15 8 7 4 4
    ∷ asked 15 8 8 5 4
    ∷ asked 14 7 7 4 4
    ∷ asked 6 0xffffffff 0xffffffff 4 4
    ∷ asked 0 0 0 0 4
    ∷ asked 16 8 8 4 5
    ∷ []
    ≡ 0 ∷ 23 ∷ 23 ∷ 23 ∷ 23 ∷ 23 ∷ 23 ∷ 23 ∷ 12 ∷ []
unfolding computing
asked-23 = refl

-- the map with the sums
abbrev pub N : List ℕ
N = map_with (line 22 0x0100000000000500010000) 15 8 8 4 4

-- drive 0 at weight 9: the cabinet, the room and the site above it are brought up to date, and nothing else is
pub weight-written : map_text (put (map_of N) (Some (Weight 0 9))) ≡ map_with (line 22 0x0100000000000900010000) 19 12 12 4 4
unfolding computing
weight-written = refl

-- drive 0 at acceptance 0
pub acceptance-written : map_text (put (map_of N) (Some (Acceptance 0 0))) ≡ map_with (line 22 0x0100000000000500000000) 15 8 8 4 4
unfolding computing
acceptance-written = refl
