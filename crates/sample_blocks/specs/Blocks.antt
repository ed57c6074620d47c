-- Document 02, "One drive, one place", on a rule of three blocks over common drives, with selects through over nested cabinets: a group of which
-- every other reading of the change gives another list.
use Rattle.std.specs.Prelude.{◌≡◌, refl, List, [], ◌∷◌, ◌++◌, ℕ, replicate}
use Rattle.definitions.specs.Calls.{place_of}
use Rattle.definitions.specs.Open.{computing}
use Rattle.samples.specs.Samples.{line, answered}

-- cabinet 1 has two shelves of two drives, cabinet 2 one shelf of two; a drive, a drive through one cabinet, and a drive through each of two
abbrev pub B : List ℕ
B =
    line 10 0x0000000008
    ++ line 22 0x0100000000000100010000
    ++ line 22 0x0100010000000600010000
    ++ line 22 0x0100020000000700010000
    ++ line 22 0x0100030000000100010000
    ++ line 22 0x0100040000000900010000
    ++ line 22 0x0100050000000700010000
    ++ line 18 0x02000003010000001f
    ++ line 18 0x02000102010000000f
    ++ line 18 0x020002020100000010
    ++ line 18 0x020003010100000007
    ++ line 18 0x020004010100000008
    ++ line 18 0x020005010100000010
    ++ line 14 0x03000000010001
    ++ line 14 0x03000000010002
    ++ line 14 0x03000100010003
    ++ line 14 0x03000100010004
    ++ line 14 0x03000200010005
    ++ line 14 0x03000300000000
    ++ line 14 0x03000300000001
    ++ line 14 0x03000400000002
    ++ line 14 0x03000400000003
    ++ line 14 0x03000500000004
    ++ line 14 0x03000500000005
    ++ line 12 0x040100000000
    ++ line 12 0x040301000000
    ++ line 12 0x040400000000
    ++ line 12 0x040100000000
    ++ line 12 0x040501020000
    ++ line 12 0x040400000000
    ++ line 12 0x040100000000
    ++ line 12 0x040502020000
    ++ line 12 0x040400000000
    ++ line 6 0x050021

-- group 3: number, places, tries, and the list 3, 2, 1, 4. The third block takes cabinet 1 again; beneath it drive 3 of the first block and twice
-- drive 2 of the second are held, on one shelf. With three inner failures the walk begins anew at the cabinet, and finds drive 1 on the other
pub B-placed : answered (place_of B 3 (replicate 4 7)) ≡ 0 ∷ 4 ∷ 11 ∷ 3 ∷ 2 ∷ 1 ∷ 4 ∷ []
unfolding computing
B-placed = refl
