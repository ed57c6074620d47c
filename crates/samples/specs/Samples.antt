-- Document 01, "Samples": the starred samples, shown of the definitions as one table under one theorem.
use Rattle.std.specs.Prelude.{◌≡◌, refl, Bool, cond, List, [], ◌∷◌, ◌++◌, map, ℕ, ◌^◌, take, Some}
use Rattle.definitions.specs.declared.Mix.{Mix}
use Rattle.definitions.specs.declared.Change.TheVariants.{Acceptance, Weight}
use Rattle.definitions.specs.Hash.{rows, three, mix_steps}
use Rattle.definitions.specs.Straw.{L, cost, key}
use Rattle.definitions.specs.Frames.{hex}
use Rattle.definitions.specs.Map.{map_of}
use Rattle.definitions.specs.Writing.{map_text}
use Rattle.definitions.specs.Load.{load_number}
use Rattle.definitions.specs.Walk.{accepts}
use Rattle.definitions.specs.Edit.{put}
use Rattle.definitions.specs.Calls.{PlaceAnswer, place_of}
use Rattle.definitions.specs.Open.{computing}

-- a line of digits, as one number with its count of digits
abbrev pub line : ℕ → ℕ → List ℕ
line w n = hex w n ++ (10 ∷ [])

-- map M
abbrev pub M : List ℕ
M =
    line 10 0x0000000002
    ++ line 22 0x0100000000000100010000
    ++ line 18 0x020000010100000001
    ++ line 14 0x03000000000000
    ++ line 12 0x040100000000
    ++ line 12 0x040302000000
    ++ line 12 0x040400000000
    ++ line 6 0x050007

-- M with a bucket of type 2, and a block of two selects with these counts
abbrev pub two_selects : ℕ → ℕ → List ℕ
two_selects m n =
    line 10 0x0000000002
    ++ line 22 0x0100000000000100010000
    ++ line 18 0x020000020100000001
    ++ line 14 0x03000000000000
    ++ line 12 0x040100000000
    ++ (hex 4 0x0403 ++ hex 2 m ++ line 6 0x010000)
    ++ (hex 4 0x0403 ++ hex 2 n ++ line 6 0x000000)
    ++ line 12 0x040400000000
    ++ line 6 0x050008

-- the answer to placing group 0 in a row of two: number, places, tries, and the row
abbrev pub answered : PlaceAnswer → List ℕ
answered a = a.number ∷ a.places ∷ a.tries ∷ a.row

abbrev pub place0 : List ℕ → List ℕ
place0 frames = answered (place_of frames 0 (7 ∷ 7 ∷ []))

abbrev pub bit : Bool → ℕ
bit b = cond b 1 0

abbrev pub three_of : Mix → List ℕ
three_of m = m.a ∷ m.b ∷ m.c ∷ []

-- a sample: what the definitions give, and what the document says
pub record Sample : Type 0 where
  pub given : List ℕ
  pub stated : List ℕ

abbrev pub is : List ℕ → List ℕ → Sample
is g s = record { given = g; stated = s }

abbrev pub samples : List Sample
samples =
    -- "M, group 0: 0000, ffff; tries 51."
    is (place0 M) (0 ∷ 2 ∷ 51 ∷ 0x0000 ∷ 0xffff ∷ [])
    -- "Acceptance 0 or weight 0: two holes, tries 100."
    ∷ is (place0 (map_text (put (map_of M) (Some (Acceptance 0 0))))) (0 ∷ 2 ∷ 100 ∷ 0xffff ∷ 0xffff ∷ [])
    ∷ is (place0 (map_text (put (map_of M) (Some (Weight 0 0))))) (0 ∷ 2 ∷ 100 ∷ 0xffff ∷ 0xffff ∷ [])
    -- "L(1) = 0, L(2) = 1048576, L(3) = 1661953, L(2^32) = 33554432."
    ∷ is (map L (1 ∷ 2 ∷ 3 ∷ 2 ^ 32 ∷ [])) (0 ∷ 1048576 ∷ 1661953 ∷ 33554432 ∷ [])
    -- "Cost 33554432, weight 1: key 2^55."
    ∷ is (cost 1 ∷ key 33554432 1 ∷ []) (33554432 ∷ 2 ^ 55 ∷ [])
    -- "(0, 0, 1) after three steps of mix: 0xffffffff, 0xffffff00, 0x0007fefd."
    ∷ is (three_of (mix_steps (take 3 rows) (three 0 0 1))) (0xffffffff ∷ 0xffffff00 ∷ 0x0007fefd ∷ [])
    -- "Hash end 65,535: acceptance 65,535 fails, 65,536 passes."
    ∷ is (bit (accepts 0x1234ffff 65535) ∷ bit (accepts 0x1234ffff 65536) ∷ []) (0 ∷ 1 ∷ [])
    -- "Counts 4 and 4 in a block are taken; 4 and 5 give 12."
    ∷ is (load_number (two_selects 4 4) ∷ load_number (two_selects 4 5) ∷ []) (0 ∷ 12 ∷ [])
    ∷ []

pub samples-hold : map (λ (s : Sample). s.given) samples ≡ map (λ (s : Sample). s.stated) samples
unfolding computing
samples-hold = refl
