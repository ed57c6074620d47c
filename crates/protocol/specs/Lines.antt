-- Document 01, "Samples": the lines that program `fill` prints, and program `operate` too.
use Rattle.std.specs.Prelude.{List, [], ◌∷◌, ◌++◌, map, ℕ, zero, suc, take, drop}
use Rattle.definitions.specs.Lists.{joined}
use Rattle.definitions.specs.Frames.{hex}

-- "It prints a frame `11`, group (8) and W places (4 each), per group"
abbrev pub row_line : ℕ → List ℕ → List ℕ
row_line group row = hex 2 17 ++ (hex 8 group ++ (joined (map (hex 4) row) ++ (10 ∷ [])))

-- the rows of n groups from group g on, each of w places, which stand one behind the other
unfoldable pub row_lines : ℕ → ℕ → ℕ → List ℕ → List ℕ
row_lines zero g w places = []
row_lines (suc n) g w places = row_line g (take w places) ++ row_lines n (suc g) w (drop w places)

-- "`1f` and the refusal (2)"
abbrev pub refusal_line : ℕ → List ℕ
refusal_line number = hex 2 31 ++ (hex 2 number ++ (10 ∷ []))
