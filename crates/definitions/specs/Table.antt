-- Document 01, "Table, edits, moves": the table.
use Rattle.std.specs.Prelude.{List, [], ◌∷◌, ◌++◌, map, ℕ, zero, suc}
use Rattle.definitions.specs.Lists.{joined}
use Rattle.definitions.specs.Map.{Map}
use Rattle.definitions.specs.Select.{entries_of}
use Rattle.definitions.specs.Rule.{Placed, placed_of}

-- the groups below n, placed
unfoldable pub runs_to : Map → ℕ → List Placed
runs_to m zero = []
runs_to m (suc g) = runs_to m g ++ (placed_of m g ∷ [])

unfoldable pub runs_of : Map → List Placed
runs_of m = runs_to m m.groups

-- "Row g of the table holds the W places of group g"
unfoldable pub row_in : Placed → List ℕ
row_in p = entries_of p.places

unfoldable pub table_in : List Placed → List ℕ
table_in runs = joined (map row_in runs)

-- "A fresh fill is the table whose G rows are the lists defined above, under the map as it then stands."
unfoldable pub table_of : Map → List ℕ
table_of m = table_in (runs_of m)
