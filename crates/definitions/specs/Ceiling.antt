-- Document 02, change 7, "How much will a dead drive move?": "Site staff want a ceiling before they lower a drive's acceptance."
use Rattle.std.specs.Prelude.{Bool, List, ℕ, ◌*◌, length}
use Rattle.definitions.specs.Lists.{kept, has}
use Rattle.definitions.specs.Map.{Map}
use Rattle.definitions.specs.Rule.{Placed, width_of}
use Rattle.definitions.specs.Table.{runs_of, row_in}

-- "groups whose list held that drive": the list of a group that was placed holds device d
unfoldable pub holds : ℕ → Placed → Bool
holds d p = has d (row_in p)

-- "the number of those groups", here called holders: each counts once
unfoldable pub holders_in : ℕ → List Placed → ℕ
holders_in d runs = length (kept (holds d) runs)

unfoldable pub holders : Map → ℕ → ℕ
holders m d = holders_in d (runs_of m)

-- "Moves are then at most W times the number of those groups."
unfoldable pub ceiling : Map → ℕ → ℕ
ceiling m d = width_of m * holders m d
