-- The r' of a draw, a test, a turn and a rank, as the definitions have them, of a search.
use Rattle.std.specs.Prelude.{◌≡◌, List, ℕ, ◌<◌, ◌≤◌}
use Rattle.definitions.specs.declared.Mode.{Mode}
use Rattle.definitions.specs.declared.Mode.TheVariants.{FirstN, Independent, Through}
use Rattle.definitions.specs.declared.State.{State}
use Rattle.definitions.specs.Map.{bucket_number}
use Rattle.definitions.specs.View.{View}
use Rattle.definitions.specs.Load.{reaches}
use Rattle.definitions.specs.Walk.{Trial, TurnEvents, RankEvents, try_number, turn_of, test_of, rank_of}
use Rattle.walk.specs.declared.Search.{Search}

-- a select through has a type above 0, so that what it draws is a bucket
abbrev pub Inward : Mode → ℕ → Type 0
Inward mode t = mode ≡ Through → 0 < t

-- 1 where a rank has inner walks
abbrev pub inward : Mode → ℕ
inward FirstN = 0
inward Independent = 0
inward Through = 1

-- a search within the map; a select has r at most 16, and up to 1,000, the r of an inner walk, no r' wraps
-- A clause, and no part of the type: `inner` makes a search of any r, as its contract has it.
abbrev pub SearchBounds : Search → Type 0
SearchBounds k =
    (k.start < 256) × (k.wanted.n ≤ 16) × (k.r ≤ 1000) × (k.wanted.mode ≡ Through → k.r ≤ 16) × Inward k.wanted.mode k.wanted.t

-- the inner walk beneath item i, which r' = q drew
abbrev pub inner_search : ℕ → ℕ → ℕ → Search
inner_search n q i = record { wanted = record { mode = Independent; n = n; t = 0 }; start = bucket_number i; r = q }

-- the type of what a search puts out
abbrev pub reached_by : Search → ℕ
reached_by k = reaches k.wanted.mode k.wanted.t

abbrev pub try_at : Search → State → ℕ
try_at k s = try_number k.wanted.mode k.wanted.n k.r s

abbrev pub test_at : View → ℕ → Search → List ℕ → ℕ → ℕ → Trial
test_at v x k held = test_of k.wanted.mode v x k.wanted.n held

abbrev pub turn_at : View → ℕ → Search → List ℕ → State → TurnEvents
turn_at v x k held s = turn_of v x k.wanted.mode k.wanted.n k.wanted.t (test_at v x k held) k.start k.r s

abbrev pub rank_at : View → ℕ → Search → List ℕ → ℕ → RankEvents
rank_at v x k held f₀ = rank_of v x k.wanted.mode k.wanted.n k.wanted.t held k.start k.r f₀
