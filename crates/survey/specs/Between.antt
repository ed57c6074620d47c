-- The two maps of an edit beside the plan, the values and the rule that the code runs by: what the code finds is what the definitions say
-- of them. Assumes nothing.
use Rattle.std.specs.Prelude.{◌≡◌, true, false, Option, None, Some, take}
use Rattle.std.proofs.Math.Path.{refl, sym, ap, ap₂}
use Rattle.std.proofs.Common.{◌∙◌, arith}
use mathlib.Core.List.{List, ◌++◌}
use Prim.Native.Nat.{ℕ, zero, suc, ◌*◌, ◌≤◌}
use Rattle.std.proofs.Math.ListN.{length}
use Rattle.definitions.specs.declared.Action.{Action}
use Rattle.definitions.specs.Lists.{every, same, joined}
use Rattle.definitions.specs.Map.{Map, actions_of}
use Rattle.definitions.specs.View.{View, view_of}
use Rattle.definitions.specs.Select.{Place, entries_of}
use Rattle.definitions.specs.Rule.{run_to, width_of, padded, placed_by, placed_of}
use Rattle.definitions.specs.Table.{runs_to, runs_of, row_in, table_in, table_of}
use Rattle.definitions.specs.Edit.{row_moves, moves_to, moves_in, moves_of}
use Rattle.definitions.specs.Calls.{not_first_n, independent, fresh}
use Rattle.laws.specs.Lists.{is_same}
use Rattle.laws.specs.Loadable.{Loadable, ranged-is}
use Rattle.hierarchy.specs.declared.Rule.{Rule}
use Rattle.hierarchy.specs.Arrays.{view_in, actions_in}
use Rattle.tracing.specs.Runs as runs
use Rattle.tracing.specs.Listed.{table_more, placed-list, placed-width}
use Rattle.tracing.specs.Moves.{runs-count, runs-at}
use Rattle.survey.specs.declared.surveys.Findings.{Findings}
use Rattle.survey.specs.Places.{list_at, places_at}
use Rattle.survey.specs.Surveyed.{rows_to, moves_by, Surveyed}

-- m and m' are the maps of the plan with these values, of this rule, k groups and width w, to which an edit's first questions were
-- answered yes
pub record Between (plan old new : List ℕ) (rule : Rule) (k w : ℕ) (m m' : Map) : Type 0 where
  pub view : view_of m ≡ view_in plan old
  pub view' : view_of m' ≡ view_in plan new
  pub actions : actions_of m ≡ actions_in rule
  pub actions' : actions_of m' ≡ actions_in rule
  pub steps : length (actions_in rule) ≡ rule.len
  pub groups : m.groups ≡ k
  pub groups' : m'.groups ≡ k
  pub width : width_of m ≡ w
  pub width' : width_of m' ≡ w
  pub loadable : Loadable m
  pub loadable' : Loadable m'
  pub only : independent m ≡ true
  pub only' : independent m' ≡ true

-- ---- one map

-- f gives the places of every group of m
abbrev pub Gives : Map → (ℕ → List Place) → Type 0
Gives m f = (x : ℕ) → f x ≡ (placed_of m x).places

-- by equal views and actions, as many as there are, the lists are the same
runs-alike : (v v' : View) (l l' : List Action) (n x : ℕ) → v ≡ v' → l ≡ l' → length l' ≡ n → (run_to v' x l' n).list ≡ (run_to v x l (length l)).list
runs-alike v v' l l' n x a b c = rw (← a, ← c, ← b) refl

module _ (m : Map) (plan values : List ℕ) (rule : Rule) (w : ℕ) (a : view_of m ≡ view_in plan values) (b : actions_of m ≡ actions_in rule)
    (c : length (actions_in rule) ≡ rule.len) (d : width_of m ≡ w) where
  places-placed : Gives m (places_at plan values rule w)
  unfolding places_at placed_of placed_by
  places-placed x = ap₂ padded (sym d) (runs-alike _ _ _ _ _ x a b c)

  list-long : Loadable m → independent m ≡ true → (x : ℕ) → length (list_at plan values rule x) ≡ w
  unfolding runs.list_at
  list-long L i x = ap length (runs-alike _ _ _ _ _ x a b c ∙ sym (placed-list m x L i)) ∙ placed-width m x L i ∙ d

module _ (m : Map) (f : ℕ → List Place) (is : Gives m f) where
  rows-table : (n : ℕ) → rows_to f n ≡ table_in (runs_to m n)
  unfolding rows_to runs_to row_in table_in joined
  rows-table zero = refl
  rows-table (suc n) = ap₂ (λ (a : List ℕ) (b : List Place). a ++ entries_of b) (rows-table n) (is n) ∙ sym (table_more (runs_to m n) (placed_of m n))

-- the moves of the first groups
moves-to : (m m' : Map) (f f' : ℕ → List Place) → Gives m f → Gives m' f' → (w k n : ℕ) → n ≤ k
    → moves_by w f f' n ≡ moves_to w (runs_to m k) (runs_to m' k) n
unfolding moves_by moves_to row_moves
moves-to m m' f f' a b w k zero h = refl
moves-to m m' f f' a b w k (suc n) h =
    rw (moves-to m m' f f' a b w k n (omega arith), runs-at m k n (omega arith), runs-at m' k n (omega arith), a n, b n) refl

-- ---- both maps

module _ {plan old new : List ℕ} {rule : Rule} {groups w : ℕ} (m m' : Map) (B : Between plan old new rule groups w m m') where
  pub gives : Gives m (places_at plan old rule w)
  gives = places-placed m plan old rule w B.view B.actions B.steps B.width

  pub gives' : Gives m' (places_at plan new rule w)
  gives' = places-placed m' plan new rule w B.view' B.actions' B.steps B.width'

  -- the rows are the tables
  pub old-table : rows_to (places_at plan old rule w) groups ≡ table_of m
  unfolding table_of runs_of
  old-table = rows-table m (places_at plan old rule w) gives groups ∙ ap (λ (k : ℕ). table_in (runs_to m k)) (sym B.groups)

  pub new-table : rows_to (places_at plan new rule w) groups ≡ table_of m'
  unfolding table_of runs_of
  new-table = rows-table m' (places_at plan new rule w) gives' groups ∙ ap (λ (k : ℕ). table_in (runs_to m' k)) (sym B.groups')

  -- and the moves are the moves
  pub moves-are : moves_by w (places_at plan old rule w) (places_at plan new rule w) groups ≡ moves_of m m'
  unfolding moves_of moves_in runs_of
  moves-are =
      moves-to m m' (places_at plan old rule w) (places_at plan new rule w) gives gives' w groups groups (omega arith)
      ∙ ap (moves_to w (runs_to m groups) (runs_to m' groups)) (sym (runs-count m groups))
      ∙ ap₂ (λ (i j : ℕ). moves_to w (runs_to m i) (runs_to m' j) (length (runs_to m i))) (sym B.groups) (sym B.groups')
      ∙ ap (λ (k : ℕ). moves_to k (runs_to m m.groups) (runs_to m' m'.groups) (length (runs_to m m.groups))) (sym B.width)

  -- every list is w long
  pub old-long : (x : ℕ) → length (list_at plan old rule x) ≡ w
  old-long = list-long m plan old rule w B.view B.actions B.steps B.width B.loadable B.only

  pub new-long : (x : ℕ) → length (list_at plan new rule x) ≡ w
  new-long = list-long m' plan new rule w B.view' B.actions' B.steps B.width' B.loadable' B.only'

  -- a table whose rows are those of the old run is what fill gives
  pub fresh-is : (table : List ℕ) → same (take (groups * w) table) (rows_to (places_at plan old rule w) groups) ≡ fresh m (runs_of m) table
  unfolding fresh table_of
  fresh-is table = ap₂ (λ (k : ℕ) (t : List ℕ). same (take k table) t) (ap₂ (λ (a b : ℕ). a * b) (sym B.groups) (sym B.width)) old-table

  -- what the code asks of the rule and the groups
  pub few : groups ≤ 65536
  few = omega (arith, (ranged-is m B.loadable.ranged).most, B.groups)

  pub selects : every not_first_n (actions_in rule) ≡ true
  unfolding independent
  selects = rw (← B.actions) B.only

-- what a survey answers of the two maps: whether the table is what fill gives, and then how many places move
abbrev pub Answers : Map → Map → List ℕ → Option Findings → Type 0
Answers m m' table None = fresh m (runs_of m) table ≡ false
Answers m m' table (Some s) = (fresh m (runs_of m) table ≡ true) × (s.moves ≡ length (moves_of m m'))

pub answers : {plan old new : List ℕ} {rule : Rule} {groups w : ℕ} (table : List ℕ) (s : Option Findings)
    → Surveyed w (places_at plan old rule w) (places_at plan new rule w) groups table s → (m m' : Map) → Between plan old new rule groups w m m'
    → Answers m m' table s
answers table None f m m' B = sym (fresh-is m m' B table) ∙ f
answers table (Some s) f m m' B = (sym (fresh-is m m' B table) ∙ is_same _ _ f.rows, f.moves ∙ ap length (moves-are m m' B))
