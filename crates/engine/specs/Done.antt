-- What good calls of place and of fill answer, by the plan, the values and the rule that they compile. Assumes nothing.
use Rattle.std.specs.Prelude.{◌≡◌, List, ◌++◌, ℕ, ◌*◌, ◌<◌, ◌≤◌, length, drop}
use Rattle.std.proofs.Common.{sym, ap, ap₂, ◌∙◌, arith}
use Rattle.definitions.specs.Map.{Map, map_of, actions_of}
use Rattle.definitions.specs.View.{view_of}
use Rattle.definitions.specs.Select.{entries_of}
use Rattle.definitions.specs.Rule.{width_of, placed_of}
use Rattle.definitions.specs.Table.{runs_to, runs_of, table_in, table_of}
use Rattle.definitions.specs.Load.{load_number}
use Rattle.definitions.specs.Calls.{PlaceAnswer, place_of, FillAnswer, fill_of}
use Rattle.laws.specs.Loadable.{Loadable}
use Rattle.text.specs.Agreement.{loaded-map}
use Rattle.hierarchy.specs.declared.Rule.{Rule}
use Rattle.hierarchy.specs.Arrays.{view_in, actions_in}
use Rattle.placement.specs.Bare.{bare_run, list-bare}
use Rattle.placement.specs.Row.{length-filled}
use Rattle.placement.specs.Lengths.{run-most}
use Rattle.placement.specs.Loaded.{width_is}
use Rattle.table.specs.Rows.{rows_to, length-rows, rows-table}
use Rattle.loaded.specs.Compiled.{Compiled, compiled-width}
use Rattle.engine.specs.Calls.{place-0, fill-0}

-- a group's list is W entries long
pub list_length : (m : Map) → Loadable m → (x : ℕ) → length (entries_of (placed_of m x).places) ≡ width_of m
list_length m L x =
    let most : length (bare_run m x).list ≤ width_of m = omega (arith, (run-most (view_of m) x (actions_of m) (length (actions_of m))).1, (width_is m L).0) in
    ap (λ (l : List ℕ). length l) (list-bare m x) ∙ length-filled (width_of m) (bare_run m x).list most

-- what a good call of place answers
pub place-done : (f : List ℕ) (g : ℕ) (row part : List ℕ) (w n : ℕ) → load_number f ≡ 0 → g < (map_of f).groups → w ≡ width_of (map_of f) → w ≤ length row
    → part ≡ entries_of (placed_of (map_of f) g).places → n ≡ (placed_of (map_of f) g).tries
    → ◌≡◌ {A = PlaceAnswer} (record { number = 0; places = w; tries = n; row = part ++ drop w row }) (place_of f g row)
place-done f g row part w n e h p l q r =
    let es = entries_of (placed_of (map_of f) g).places in
    let k : w ≡ length es = p ∙ sym (list_length (map_of f) (loaded-map f e) g) in
    rw (q, r)
    (ap₂ (λ (a b : ℕ). record { number = 0; places = a; tries = (placed_of (map_of f) g).tries; row = es ++ drop b row }) p k ∙ sym (place-0 f g row e h (rw (← p) l)))

-- what a good call of fill answers
pub fill_done : (f table out plan values : List ℕ) (rule : Rule) (w g k : ℕ) → load_number f ≡ 0 → Compiled (map_of f) plan values rule → w ≡ width_of (map_of f)
    → g ≡ (map_of f).groups → k ≡ g * w → k ≤ length table → out ≡ rows_to (view_in plan values) (actions_in rule) rule.len w g ++ drop (g * w) table
    → ◌≡◌ {A = FillAnswer} (record { number = 0; places = k; table = out }) (fill_of f table)
unfolding table_of runs_of
fill_done f table out plan values rule w g k e C p q i l o =
    let m = map_of f in
    let L = loaded-map f e in
    let v = view_in plan values in
    let rows : rows_to v (actions_in rule) rule.len (width_of m) m.groups ≡ table_in (runs_to m m.groups) =
    rows-table m v (actions_in rule) rule.len C.view C.actions C.len m.groups in
    let z : k ≡ m.groups * width_of m = i ∙ ap₂ ◌*◌ q p in
    let n : length (table_in (runs_to m m.groups)) ≡ m.groups * width_of m =
    ap (λ (r : List ℕ). length r) (sym rows) ∙ length-rows v (actions_in rule) rule.len (width_of m) (omega (arith, compiled-width m plan values rule L C)) m.groups in
    let put : out ≡ table_in (runs_to m m.groups) ++ drop (m.groups * width_of m) table =
    o ∙ rw (q, p) (ap (λ (r : List ℕ). r ++ drop (m.groups * width_of m) table) rows) in
    ap₂ (λ (a : ℕ) (t : List ℕ). record { number = 0; places = a; table = t }) z
    (put ∙ ap (λ (a : ℕ). table_in (runs_to m m.groups) ++ drop a table) (sym n))
    ∙ sym (fill-0 f table e (omega (arith, z)))
