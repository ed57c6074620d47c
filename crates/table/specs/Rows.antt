-- The rows of a table, as code writes them, and that they are the definition's. Assumes nothing.
use Rattle.std.specs.Prelude.{◌≡◌, refl, List, [], ◌++◌, length, drop}
use Rattle.std.proofs.Common.{sym, ap₂, ◌∙◌, append_assoc, mul-le-mul_right}
use Prim.Native.Nat.{ℕ, zero, suc, ◌+◌, ◌*◌, ◌<◌, ◌≤◌}
use native.Mathlib.Omega.{arith}
use Rattle.std.proofs.Math.Numerals.{add-one}
use Rattle.std.proofs.Math.ListN.{length-append}
use Rattle.std.proofs.Math.Seq.{take_at, drop_at, drop-drop}
use borrow.Rule.Slice.PartMut.{put_mid}
use Rattle.definitions.specs.declared.Action.{Action}
use Rattle.definitions.specs.Lists.{joined}
use Rattle.definitions.specs.Map.{Map, actions_of}
use Rattle.definitions.specs.View.{View, view_of}
use Rattle.definitions.specs.Rule.{width_of, placed_of}
use Rattle.definitions.specs.Table.{runs_to, row_in, table_in}
use Rattle.blocks.specs.Products.{emitted_to}
use Rattle.tracing.specs.Listed.{table_more}
use Rattle.placement.specs.Bare.{filled_up, bare_run_to}
use Rattle.placement.specs.Row.{length-filled}
use Rattle.placement.specs.Lengths.{run-most}
use Rattle.placement.specs.Loaded.{placed-is}

module _ (v : View) (actions : List Action) (n w : ℕ) where
  -- the row of group g
  unfoldable pub row_of : ℕ → List ℕ
  row_of g = filled_up w (bare_run_to v g actions n).list

  -- the rows of the groups below g
  unfoldable pub rows_to : ℕ → List ℕ
  rows_to zero = []
  rows_to (suc g) = rows_to g ++ row_of g

  pub length-row : emitted_to actions n ≤ w → (g : ℕ) → length (row_of g) ≡ w
  unfolding row_of
  length-row h g = length-filled w (bare_run_to v g actions n).list (omega (arith, (run-most v g actions n).1))

  pub length-rows : emitted_to actions n ≤ w → (g : ℕ) → length (rows_to g) ≡ g * w
  unfolding rows_to
  length-rows h zero = omega arith
  length-rows h (suc g) = length-append (rows_to g) (row_of g) ∙ omega (arith, length-rows h g, length-row h g)

  -- the row of g in its place, behind the rows below it
  pub row_put : emitted_to actions n ≤ w → (g a k l : ℕ) (t xs ys : List ℕ) → a ≡ g * w → k ≡ w → l ≡ w → xs ≡ rows_to g ++ drop (g * w) t
      → ys ≡ filled_up l (bare_run_to v g actions n).list → put_mid a k xs ys ≡ rows_to (g + 1) ++ drop ((g + 1) * w) t
  unfolding rows_to row_of
  row_put h g a k l t xs ys i p q e f =
      let z : g * w + w ≡ (g + 1) * w = omega arith in
      rw (f, e, i, p, q, take_at (rows_to g) (drop (g * w) t) (g * w) (length-rows h g), drop_at (rows_to g) (drop (g * w) t) (g * w) (length-rows h g), drop-drop, z, add-one, append_assoc)

-- row g ends within n rows
pub room : (g n w : ℕ) → g < n → g * w + w ≤ n * w
room g n w h = omega (arith, mul-le-mul_right w h)

-- the rows by a view of map m are its table
pub rows-table : (m : Map) (v : View) (actions : List Action) (n : ℕ) → v ≡ view_of m → actions ≡ actions_of m → n ≡ length actions
    → (g : ℕ) → rows_to v actions n (width_of m) g ≡ table_in (runs_to m g)
unfolding rows_to row_of runs_to table_in joined row_in
rows-table m v actions n e f h zero = refl
rows-table m v actions n e f h (suc g) =
    ap₂ ◌++◌ (rows-table m v actions n e f h g) (placed-is m g v actions n e f h).0 ∙ sym (table_more (runs_to m g) (placed_of m g))
