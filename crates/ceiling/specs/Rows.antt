-- Document 02, change 7, of a table: its rows that hold a device are, where it is a fresh fill, the groups whose list holds it. Assumes
-- nothing.
use Rattle.std.specs.Prelude.{◌≡◌, Bool, List, ◌++◌, take, drop}
use Rattle.std.proofs.Math.Path.{refl}
use Rattle.std.proofs.Common.{sym, ◌∙◌, add-one}
use Rattle.std.proofs.Math.Bool.{true, false, cond}
use Prim.Native.Nat.{ℕ, zero, suc, ◌+◌, ◌*◌, ◌<◌, ◌≤◌}
use native.Mathlib.Omega.{arith}
use Rattle.std.proofs.Math.Nat.{mul-le-mul_right}
use Rattle.std.proofs.Math.ListN.{length, length-drop}
use Rattle.std.proofs.lemmas.List.{drop-append-le, take-append-le}
use Rattle.definitions.specs.Lists.{has, kept}
use Rattle.definitions.specs.Map.{Map}
use Rattle.definitions.specs.Rule.{width_of, placed_of}
use Rattle.definitions.specs.Table.{runs_to, runs_of, row_in, table_in, table_of}
use Rattle.definitions.specs.Ceiling.{holds, holders_in, holders}
use Rattle.definitions.specs.Calls.{independent}
use Rattle.laws.specs.Loadable.{Loadable}
use Rattle.tracing.specs.Listed.{table-width, table-row}
use Rattle.ceiling.specs.Ceiling.{kept_more}

-- the row of group g in a table whose rows are w wide
abbrev pub row_at : ℕ → List ℕ → ℕ → List ℕ
row_at w table g = take w (drop (g * w) table)

-- how many of the first n rows hold device d
unfoldable pub rows_holding : ℕ → ℕ → List ℕ → ℕ → ℕ
rows_holding w d table zero = 0
rows_holding w d table (suc g) = rows_holding w d table g + cond (has d (row_at w table g)) 1 0

-- a loop that counts them
module _ (w d : ℕ) (table : List ℕ) where
  pub holding-none : 0 ≡ rows_holding w d table 0
  unfolding rows_holding
  holding-none = refl

  pub holding-more : (g r k j : ℕ) → r ≡ rows_holding w d table g → j ≡ w → k ≡ cond (has d (take j (drop (g * w) table))) 1 0
      → r + k ≡ rows_holding w d table (g + 1)
  unfolding rows_holding
  holding-more g r k j e q p = rw (add-one g, e, p, q) refl

  -- they are no more than the rows
  pub holding-most : (n : ℕ) → rows_holding w d table n ≤ n
  unfolding rows_holding
  holding-most zero = omega arith
  holding-most (suc g) = go (has d (row_at w table g)) (holding-most g)
    where
      go : (b : Bool) → rows_holding w d table g ≤ g → rows_holding w d table g + cond b 1 0 ≤ suc g
      go true h = omega arith
      go false h = omega arith

-- a fresh fill, and whatever lies behind it
module _ (m : Map) (L : Loadable m) (ind : independent m ≡ true) (tail : List ℕ) where
  -- row g is the list of group g
  pub front-row : (g : ℕ) → g < m.groups → row_at (width_of m) (table_of m ++ tail) g ≡ row_in (placed_of m g)
  unfolding table_of runs_of
  front-row g h =
      let w = width_of m in
      let T = table_in (runs_to m m.groups) in
      let room : g * w + w ≤ length T = omega (arith, table-width m L ind m.groups, mul-le-mul_right w h) in
      rw (drop-append-le (g * w) T tail (omega arith))
      (take-append-le w (drop (g * w) T) tail (omega (arith, length-drop (g * w) T)) ∙ table-row m L ind m.groups g h)

  rows-holders : (d n : ℕ) → n ≤ m.groups → rows_holding (width_of m) d (table_of m ++ tail) n ≡ holders_in d (runs_to m n)
  unfolding rows_holding holders_in runs_to kept holds
  rows-holders d zero h = refl
  rows-holders d (suc n) h =
      rw (rows-holders d n (omega arith), front-row n h) (sym (kept_more (holds d) (runs_to m n) (placed_of m n)))

  -- and the rows that hold a device are as many as the groups that do
  pub front-holders : (d : ℕ) → rows_holding (width_of m) d (table_of m ++ tail) m.groups ≡ holders m d
  unfolding holders runs_of
  front-holders d = rows-holders d m.groups (omega arith)
