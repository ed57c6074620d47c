-- Document 01, "Walk, select and rule" and "Table, edits, moves": in a loadable map without first-n selects a group's list is exactly W
-- long, each of its places is one of a working list that an emit appends, and so is each entry of the table. Assumes nothing.
use Rattle.std.specs.Prelude.{◌≡◌, true, ◌⊎◌, take}
use Rattle.std.proofs.Math.Path.{refl, sym, ap, ap₂}
use Rattle.std.proofs.Common.{◌∙◌, subst, inl, inr, ⊎_elim, eq-or-lt_of_le, mul-le-mul_right, length-drop, drop-cons, drop_at, take_all}
use Rattle.std.proofs.lemmas.Bool.{false≢true}
use mathlib.Core.List.{List, [], ◌∷◌, ◌++◌, append-nil, append_assoc}
use Prim.Native.Nat.{ℕ, zero, suc, ◌+◌, ◌-◌, ◌*◌, ◌<◌, ◌≤◌}
use Rattle.std.proofs.Math.Decide.{dec_lt}
use native.Mathlib.Omega.{arith}
use Rattle.std.proofs.Math.ListN.{length, get_or, drop, length-append, length-map, get_or-append}
use Rattle.std.proofs.Math.Seq.{drop-length, get_or-append-add}
use Rattle.std.proofs.lemmas.List.{drop-append-le, take-append-le}
use Rattle.definitions.specs.declared.Mode.TheVariants.{FirstN, Independent, Through}
use Rattle.definitions.specs.declared.Action.{Action}
use Rattle.definitions.specs.declared.Action.TheVariants.{Take, Select, Emit, Idle}
use Rattle.definitions.specs.declared.Standing.{Standing}
use Rattle.definitions.specs.declared.Standing.TheVariants.{Outside}
use Rattle.definitions.specs.Lists.{sum, joined}
use Rattle.definitions.specs.Map.{Map, actions_of}
use Rattle.definitions.specs.View.{view_of}
use Rattle.definitions.specs.Select.{Place, entries_of, nowhere}
use Rattle.definitions.specs.Rule.{Run, taken, selected, act, run_to, widths_from, widths, width_of, padded, Placed, placed_by, placed_of}
use Rattle.definitions.specs.Table.{runs_to, runs_of, row_in, table_in, table_of}
use Rattle.definitions.specs.Load.{standing}
use Rattle.definitions.specs.Calls.{not_first_n, independent}
use Rattle.laws.specs.Lists.{get_d-mapped}
use Rattle.laws.specs.FirstBlock.{list-more}
use Rattle.laws.specs.Loadable.{Loadable, in_blocks_lem}
use Rattle.laws.specs.Blocks.{InOrder, takes, selects, emits, length-actions, step-inside, step-in-order}
use Rattle.tracing.specs.Runs.{leaves, step_at, working_at, list_at, place_at, run_step, working-take, working-stays, step_count, independent-at, steps-same, count_same}

-- ---- the list so far

-- place j of the list of group x is place p of the working list that step k emits
pub record Emitted (m : Map) (x j k p : ℕ) : Type 0 where
  pub emits : step_at m k ≡ Emit
  pub inside : p < length (working_at m x k)
  pub place : length (list_at m x k) + p ≡ j

module _ (m : Map) (x k : ℕ) where
  -- an emit appends the working list
  pub list-emit : step_at m k ≡ Emit → list_at m x (suc k) ≡ list_at m x k ++ working_at m x k
  unfolding list_at working_at act
  list-emit e = ap (λ (s : Run). s.list) (run_step m x k Emit e)

  -- and every other step leaves the list as it is
  pub list-stays : (a : Action) → step_at m k ≡ a → (a ≡ Emit → ⊥) → list_at m x (suc k) ≡ list_at m x k
  unfolding list_at act selected
  list-stays (Take b) e f = ap (λ (s : Run). s.list) (run_step m x k (Take b) e)
  list-stays (Select mode n t) e f = ap (λ (s : Run). s.list) (run_step m x k (Select mode n t) e)
  list-stays Emit e f = absurd (f refl)
  list-stays Idle e f = ap (λ (s : Run). s.list) (run_step m x k Idle e)

-- a step emits or it does not
emits-or : (a : Action) → (a ≡ Emit) ⊎ (a ≡ Emit → ⊥)
emits-or (Take b) = inr (λ e. let z : ◌≡◌ {A = ℕ} 0 1 = cc in omega arith)
emits-or (Select mode n t) = inr (λ e. let z : ◌≡◌ {A = ℕ} 0 1 = cc in omega arith)
emits-or Emit = inl refl
emits-or Idle = inr (λ e. let z : ◌≡◌ {A = ℕ} 0 1 = cc in omega arith)

module _ (m : Map) (x : ℕ) where
  -- each place of the list is one that an emit has appended
  pub listed-from : (l j : ℕ) → j < length (list_at m x l) → (k : ℕ) × (p : ℕ) × (k < l) × Emitted m x j k p
  unfolding list_at run_to
  listed-from zero j h = absurd (omega arith)
  listed-from (suc l) j h = go (emits-or (step_at m l)) (dec_lt j (length (list_at m x l))) (listed-from l j)
    where
      Found : Type 0
      Found = (k : ℕ) × (p : ℕ) × (k < suc l) × Emitted m x j k p

      later : (j < length (list_at m x l) → (k : ℕ) × (p : ℕ) × (k < l) × Emitted m x j k p) → j < length (list_at m x l) → Found
      later rest g = let (k, p, s, q) = rest g in (k, p, omega arith, q)

      go : (step_at m l ≡ Emit) ⊎ (step_at m l ≡ Emit → ⊥) → Dec (j < length (list_at m x l))
          → (j < length (list_at m x l) → (k : ℕ) × (p : ℕ) × (k < l) × Emitted m x j k p) → Found
      go (inl e) (yes g) rest = later rest g
      go (inl e) (no g) rest =
          let q : length (list_at m x (suc l)) ≡ length (list_at m x l) + length (working_at m x l) = ap length (list-emit m x l e) ∙ length-append (list_at m x l) (working_at m x l) in
          (l, j - length (list_at m x l), omega arith, record { emits = e; inside = omega arith; place = omega arith })
      go (inr f) g rest = later rest (omega (arith, ap length (list-stays m x l (step_at m l) refl f)))

  -- place j of the list after l steps is place p of the working list after k
  abbrev pub Stands : ℕ → ℕ → ℕ → ℕ → Type 0
  Stands l j k p = (j < length (list_at m x l)) × (get_or (list_at m x l) j nowhere ≡ place_at m x k p)

  stands-now : (j k p : ℕ) → Emitted m x j k p → Stands (suc k) j k p
  unfolding place_at
  stands-now j k p E =
      let q = list-emit m x k E.emits in (
        omega (arith, ap length q, length-append (list_at m x k) (working_at m x k), E.place, E.inside),
        ap₂ (λ (ps : List Place) (i : ℕ). get_or ps i nowhere) q (sym E.place) ∙ get_or-append-add (list_at m x k) (working_at m x k) p nowhere,
      )

  stands_on : (l j k p : ℕ) → Stands l j k p → Stands (suc l) j k p
  unfolding list_at
  stands_on l j k p (h, e) =
      let (ps, q) = list-more (view_of m) x (actions_of m) l in (
        omega (arith, ap length q, length-append (list_at m x l) ps),
        ap (λ (qs : List Place). get_or qs j nowhere) q ∙ get_or-append (list_at m x l) ps nowhere j h ∙ e,
      )

  -- and what an emit has appended stands there as it was
  pub list-place : (l j k p : ℕ) → k < l → Emitted m x j k p → Stands l j k p
  list-place zero j k p h E = absurd (omega arith)
  list-place (suc l) j k p h E =
      ⊎_elim (λ (q : k ≡ l). subst (λ o. Stands (suc o) j k p) q (stands-now j k p E))
      (λ (g : k < l). stands_on l j k p (list-place l j k p g E)) (eq-or-lt_of_le (omega arith))

  -- a place of the list comes from one place
  pub emitted-one : (j k p l q : ℕ) → Emitted m x j k p → Emitted m x j l q → (k ≡ l) × (p ≡ q)
  emitted-one j k p l q E F = go (dec_lt k l) (dec_lt l k)
    where
      go : Dec (k < l) → Dec (l < k) → (k ≡ l) × (p ≡ q)
      go (yes h) d = absurd (omega (arith, (list-place l j k p h E).0, F.place))
      go (no f) (yes h) = absurd (omega (arith, (list-place k j l q h F).0, E.place))
      go (no f) (no g) =
          let z : k ≡ l = omega arith in
          (z, omega (arith, E.place, F.place, ap (λ (o : ℕ). length (list_at m x o)) z))

-- ---- W places

-- a rule in blocks begins with a take
first-take : (m : Map) → Loadable m → (b : ℕ) × (step_at m 0 ≡ Take b)
unfolding standing
first-take m L = go (step-in-order m L.in_blocks 0 (omega (arith, length-actions m, (in_blocks_lem m L.in_blocks).least))) refl
  where
    go : {st st' : Standing} {a : Action} → InOrder m st a st' → st ≡ Outside → (b : ℕ) × (a ≡ Take b)
    go (takes {b}) e = (b, refl)
    go (selects l) e = absurd (let z : ◌≡◌ {A = ℕ} 0 1 = cc in omega arith)
    go emits e = absurd (let z : ◌≡◌ {A = ℕ} 0 1 = cc in omega arith)

-- a take's block does not go by what was there before
widths-first : (p q b : ℕ) (actions : List Action) → get_or actions 0 Idle ≡ Take b → widths_from p actions ≡ widths_from q actions
unfolding widths_from
widths-first p q b [] e = refl
widths-first p q b (a ∷ rest) e = rw e

module _ (m : Map) (x : ℕ) (L : Loadable m) (ind : independent m ≡ true) where
  -- what the steps behind the first k will emit
  abbrev left : ℕ → ℕ
  left k = sum (widths_from (length (working_at m x k)) (drop k (actions_of m)))

  -- a step moves places from what is left to the list
  left_step : (k : ℕ) → k < length (actions_of m) → length (list_at m x k) + left k ≡ length (list_at m x (suc k)) + left (suc k)
  unfolding widths_from sum taken not_first_n leaves
  left_step k h = rw (drop-cons (actions_of m) k Idle h) (go (step_at m k) refl (independent-at m ind k))
    where
      rest : List Action
      rest = drop (suc k) (actions_of m)

      go : (a : Action) → step_at m k ≡ a → not_first_n a ≡ true
          → length (list_at m x k) + sum (widths_from (length (working_at m x k)) (step_at m k ∷ rest)) ≡ length (list_at m x (suc k)) + sum (widths_from (length (working_at m x (suc k))) rest)
      go (Take b) e i = rw (list-stays m x k (Take b) e (λ q. let z : ◌≡◌ {A = ℕ} 0 1 = cc in omega arith), working-take m x k b e, e)
      go (Select FirstN n t) e i = absurd (false≢true i)
      go (Select Independent n t) e i =
          rw (list-stays m x k (Select Independent n t) e (λ q. let z : ◌≡◌ {A = ℕ} 0 1 = cc in omega arith), step_count m x k Independent n t e refl, e)
      go (Select Through n t) e i =
          rw (list-stays m x k (Select Through n t) e (λ q. let z : ◌≡◌ {A = ℕ} 0 1 = cc in omega arith), step_count m x k Through n t e refl, e)
      go Emit e i = rw (list-emit m x k e, working-stays m x k (inl e), length-append (list_at m x k) (working_at m x k), e) (omega arith)
      go Idle e i = rw (list-stays m x k Idle e (λ q. let z : ◌≡◌ {A = ℕ} 0 1 = cc in omega arith), working-stays m x k (inr e), e)

  left-all : (k : ℕ) → k ≤ length (actions_of m) → length (list_at m x k) + left k ≡ width_of m
  unfolding list_at working_at run_to width_of widths
  left-all zero h = let (b, e) = first-take m L in omega (arith, ap sum (widths-first 0 1 b (actions_of m) e))
  left-all (suc k) h = sym (left_step k (omega arith)) ∙ left-all k (omega arith)

  list-width : length (list_at m x (length (actions_of m))) ≡ width_of m
  unfolding widths_from sum
  list-width =
      let q = left-all (length (actions_of m)) (omega arith) in
      omega (arith, rw (drop-length (actions_of m)) at q)

  -- a group's list is what was emitted: nothing stands behind it
  pub placed-list : (placed_of m x).places ≡ list_at m x (length (actions_of m))
  unfolding placed_of placed_by padded list_at
  placed-list =
      let z : width_of m - length (list_at m x (length (actions_of m))) ≡ 0 = omega (arith, list-width) in
      rw z (append-nil (list_at m x (length (actions_of m))))

  -- and is exactly W long
  pub placed-width : length (placed_of m x).places ≡ width_of m
  placed-width = ap length placed-list ∙ list-width

  -- each of its places is one of a working list that a step emits
  pub placed-from : (j : ℕ) → j < width_of m → (k : ℕ) × (p : ℕ) × Emitted m x j k p
  placed-from j h = let (k, p, g, E) = listed-from m x (length (actions_of m)) j (omega (arith, list-width)) in (k, p, E)

  -- and is the same as there
  pub placed-place : (j k p : ℕ) → Emitted m x j k p → get_or (placed_of m x).places j nowhere ≡ place_at m x k p
  placed-place j k p E = rw placed-list (list-place m x (length (actions_of m)) j k p (step-inside (actions_of m) k (λ e. let q = E.emits in let z : ◌≡◌ {A = ℕ} 0 1 = cc in omega arith)) E).1

-- ---- the list's places go by the steps alone

module _ (m m' : Map) (same : actions_of m' ≡ actions_of m) (ind : independent m ≡ true) (x : ℕ) where
  emitted-count : (k : ℕ) → length (list_at m x k) ≡ length (list_at m' x k)
  unfolding list_at run_to
  emitted-count zero = refl
  emitted-count (suc k) = go (emits-or (step_at m k)) (emitted-count k)
    where
      go : (step_at m k ≡ Emit) ⊎ (step_at m k ≡ Emit → ⊥) → length (list_at m x k) ≡ length (list_at m' x k)
          → length (list_at m x (suc k)) ≡ length (list_at m' x (suc k))
      go (inl e) r =
          rw (list-emit m x k e, list-emit m' x k (steps-same m m' same k ∙ e), length-append (list_at m x k) (working_at m x k), length-append (list_at m' x k) (working_at m' x k))
          (ap₂ ◌+◌ r (count_same m m' same ind x x k))
      go (inr f) r = rw (list-stays m x k (step_at m k) refl f, list-stays m' x k (step_at m k) (steps-same m m' same k) f) r

  -- a place of the list comes from the same place in both runs
  pub emitted-same : (j k p : ℕ) → Emitted m x j k p → Emitted m' x j k p
  emitted-same j k p E =
      record {
        emits = steps-same m m' same k ∙ E.emits;
        inside = omega (arith, E.inside, count_same m m' same ind x x k);
        place = omega (arith, E.place, emitted-count k);
      }

-- ---- the table

-- the entry of place j, from 0, of group g
unfoldable pub entry_at : Map → ℕ → ℕ → ℕ
entry_at m g j = get_or (table_of m) (g * width_of m + j) 0

-- one row more
pub table_more : (rs : List Placed) (r : Placed) → table_in (rs ++ (r ∷ [])) ≡ table_in rs ++ row_in r
unfolding table_in joined
table_more [] r = append-nil (row_in r)
table_more (a ∷ rs) r = ap (λ (l : List ℕ). row_in a ++ l) (table_more rs r) ∙ sym (append_assoc (row_in a) (table_in rs) (row_in r))

module _ (m : Map) (L : Loadable m) (ind : independent m ≡ true) where
  -- a row is W places
  pub row-width : (g : ℕ) → length (row_in (placed_of m g)) ≡ width_of m
  unfolding row_in entries_of
  row-width g = length-map (placed_of m g).places (λ (a : Place). a.entry) ∙ placed-width m g L ind

  abbrev table_to : ℕ → List ℕ
  table_to n = table_in (runs_to m n)

  more : (n : ℕ) → table_to (suc n) ≡ table_to n ++ row_in (placed_of m n)
  unfolding runs_to
  more n = table_more (runs_to m n) (placed_of m n)

  -- n rows are n × W places
  pub table-width : (n : ℕ) → length (table_in (runs_to m n)) ≡ n * width_of m
  unfolding runs_to table_in joined
  table-width zero = omega arith
  table-width (suc n) =
      ap length (more n) ∙ length-append (table_to n) (row_in (placed_of m n)) ∙ omega (arith, table-width n, row-width n)

  -- row g of the table is the list of group g
  pub table-row : (n g : ℕ) → g < n → take (width_of m) (drop (g * width_of m) (table_in (runs_to m n))) ≡ row_in (placed_of m g)
  table-row zero g h = absurd (omega arith)
  table-row (suc n) g h =
      let w = width_of m in
      ap (λ (l : List ℕ). take w (drop (g * w) l)) (more n)
      ∙ ⊎_elim
      (λ (e : g ≡ n).
      rw (e, drop_at (table_to n) (row_in (placed_of m n)) (n * w) (table-width n)) (take_all w (row_in (placed_of m n)) (omega (arith, row-width n))))
      (λ (k : g < n).
      let room : g * w + w ≤ length (table_to n) = omega (arith, table-width n, mul-le-mul_right w k) in
      rw (drop-append-le (g * w) (table_to n) (row_in (placed_of m n)) (omega arith))
      (take-append-le w (drop (g * w) (table_to n)) (row_in (placed_of m n)) (omega (arith, length-drop (g * w) (table_to n))) ∙ table-row n g k))
      (eq-or-lt_of_le (omega arith))

  row-entry : (g j : ℕ) → j < width_of m → get_or (row_in (placed_of m g)) j 0 ≡ (get_or (placed_of m g).places j nowhere).entry
  unfolding row_in entries_of
  row-entry g j h = get_d-mapped (λ (a : Place). a.entry) (placed_of m g).places j nowhere 0 (omega (arith, placed-width m g L ind))

  table-entry : (n g j : ℕ) → g < n → j < width_of m → get_or (table_to n) (g * width_of m + j) 0 ≡ (get_or (placed_of m g).places j nowhere).entry
  table-entry zero g j h l = absurd (omega arith)
  table-entry (suc n) g j h l =
      ap (λ (t : List ℕ). get_or t (g * width_of m + j) 0) (more n)
      ∙ ⊎_elim
      (λ (e : g ≡ n). rw (e, ← table-width n) (get_or-append-add (table_to n) (row_in (placed_of m n)) j 0 ∙ row-entry n j l))
      (λ (k : g < n).
      get_or-append (table_to n) (row_in (placed_of m n)) 0 (g * width_of m + j) (omega (arith, table-width n, mul-le-mul_right (width_of m) k))
      ∙ table-entry n g j k l)
      (eq-or-lt_of_le (omega arith))

  -- an entry of the table is that of the group's list
  pub entry-placed : (g j : ℕ) → g < m.groups → j < width_of m → entry_at m g j ≡ (get_or (placed_of m g).places j nowhere).entry
  unfolding entry_at table_of runs_of
  entry-placed g j h l = table-entry m.groups g j h l

  -- and that of the working list that it comes from
  pub entry-emitted : (g j k p : ℕ) → g < m.groups → j < width_of m → Emitted m g j k p → entry_at m g j ≡ (place_at m g k p).entry
  entry-emitted g j k p h l E = entry-placed g j h l ∙ ap (λ (a : Place). a.entry) (placed-place m g L ind j k p E)
