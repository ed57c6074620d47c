-- Document 01, "Table, edits, moves": the moves of a fitting edit are those of the places whose entries differ, in their order, each with
-- its old and new entry; a move's own walks first part where its cause stands, and that is traced to the edited device. (That all of this holds
-- of the moves of a fitting edit: `moves-traced` of proofs/Moves.antt.) Assumes nothing.
use Rattle.std.specs.Prelude.{◌≡◌, Bool, true, false, cond, ◌&&◌, ◌||◌, eqb, ltb, length, get_or, Option}
use Rattle.std.proofs.Math.Path.{refl, sym, ap, subst}
use Rattle.std.proofs.Common.{◌∙◌, eq-or-lt_of_le, ne_eqb, eq-eqb, lt-ltb, le-ltb, length-append}
use mathlib.Core.List.Memᴰ
use mathlib.Core.List.{List, [], ◌∷◌, ◌++◌, append-nil, append_assoc, Memᴰ}
use Rattle.std.proofs.Math.Logic.{⊎_elim}
use Prim.Native.Nat.{ℕ, zero, suc, ◌+◌, ◌<◌}
use native.Mathlib.Omega.{arith}
use Rattle.std.proofs.lemmas.Bool.{eqb-false}
use Rattle.std.proofs.Math.ListN.{get_or-append}
use Rattle.std.proofs.lemmas.List.{get_or_at}
use Rattle.definitions.specs.declared.Change.{Change}
use Rattle.definitions.specs.declared.Move.{Move}
use Rattle.definitions.specs.Lists.{linked_from, linked}
use Rattle.definitions.specs.Map.{Map}
use Rattle.definitions.specs.Select.{Place, nowhere}
use Rattle.definitions.specs.Rule.{width_of, Placed, placed_of}
use Rattle.definitions.specs.Table.{runs_to, runs_of}
use Rattle.definitions.specs.Edit.{put, parting, cause_of, move_at, row_moves_to, row_moves, nothing_placed, moves_to, moves_in, moves_of}
use Rattle.laws.specs.Lists.{and_both, linked-head, linked-tail}
use Rattle.tracing.specs.Runs.{place_at}
use Rattle.tracing.specs.Traced.{Traced}
use Rattle.tracing.specs.Cause.{Caused}
use Rattle.tracing.specs.Listed.{Emitted, entry_at}

-- ---- which moves there are

-- the move of place p of group g, of which these are the old and the new
abbrev pub move_of : ℕ → ℕ → Place → Place → Move
move_of g p a b = record { group = g; place = p; old = a.entry; new = b.entry; cause = cause_of (parting a.walk b.walk) }

move-at : (g p : ℕ) (a b : Place) (v : Move) → Memᴰ v (move_at g p a b) → (v ≡ move_of g p a b) × (a.entry ≡ b.entry → ⊥)
unfolding move_at
move-at g p a b v = go (eqb a.entry b.entry) refl
  where
    go : (t : Bool) → eqb a.entry b.entry ≡ t → Memᴰ v (cond t [] (move_of g p a b ∷ [])) → (v ≡ move_of g p a b) × (a.entry ≡ b.entry → ⊥)
    go true e i = elim i [ ]
    go false e i = (Memᴰ.eq_of_singleton i, eqb-false a.entry b.entry e)

at-move : (g p : ℕ) (a b : Place) → (a.entry ≡ b.entry → ⊥) → Memᴰ (move_of g p a b) (move_at g p a b)
unfolding move_at
at-move g p a b f = rw (ne_eqb a.entry b.entry f) (Memᴰ.head refl)

module _ (g : ℕ) (olds news : List Place) where
  -- the move of place j, from 0
  abbrev row_move : ℕ → Move
  row_move j = move_of g (suc j) (get_or olds j nowhere) (get_or news j nowhere)

  abbrev Differ : ℕ → Type 0
  Differ j = (get_or olds j nowhere).entry ≡ (get_or news j nowhere).entry → ⊥

  pub row_move_lem : (k : ℕ) (v : Move) → Memᴰ v (row_moves_to g olds news k) → (j : ℕ) × (j < k) × (v ≡ row_move j) × Differ j
  unfolding row_moves_to
  row_move_lem zero v i = elim i [ ]
  row_move_lem (suc k) v i =
      ⊎_elim (λ a. (let (j, l, e, f) = row_move_lem k v a in (j, omega arith, e, f)))
      (λ b. (let (e, f) = move-at g (suc k) (get_or olds k nowhere) (get_or news k nowhere) v b in (k, omega arith, e, f)))
      (Memᴰ.append_cases (row_moves_to g olds news k) i)

  move_row : (k j : ℕ) → j < k → Differ j → Memᴰ (row_move j) (row_moves_to g olds news k)
  unfolding row_moves_to
  move_row zero j h f = absurd (omega arith)
  move_row (suc k) j h f =
      ⊎_elim
      (λ (e : j ≡ k). Memᴰ.append_right (row_moves_to g olds news k)
      (subst (λ i. Memᴰ (row_move j) (move_at g (suc i) (get_or olds i nowhere) (get_or news i nowhere))) e (at-move g (suc j) (get_or olds j nowhere) (get_or news j nowhere) f)))
      (λ (l : j < k). Memᴰ.append_left _ (move_row k j l f)) (eq-or-lt_of_le (omega arith))

module _ (w : ℕ) (olds news : List Placed) where
  abbrev rows_at : ℕ → List Move
  rows_at g = row_moves w g (get_or olds g nothing_placed) (get_or news g nothing_placed)

  moves-row : (n : ℕ) (v : Move) → Memᴰ v (moves_to w olds news n) → (g : ℕ) × (g < n) × Memᴰ v (rows_at g)
  unfolding moves_to
  moves-row zero v i = elim i [ ]
  moves-row (suc n) v i =
      ⊎_elim (λ a. (let (g, l, e) = moves-row n v a in (g, omega arith, e))) (λ b. (n, omega arith, b)) (Memᴰ.append_cases (moves_to w olds news n) i)

  row-moves : (n g : ℕ) (v : Move) → g < n → Memᴰ v (rows_at g) → Memᴰ v (moves_to w olds news n)
  unfolding moves_to
  row-moves zero g v h i = absurd (omega arith)
  row-moves (suc n) g v h i =
      ⊎_elim (λ (e : g ≡ n). Memᴰ.append_right (moves_to w olds news n) (subst (λ o. Memᴰ v (rows_at o)) e i))
      (λ (l : g < n). Memᴰ.append_left _ (row-moves n g v l i)) (eq-or-lt_of_le (omega arith))

-- the runs of all groups
pub runs-count : (m : Map) (n : ℕ) → length (runs_to m n) ≡ n
unfolding runs_to
runs-count m zero = refl
runs-count m (suc n) = length-append (runs_to m n) (placed_of m n ∷ []) ∙ omega (arith, runs-count m n)

pub runs-at : (m : Map) (n g : ℕ) → g < n → get_or (runs_to m n) g nothing_placed ≡ placed_of m g
unfolding runs_to
runs-at m zero g h = absurd (omega arith)
runs-at m (suc n) g h =
    ⊎_elim
    (λ (e : g ≡ n). get_or_at (runs_to m n) (placed_of m n) [] nothing_placed g (runs-count m n ∙ sym e) ∙ ap (placed_of m) (sym e))
    (λ (l : g < n). get_or-append (runs_to m n) (placed_of m n ∷ []) nothing_placed g (omega (arith, runs-count m n)) ∙ runs-at m n g l)
    (eq-or-lt_of_le (omega arith))

-- place j, from 0, of the list of group g
abbrev pub listed_at : Map → ℕ → ℕ → Place
listed_at m g j = get_or (placed_of m g).places j nowhere

module _ (m m' : Map) (same : m'.groups ≡ m.groups) where
  row_is : (g : ℕ) → g < m.groups → rows_at (width_of m) (runs_of m) (runs_of m') g ≡ row_moves_to g (placed_of m g).places (placed_of m' g).places (width_of m)
  unfolding runs_of row_moves
  row_is g h = rw (runs-at m m.groups g h, runs-at m' m'.groups g (omega arith))

  moves-is : moves_of m m' ≡ moves_to (width_of m) (runs_of m) (runs_of m') m.groups
  unfolding moves_of moves_in runs_of
  moves-is = rw (runs-count m m.groups)

  -- a move is that of a place whose entries differ
  pub move-of : (v : Move) → Memᴰ v (moves_of m m')
      → (g : ℕ) × (j : ℕ) × (g < m.groups) × (j < width_of m) × (v ≡ move_of g (suc j) (listed_at m g j) (listed_at m' g j)) × ((listed_at m g j).entry ≡ (listed_at m' g j).entry → ⊥)
  move-of v i =
      let (g, h, r) = moves-row (width_of m) (runs_of m) (runs_of m') m.groups v (rw moves-is at i) in
      let (j, l, e, f) = row_move_lem g (placed_of m g).places (placed_of m' g).places (width_of m) v (rw (row_is g h) at r) in
      (g, j, h, l, e, f)

  -- and every such place has its move
  pub of-move : (g j : ℕ) → g < m.groups → j < width_of m → ((listed_at m g j).entry ≡ (listed_at m' g j).entry → ⊥)
      → Memᴰ (move_of g (suc j) (listed_at m g j) (listed_at m' g j)) (moves_of m m')
  of-move g j h l f =
      rw moves-is
      (row-moves (width_of m) (runs_of m) (runs_of m') m.groups g (move_of g (suc j) (listed_at m g j) (listed_at m' g j)) h
      (rw (row_is g h) (move_row g (placed_of m g).places (placed_of m' g).places (width_of m) j l f)))

-- ---- their order

-- "in rising group then place": move u comes before move v
unfoldable pub move_below : Move → Move → Bool
move_below u v = ltb u.group v.group || (eqb u.group v.group && ltb u.place v.place)

below-group : (u v : Move) → u.group < v.group → move_below u v ≡ true
unfolding move_below
below-group u v h = rw (lt-ltb u.group v.group h)

below-place : (u v : Move) → u.group ≡ v.group → u.place < v.place → move_below u v ≡ true
unfolding move_below
below-place u v e h = rw (le-ltb u.group v.group (omega arith), eq-eqb u.group v.group e, lt-ltb u.place v.place h)

-- a chain goes on with what each of it is below
module _ {A : Type 0} (p : A → A → Bool) where
  chain_more : (x : A) (xs : List A) (y : A) → linked_from p x xs ≡ true → ((z : A) → Memᴰ z (x ∷ xs) → p z y ≡ true)
      → linked_from p x (xs ++ (y ∷ [])) ≡ true
  unfolding linked_from
  chain_more x [] y e h = and_both (h x (Memᴰ.head refl)) refl
  chain_more x (z ∷ xs) y e h =
      and_both (linked-head p x z xs e) (chain_more z xs y (linked-tail p x z xs e) (λ a i. h a (Memᴰ.tail i)))

  linked-more : (xs : List A) (y : A) → linked p xs ≡ true → ((z : A) → Memᴰ z xs → p z y ≡ true) → linked p (xs ++ (y ∷ [])) ≡ true
  unfolding linked linked_from
  linked-more [] y e h = refl
  linked-more (x ∷ xs) y e h = chain_more x xs y e h

-- one place more
move-rises : (us : List Move) (g p : ℕ) (a b : Place) → linked move_below us ≡ true → ((v : Move) → Memᴰ v us → move_below v (move_of g p a b) ≡ true)
    → linked move_below (us ++ move_at g p a b) ≡ true
unfolding move_at
move-rises us g p a b e h = go (eqb a.entry b.entry)
  where
    go : (t : Bool) → linked move_below (us ++ cond t [] (move_of g p a b ∷ [])) ≡ true
    go true = rw (append-nil us) e
    go false = linked-more move_below us (move_of g p a b) e h

-- the places of one row more
row-rises : (us : List Move) (g : ℕ) (olds news : List Place) → linked move_below us ≡ true → ((v : Move) → Memᴰ v us → v.group < g) → (k : ℕ)
    → linked move_below (us ++ row_moves_to g olds news k) ≡ true
unfolding row_moves_to
row-rises us g olds news e h zero = rw (append-nil us) e
row-rises us g olds news e h (suc k) =
    rw (← append_assoc us (row_moves_to g olds news k) (move_at g (suc k) (get_or olds k nowhere) (get_or news k nowhere)))
    (move-rises (us ++ row_moves_to g olds news k) g (suc k) (get_or olds k nowhere) (get_or news k nowhere) (row-rises us g olds news e h k) before)
  where
    u : Move
    u = row_move g olds news k

    before : (v : Move) → Memᴰ v (us ++ row_moves_to g olds news k) → move_below v u ≡ true
    before v i =
        ⊎_elim (λ a. below-group v u (h v a))
        (λ b.
        let (j, l, q, f) = row_move_lem g olds news k v b in
        below-place v u (ap (λ (z : Move). z.group) q) (omega (arith, ap (λ (z : Move). z.place) q)))
        (Memᴰ.append_cases us i)

-- the moves of one group more
pub moves-rise : (w : ℕ) (olds news : List Placed) (n : ℕ) → linked move_below (moves_to w olds news n) ≡ true
unfolding moves_to row_moves linked
moves-rise w olds news zero = refl
moves-rise w olds news (suc n) =
    row-rises (moves_to w olds news n) n (get_or olds n nothing_placed).places (get_or news n nothing_placed).places (moves-rise w olds news n) before w
  where
    before : (v : Move) → Memᴰ v (moves_to w olds news n) → v.group < n
    before v i =
        let (g, h, r) = moves-row w olds news n v i in
        let (j, l, q, f) = row_move_lem g (get_or olds g nothing_placed).places (get_or news g nothing_placed).places w v r in
        omega (arith, ap (λ (z : Move). z.group) q)

-- ---- every move is traced

-- a move of an edit: its group and place, the place's entries in the tables before and after it, which differ, and its cause, traced at
-- the place of the working list that the place of the list comes from
pub record Moved (m : Map) (c : Option Change) (v : Move) : Type 0 where
  pub group : v.group < m.groups
  pub index : ℕ
  pub within : index < width_of m
  pub place : v.place ≡ index + 1
  pub old : v.old ≡ entry_at m v.group index
  pub new : v.new ≡ entry_at (put m c) v.group index
  pub differ : v.old ≡ v.new → ⊥
  pub step : ℕ
  pub at : ℕ
  pub emitted : Emitted m v.group index step at
  pub old-there : v.old ≡ (place_at m v.group step at).entry
  pub new-there : v.new ≡ (place_at (put m c) v.group step at).entry
  pub cause : Traced m c v.group step at v.cause
  -- "The cause stands where the old and new walk first part, by these ends": the place's own walks are the same up to one draw or one test,
  -- whose ends differ, and these ends give the cause
  pub parts : Caused (listed_at m v.group index).walk (listed_at (put m c) v.group index).walk v.cause

-- the moves of an edit: each is traced; every place whose entries differ has one, and no more; and they rise
pub record MovesTraced (m : Map) (c : Option Change) (moves : List Move) : Type 0 where
  pub each : (v : Move) → Memᴰ v moves → Moved m c v
  pub all : (g j : ℕ) → g < m.groups → j < width_of m → (entry_at m g j ≡ entry_at (put m c) g j → ⊥)
      → (v : Move) × Memᴰ v moves × (v.group ≡ g) × (v.place ≡ j + 1)
  pub one : (u v : Move) → Memᴰ u moves → Memᴰ v moves → u.group ≡ v.group → u.place ≡ v.place → u ≡ v
  pub rising : linked move_below moves ≡ true
