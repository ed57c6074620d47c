-- The rows and the moves of the groups below a number, and what a survey of the table finds. Assumes nothing.
use Rattle.std.specs.Prelude.{◌≡◌, Bool, true, false, not, Option, None, Some, ℕ, zero, suc, ◌+◌, ◌*◌, ◌<◌, ◌≤◌, eqb, length, get_or, take, drop, set}
use Rattle.std.proofs.Math.Path.{refl, subst}
use mir.Val.{bool_byte}
use Rattle.std.proofs.Common.{sym, ap, ap₂, ◌∙◌, add-one, eq-or-lt_of_le, mul-le-mul_right, mul-le-mul, zero-mul, eqb-true, length-append, take_at, drop_at, take-take, length-take-le, get_or-set_same, get_or-set_other}
use Rattle.std.proofs.lemmas.Bool.{false≢true}
use mathlib.Core.List.Memᴰ
use mathlib.Core.List.{List, [], ◌∷◌, ◌++◌, append-nil, append_assoc, Memᴰ}
use Rattle.std.proofs.Math.Logic.{⊎_elim}
use native.Mathlib.Omega.{arith}
use Rattle.std.proofs.Math.ListN.{length-set}
use Rattle.std.proofs.Math.Seq.{take-add}
use Rattle.definitions.specs.declared.Move.{Move}
use Rattle.definitions.specs.Lists.{same}
use Rattle.definitions.specs.Select.{Place, entries_of}
use Rattle.definitions.specs.Edit.{row_moves_to}
use Rattle.laws.specs.Lists.{same-is, is_same}
use Rattle.survey.specs.declared.surveys.Findings.{Findings}
use Rattle.survey.specs.Places.{Looked}

-- the rows of the groups below n, one behind the other; f gives the places of a group
unfoldable pub rows_to : (ℕ → List Place) → ℕ → List ℕ
rows_to f zero = []
rows_to f (suc g) = rows_to f g ++ entries_of (f g)

-- and the moves between them
unfoldable pub moves_by : ℕ → (ℕ → List Place) → (ℕ → List Place) → ℕ → List Move
moves_by w f f' zero = []
moves_by w f f' (suc g) = moves_by w f f' g ++ row_moves_to g (f g) (f' g) w

-- a group below n stands in its place
pub rows_split : (f : ℕ → List Place) (n g : ℕ) → g < n → (rest : List ℕ) × (rows_to f n ≡ rows_to f g ++ (entries_of (f g) ++ rest))
unfolding rows_to
rows_split f zero g h = absurd (omega arith)
rows_split f (suc n) g h =
    ⊎_elim (λ (e : g ≡ n). ([], ap (λ (k : ℕ). rows_to f k ++ entries_of (f k)) (sym e) ∙ ap (λ (l : List ℕ). rows_to f g ++ l) (sym (append-nil (entries_of (f g))))))
    (λ (l : g < n). let (rest, q) = rows_split f n g l in
    (rest ++ entries_of (f n), rw (q, append_assoc (rows_to f g) (entries_of (f g) ++ rest) (entries_of (f n)), append_assoc (entries_of (f g)) rest (entries_of (f n)))))
    (eq-or-lt_of_le (omega arith))

-- and so do its moves
pub moves-among : (w : ℕ) (f f' : ℕ → List Place) (n g : ℕ) (v : Move) → g < n → Memᴰ v (row_moves_to g (f g) (f' g) w) → Memᴰ v (moves_by w f f' n)
unfolding moves_by
moves-among w f f' zero g v h i = absurd (omega arith)
moves-among w f f' (suc n) g v h i =
    ⊎_elim (λ (e : g ≡ n). Memᴰ.append_right (moves_by w f f' n) (subst (λ (k : ℕ). Memᴰ v (row_moves_to k (f k) (f' k) w)) e i))
    (λ (l : g < n). Memᴰ.append_left _ (moves-among w f f' n g v l i)) (eq-or-lt_of_le (omega arith))

-- row g ends within n rows
pub room : (g n w : ℕ) → g < n → g * w + w ≤ n * w
room g n w h = omega (arith, mul-le-mul_right w h)

-- and numbers of places are small
pub small : (g n w : ℕ) → g < n → n ≤ 65536 → w ≤ 32 → g * w + w ≤ 2097152
small g n w h l k = omega (arith, mul-le-mul_right w h, mul-le-mul l k)

-- ---- a table whose rows below g are those that f gives

module _ (w : ℕ) (f : ℕ → List Place) (g : ℕ) (table : List ℕ) (rows : take (g * w) table ≡ rows_to f g) (j : ℕ) (one : j ≡ w) where
  row_is : take j (drop (g * w) table) ≡ take w (drop (g * w) table)
  row_is = ap (λ (k : ℕ). take k (drop (g * w) table)) one

  -- one row more
  pub rows_more : take j (drop (g * w) table) ≡ entries_of (f g) → take ((g + 1) * w) table ≡ rows_to f (g + 1)
  unfolding rows_to
  rows_more e =
      let next : (g + 1) * w ≡ g * w + w = omega arith in
      rw (next, take-add (g * w) w table, ← row_is, rows, e, add-one) refl

  -- row g is another, so the table is
  pub rows-differ : (groups : ℕ) → g < groups → groups * w ≤ length table → length (entries_of (f g)) ≡ w → same (take j (drop (g * w) table)) (entries_of (f g)) ≡ false
      → same (take (groups * w) table) (rows_to f groups) ≡ false
  rows-differ groups h room long differ = go (same (take (groups * w) table) (rows_to f groups)) refl
    where
      row : List ℕ
      row = take j (drop (g * w) table)

      equal : take (groups * w) table ≡ rows_to f groups → row ≡ entries_of (f g)
      equal e =
          let (rest, q) = rows_split f groups g h in
          let small : g * w + w ≤ groups * w = omega (arith, mul-le-mul_right w h) in
          let a : length (rows_to f g) ≡ g * w = ap length (sym rows) ∙ length-take-le (g * w) table (omega arith) in
          let t : take (g * w + w) table ≡ take (g * w + w) (rows_to f groups) = sym (take-take (g * w + w) (groups * w) table small) ∙ ap (take (g * w + w)) e in
          let u : drop (g * w) (take (g * w + w) table) ≡ row = ap (drop (g * w)) (take-add (g * w) w table) ∙ drop_at (take (g * w) table) (take w (drop (g * w) table)) (g * w) (length-take-le (g * w) table (omega arith)) ∙ sym row_is in
          let v : take (g * w + w) (rows_to f groups) ≡ rows_to f g ++ entries_of (f g) = ap (take (g * w + w)) (q ∙ sym (append_assoc (rows_to f g) (entries_of (f g)) rest)) ∙ take_at (rows_to f g ++ entries_of (f g)) rest (g * w + w) (length-append (rows_to f g) (entries_of (f g)) ∙ ap₂ (λ (x y : ℕ). x + y) a long) in
          sym u ∙ ap (drop (g * w)) (t ∙ v) ∙ drop_at (rows_to f g) (entries_of (f g)) (g * w) a

      go : (b : Bool) → same (take (groups * w) table) (rows_to f groups) ≡ b → same (take (groups * w) table) (rows_to f groups) ≡ false
      go true e = absurd (false≢true (sym differ ∙ is_same row (entries_of (f g)) (equal (same-is _ _ e))))
      go false e = e

-- none yet
pub rows_none : (w : ℕ) (f : ℕ → List Place) (table : List ℕ) → take (0 * w) table ≡ rows_to f 0
unfolding rows_to
rows_none w f table = rw (zero-mul w) refl

-- every row is what f gives
pub rows_all : (w : ℕ) (f : ℕ → List Place) (g groups : ℕ) (table : List ℕ) → g ≡ groups → take (g * w) table ≡ rows_to f g
    → true ≡ same (take (groups * w) table) (rows_to f groups)
rows_all w f g groups table e q = rw (← e) (sym (is_same _ _ q))

module _ (w : ℕ) (f f' : ℕ → List Place) where
  -- of a table that is what fill gives: the number of moves, and which groups have none
  pub record Found (groups : ℕ) (table : List ℕ) (s : Findings) : Type 0 where
    pub rows : take (groups * w) table ≡ rows_to f groups
    pub moves : s.moves ≡ length (moves_by w f f' groups)
    pub changed : (g : ℕ) → g < groups → get_or s.changed g 0 ≡ 0 → row_moves_to g (f g) (f' g) w ≡ []

  -- what a survey of the table finds: 19, "Table what fill gives?", and then that
  abbrev pub Surveyed : ℕ → List ℕ → Option Findings → Type 0
  Surveyed groups table None = same (take (groups * w) table) (rows_to f groups) ≡ false
  Surveyed groups table (Some s) = Found groups table s

  -- what is known where the groups below g were looked at
  pub record Sofar (g : ℕ) (table : List ℕ) (moves : ℕ) (changed : List ℕ) : Type 0 where
    pub rows : take (g * w) table ≡ rows_to f g
    pub counted : moves ≡ length (moves_by w f f' g)
    pub few : moves ≤ g * 32
    pub marks : (k : ℕ) → k < g → get_or changed k 0 ≡ 0 → row_moves_to k (f k) (f' k) w ≡ []
    pub long : length changed ≡ 65536

  pub sofar-none : (table changed : List ℕ) → length changed ≡ 65536 → Sofar 0 table 0 changed
  unfolding moves_by
  sofar-none table changed l = record { rows = rows_none w f table; counted = refl; few = omega arith; marks = λ k h e. absurd (omega arith); long = l }

  none-length : (ms : List Move) → length ms ≡ 0 → ms ≡ []
  none-length [] e = refl
  none-length (m ∷ ms) e = absurd (omega (arith, e))

  module _ (g groups : ℕ) (table changed : List ℕ) (moves : ℕ) (s : Sofar g table moves changed) (h : g < groups) (room : groups * w ≤ length table)
      (j : ℕ) (one : j ≡ w) where
    abbrev row : List ℕ
    row = take j (drop (g * w) table)

    -- one group more
    pub sofar-more : (k b : ℕ) → g < 65536 → Looked (f g) (f' g) w g row (Some k) → b ≡ bool_byte (not (eqb k 0))
        → Sofar (g + 1) table (moves + k) (set changed g b)
    unfolding moves_by
    sofar-more k b l told e =
        record {
          rows = rows_more w f g table s.rows j one told.0;
          counted = rw (add-one, s.counted, told.1) (sym (length-append (moves_by w f f' g) (row_moves_to g (f g) (f' g) w)));
          few = omega (arith, s.few, told.2);
          marks = λ i l z. ⊎_elim (λ (q : i ≡ g). last i q z) (λ (q : i < g). s.marks i q (sym (get_or-set_other changed g i b 0 (λ t. omega arith)) ∙ z)) (eq-or-lt_of_le (omega arith));
          long = length-set changed g b ∙ s.long;
        }
      where
        unmarked : (t : Bool) → eqb k 0 ≡ t → b ≡ bool_byte (not t) → b ≡ 0 → k ≡ 0
        unmarked true q p z = eqb-true k 0 q
        unmarked false q p z = absurd (omega (arith, p, z))

        last : (i : ℕ) → i ≡ g → get_or (set changed g b) i 0 ≡ 0 → row_moves_to i (f i) (f' i) w ≡ []
        last i q z =
            let y : b ≡ 0 = sym (get_or-set_same changed g b 0 (omega (arith, s.long))) ∙ ap (λ (x : ℕ). get_or (set changed g b) x 0) (sym q) ∙ z in
            rw q (none-length (row_moves_to g (f g) (f' g) w) (sym told.1 ∙ unmarked (eqb k 0) refl e y))

    -- a row that is not what fill gives
    pub surveyed-stale : Looked (f g) (f' g) w g row None → Surveyed groups table None
    surveyed-stale told = rows-differ w f g table s.rows j one groups h room told.1 told.0

  -- every row is what fill gives
  pub surveyed-all : (g groups : ℕ) (table changed : List ℕ) (moves : ℕ) → g ≡ groups → Sofar g table moves changed
      → Surveyed groups table (Some (record { moves = moves; changed = changed }))
  surveyed-all g groups table changed moves e s =
      record {
        rows = rw (← e) s.rows;
        moves = s.counted ∙ ap (λ (n : ℕ). length (moves_by w f f' n)) e;
        changed = λ k h. s.marks k (omega arith);
      }
