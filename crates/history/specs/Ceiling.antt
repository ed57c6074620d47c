-- Document 02, change 7, of a call of edit and a call for the ceiling, by the definition of each: the moves that the edit wrote, and their
-- number, beside the rows of the table and the ceiling. Assumes nothing.
use Rattle.std.specs.Prelude.{◌≡◌, refl, true, ℕ, ◌*◌, ◌<◌, ◌≤◌, leb, length, drop, Option, Some}
use Rattle.std.proofs.Common.{sym, ◌∙◌, subst, arith}
use Rattle.std.proofs.Math.Path.{ap}
use mathlib.Core.List.{List, Memᴰ}
use Rattle.definitions.specs.declared.Change.{Change}
use Rattle.definitions.specs.declared.Change.TheVariants.{Acceptance}
use Rattle.definitions.specs.declared.Move.{Move}
use Rattle.definitions.specs.Lists.{has, over, first_no}
use Rattle.definitions.specs.Map.{Map, map_of}
use Rattle.definitions.specs.View.{acceptance_of}
use Rattle.definitions.specs.Rule.{width_of, placed_of}
use Rattle.definitions.specs.Table.{table_of}
use Rattle.definitions.specs.Edit.{change_of, put, moves_of, moves_bytes}
use Rattle.definitions.specs.Ceiling.{holds, holders, ceiling}
use Rattle.definitions.specs.Load.{has_device}
use Rattle.definitions.specs.Calls.{fits, EditAnswer, edit_of, CeilingAnswer, ceiling_number, ceiling_by, ceiling_of}
use Rattle.laws.specs.Lists.{both}
use Rattle.laws.specs.Loadable.{put-groups, put-has-device}
use Rattle.tracing.proofs.Moves.{moves-traced}
use Rattle.text.specs.Agreement.{loaded-map}
use Rattle.ceiling.specs.Ceiling.{lowered, raised, lowered-most, raised-most}
use Rattle.ceiling.specs.Rows.{row_at, rows_holding, front-row, front-holders}
use Rattle.history.specs.Step.{Standing, Done, Told, asked-14, asked-16, asked-19, step-told, step-stands}
use Rattle.history.specs.Calls.{told-done}

-- what the ceiling answers of device d where this table of map m holds it in so many rows
pub record Ceiled (d : ℕ) (m : Map) (table : List ℕ) (k : CeilingAnswer) : Type 0 where
  pub number : k.number ≡ 0
  pub groups : k.groups ≡ rows_holding (width_of m) d table m.groups
  pub moves : k.moves ≡ width_of m * k.groups

-- a call of edit that was lent this space and answered o, its moves, and the ceiling k beside a table of map m
pub record Within (d : ℕ) (m : Map) (table : List ℕ) (moves : List Move) (space : List ℕ) (o : EditAnswer) (k : CeilingAnswer) : Type 0 where
  -- the moves are those that the call wrote and counted
  pub wrote : o.space ≡ over (moves_bytes moves) space
  pub counted : o.moves ≡ length moves
  -- each is of a group whose row holds the device
  pub only : (v : Move) → Memᴰ v moves → (v.group < m.groups) × (has d (row_at (width_of m) table v.group) ≡ true)
  -- and there are no more than the ceiling, W times the number of such rows
  pub told : Ceiled d m table k
  pub most : o.moves ≤ k.moves

-- ---- the ceiling, lent a map and its fresh fill

module _ (rest frames table : List ℕ) (S : Standing rest frames table) where
  abbrev m : Map
  m = map_of frames

  abbrev tail : List ℕ
  tail = drop (length (table_of m)) rest

  -- a group whose list holds a device has it in its row
  row-holds : (d g : ℕ) → g < m.groups → holds d (placed_of m g) ≡ true → has d (row_at (width_of m) table g) ≡ true
  unfolding holds
  row-holds d g h e =
      ap (λ (t : List ℕ). has d (row_at (width_of m) t g)) S.filled ∙ ap (has d) (front-row m (loaded-map frames S.loads) S.only tail g h) ∙ e

  rows_are : (d : ℕ) → rows_holding (width_of m) d table m.groups ≡ holders m d
  rows_are d = ap (λ (t : List ℕ). rows_holding (width_of m) d t m.groups) S.filled ∙ front-holders m (loaded-map frames S.loads) S.only tail d

  -- of a device that is present it is told, never refused
  module _ (d : ℕ) (h : has_device m d ≡ true) where
    ceiling-is : ceiling_of frames table d ≡ record { number = 0; groups = holders m d; moves = width_of m * holders m d }
    unfolding ceiling_of ceiling_number first_no ceiling_by holders
    ceiling-is = simp (asked-14 rest frames table S, asked-16 rest frames table S, S.only, h, asked-19 rest frames table S)

    pub ceiling-told : Ceiled d m table (ceiling_of frames table d)
    ceiling-told =
        rw ceiling-is (record { number = refl; groups = sym (rows_are d); moves = refl })

    ceiling-moves : (ceiling_of frames table d).moves ≡ ceiling m d
    unfolding ceiling
    ceiling-moves = ap (λ (k : CeilingAnswer). k.moves) ceiling-is

-- ---- beside a good call of edit

module _ (rest frames table edit space : List ℕ) (o : EditAnswer) (S : Standing rest frames table) (e : o ≡ edit_of frames table edit space)
    (z : o.number ≡ 0) (d a : ℕ) (q : change_of edit ≡ Some (Acceptance d a)) where
  t : Told rest frames table edit space o
  t = rw e (step-told rest frames table edit space S)

  abbrev before : Map
  before = map_of frames

  abbrev after : Map
  after = put before (Some (Acceptance d a))

  abbrev moves : List Move
  moves = moves_of before after

  fit : fits before (Some (Acceptance d a)) ≡ true
  fit = subst (λ (c : Option Change). fits before c ≡ true) q (told-done rest frames table edit space o t z).0

  made : Done rest after moves space o
  made = subst (λ (c : Option Change). Done rest (put before c) (moves_of before (put before c)) space o) q (told-done rest frames table edit space o t z).1

  present : has_device before d ≡ true
  unfolding fits
  present = (both (has_device before d) (leb a 65536) fit).0

  group-below : (v : Move) → Memᴰ v moves → v.group < before.groups
  group-below v i = ((moves-traced before (Some (Acceptance d a)) (loaded-map frames S.loads) S.only fit).each v i).group

  -- LOWERING: the rows of the table that edit was lent, and the ceiling told with that map and that table
  pub lowering : a ≤ acceptance_of before d → Within d before table moves space o (ceiling_of frames table d)
  lowering l =
      let L = loaded-map frames S.loads in
      record {
        wrote = made.written;
        counted = made.count;
        only = λ v i. (group-below v i, row-holds rest frames table S d v.group (group-below v i) (lowered before d a L S.only fit l v i));
        told = ceiling-told rest frames table S d present;
        most = omega (arith, made.count, lowered-most before d a L S.only fit l, ceiling-moves rest frames table S d present);
      }

  -- RAISING: the rows of the table that edit left, and the ceiling told with the map and the table that it left
  pub raising : acceptance_of before d ≤ a → Within d (map_of o.frames) o.table moves space o (ceiling_of o.frames o.table d)
  raising l =
      let L = loaded-map frames S.loads in
      let S' = step-stands rest frames table edit space S o t in
      let y = made.holds in
      let there : has_device (map_of o.frames) d ≡ true = ap (λ (n : Map). has_device n d) y ∙ put-has-device before (Some (Acceptance d a)) d ∙ present in
      let below : (v : Move) → Memᴰ v moves → v.group < (map_of o.frames).groups =
      λ v i. omega (arith, group-below v i, ap (λ (n : Map). n.groups) y, put-groups before (Some (Acceptance d a))) in
      record {
        wrote = made.written;
        counted = made.count;
        only = λ v i. (
          below v i,
          row-holds rest o.frames o.table S' d v.group (below v i)
              (ap (λ (n : Map). holds d (placed_of n v.group)) y ∙ raised before d a L S.only fit l v i),
        );
        told = ceiling-told rest o.frames o.table S' d there;
        most = omega (arith, made.count, raised-most before d a L S.only fit l, ceiling-moves rest o.frames o.table S' d there, ap (λ (n : Map). ceiling n d) y);
      }
