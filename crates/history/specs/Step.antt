-- What one call of edit does, by its definition, to a map that load takes and a table that is its fresh fill: a refusal alters nothing, and
-- a good edit leaves such a map and such a table again. Assumes nothing.
use Rattle.std.specs.Prelude.{◌≡◌, Bool, cond, List, [], ◌∷◌, ◌++◌, ℕ, ◌*◌, ◌≤◌, drop, Option}
use Rattle.std.proofs.Math.Path.{refl, sym, ap}
use Rattle.std.proofs.Common.{◌∙◌, subst, arith, length-append, length-drop, drop_at}
use Rattle.std.proofs.Math.Bool.{true, false}
use Rattle.std.proofs.Math.ListN.{length, take}
use Rattle.std.proofs.Math.Seq.{take_at}
use borrow.Author.Tests.{le-leb, eq-eqb}
use Rattle.definitions.specs.declared.Change.{Change}
use Rattle.definitions.specs.declared.Move.{Move}
use Rattle.definitions.specs.Lists.{same, over, first_no}
use Rattle.definitions.specs.Map.{Map, map_of}
use Rattle.definitions.specs.Rule.{width_of}
use Rattle.definitions.specs.Table.{runs_of, table_in, table_of}
use Rattle.definitions.specs.Edit.{change_of, put, moves_of, moves_bytes}
use Rattle.definitions.specs.Writing.{map_text}
use Rattle.definitions.specs.Load.{load_number}
use Rattle.definitions.specs.Calls.{whole, room_for_table, independent, fits, fresh, room_for_moves, EditAnswer, case_of, edit_number, edit_by, edit_answer, edit_of}
use Rattle.laws.specs.Lists.{is_same}
use Rattle.laws.specs.Loadable.{Loadable, put-loadable, put-groups, put-width}
use Rattle.tracing.specs.Listed.{table-width}
use Rattle.tracing.specs.Edited.{put-independent}
use Rattle.text.specs.Agreement.{loaded-map, written-map, written-loads}

-- the frames and the table as they stand between two calls; rest is the table that fill was lent
pub record Standing (rest frames table : List ℕ) : Type 0 where
  pub loads : load_number frames ≡ 0
  pub only : independent (map_of frames) ≡ true
  pub room : (map_of frames).groups * width_of (map_of frames) ≤ length rest
  pub filled : table ≡ over (table_of (map_of frames)) rest

-- a new front of the same length over a list that had one
pub over-over : (a b rest : List ℕ) → length a ≡ length b → over a (over b rest) ≡ over a rest
over-over a b rest e =
    ap (λ (l : List ℕ). a ++ l) (drop_at b (drop (length b) rest) (length a) (sym e) ∙ ap (λ (n : ℕ). drop n rest) (sym e))

-- a call that is refused with number n: its count is zero, and everything lent is as it was
pub record Refused (n : ℕ) (frames table space : List ℕ) (o : EditAnswer) : Type 0 where
  pub number : o.number ≡ n
  pub none : o.moves ≡ 0
  pub same-frames : o.frames ≡ frames
  pub same-table : o.table ≡ table
  pub same-space : o.space ≡ space

-- a call that is good: the map that it leaves, its fresh fill, and the moves
pub record Done (rest : List ℕ) (m' : Map) (moves : List Move) (space : List ℕ) (o : EditAnswer) : Type 0 where
  pub number : o.number ≡ 0
  pub count : o.moves ≡ length moves
  pub text : o.frames ≡ map_text m'
  pub holds : map_of o.frames ≡ m'
  pub filled : o.table ≡ over (table_of m') rest
  pub written : o.space ≡ over (moves_bytes moves) space

-- a call is refused exactly where a question is answered no: where the map and the table stand as they should, that is 18 or 20
pub data Told (rest frames table edit space : List ℕ) (o : EditAnswer) : Type 0 where
  unfit : fits (map_of frames) (change_of edit) ≡ false → Refused 18 frames table space o → Told rest frames table edit space o
  cramped : fits (map_of frames) (change_of edit) ≡ true → room_for_moves (moves_of (map_of frames) (put (map_of frames) (change_of edit))) space ≡ false
      → Refused 20 frames table space o → Told rest frames table edit space o
  done : fits (map_of frames) (change_of edit) ≡ true → room_for_moves (moves_of (map_of frames) (put (map_of frames) (change_of edit))) space ≡ true
      → Done rest (put (map_of frames) (change_of edit)) (moves_of (map_of frames) (put (map_of frames) (change_of edit))) space o → Told rest frames table edit space o

length_over : (a rest : List ℕ) → length a ≤ length rest → length (over a rest) ≡ length rest
length_over a rest h = length-append a (drop (length a) rest) ∙ omega (arith, length-drop (length a) rest)

-- so 14, 16 and 19 are answered yes
module _ (rest frames table : List ℕ) (S : Standing rest frames table) where
  abbrev n : Map
  n = map_of frames

  pub loadable : Loadable n
  loadable = loaded-map frames S.loads

  filled-length : length (table_of n) ≡ n.groups * width_of n
  unfolding table_of runs_of
  filled-length = table-width n loadable S.only n.groups

  pub asked-14 : whole frames ≡ true
  unfolding whole
  asked-14 = eq-eqb (load_number frames) 0 S.loads

  pub asked-16 : room_for_table n table ≡ true
  unfolding room_for_table
  asked-16 =
      let l : length table ≡ length rest = ap length S.filled ∙ length_over (table_of n) rest (omega (arith, filled-length, S.room)) in
      le-leb (n.groups * width_of n) (length table) (omega (arith, l, S.room))

  pub asked-19 : fresh n (runs_of n) table ≡ true
  unfolding fresh table_of
  asked-19 =
      let e : take (n.groups * width_of n) table ≡ table_in (runs_of n) =
      ap (take (n.groups * width_of n)) S.filled ∙ take_at (table_of n) (drop (length (table_of n)) rest) (n.groups * width_of n) filled-length in
      rw e (is_same _ _ refl)

-- a good call leaves a table of the same length, and what it leaves stands as what it was lent: any call that leaves another map that load
-- takes, with the same groups and width and with no first-n select
module _ (rest frames table : List ℕ) (S : Standing rest frames table) (m' : Map) (L' : Loadable m') (ind' : independent m' ≡ true)
    (groups : m'.groups ≡ (map_of frames).groups) (width : width_of m' ≡ width_of (map_of frames)) where
  new-length : length (table_of m') ≡ length (table_of (map_of frames))
  unfolding table_of runs_of
  new-length =
      let m = map_of frames in
      let e : m'.groups * width_of m' ≡ m.groups * width_of m =
      ap (λ (n : ℕ). n * width_of m') groups ∙ ap (λ (n : ℕ). m.groups * n) width in
      table-width m' L' ind' m'.groups ∙ e ∙ sym (table-width m (loadable rest frames table S) S.only m.groups)

  pub new-table : over (table_of m') table ≡ over (table_of m') rest
  new-table = ap (over (table_of m')) S.filled ∙ over-over (table_of m') (table_of (map_of frames)) rest new-length

  pub done-stands : {moves : List Move} {space : List ℕ} (o : EditAnswer) → Done rest m' moves space o → Standing rest o.frames o.table
  done-stands o d =
      record {
        loads = rw d.text (written-loads m' L');
        only = ap independent d.holds ∙ ind';
        room =
            subst (λ (n : Map). n.groups * width_of n ≤ length rest) (sym d.holds)
            (subst (λ (n : ℕ). n * width_of m' ≤ length rest) (sym groups)
            (subst (λ (n : ℕ). (map_of frames).groups * n ≤ length rest) (sym width) S.room));
        filled = d.filled ∙ ap (λ (n : Map). over (table_of n) rest) (sym d.holds);
      }

-- ---- a call of edit

module _ (rest frames table edit space : List ℕ) (S : Standing rest frames table) where
  abbrev m : Map
  m = map_of frames

  abbrev c : Option Change
  c = change_of edit

  abbrev m' : Map
  m' = put m c

  is-loadable : Loadable m
  is-loadable = loadable rest frames table S

  -- the questions that are left: 18 and 20
  step-number : edit_number (case_of frames table edit space) ≡ cond (fits m c) (cond (room_for_moves (moves_of m m') space) 0 20) 18
  unfolding edit_number case_of first_no moves_of
  step-number = simp (asked-14 rest frames table S, asked-16 rest frames table S, S.only, asked-19 rest frames table S)

  answer-is : edit_of frames table edit space ≡ edit_by (case_of frames table edit space) (cond (fits m c) (cond (room_for_moves (moves_of m m') space) 0 20) 18)
  unfolding edit_of edit_answer
  answer-is = ap (edit_by (case_of frames table edit space)) step-number

  -- ONE CALL
  pub step-told : Told rest frames table edit space (edit_of frames table edit space)
  unfolding edit_by case_of moves_of table_of
  step-told = rw answer-is (go (fits m c) refl (room_for_moves (moves_of m m') space) refl)
    where
      go : (p : Bool) → fits m c ≡ p → (q : Bool) → room_for_moves (moves_of m m') space ≡ q
          → Told rest frames table edit space (edit_by (case_of frames table edit space) (cond p (cond q 0 20) 18))
      go false e q f = unfit e (record { number = refl; none = refl; same-frames = refl; same-table = refl; same-space = refl })
      go true e false f = cramped e f (record { number = refl; none = refl; same-frames = refl; same-table = refl; same-space = refl })
      go true e true f =
          done e f
          (record {
            number = refl;
            count = refl;
            text = refl;
            holds = written-map m' (put-loadable m c is-loadable e);
            filled = new-table rest frames table S m' (put-loadable m c is-loadable e) (put-independent m c ∙ S.only) (put-groups m c) (put-width m c);
            written = refl;
          })

  -- the state after a call stands as the one before it did
  pub step-stands : (o : EditAnswer) → Told rest frames table edit space o → Standing rest o.frames o.table
  step-stands o (unfit e r) = rw (r.same-frames, r.same-table) S
  step-stands o (cramped e f r) = rw (r.same-frames, r.same-table) S
  step-stands o (done e f d) =
      done-stands rest frames table S m' (put-loadable m c is-loadable e) (put-independent m c ∙ S.only) (put-groups m c) (put-width m c) o d
