-- What one call of store and one of return do, by their definitions, to a map that load takes, a table that is its fresh fill, and states that
-- question 14 takes: a refusal alters nothing, and a good call leaves such a map, table and states again. Assumes nothing.
use Rattle.std.specs.Prelude.{◌≡◌, Bool, cond, List, ℕ, ◌≤◌}
use Rattle.std.proofs.Math.Path.{refl, ap}
use Rattle.std.proofs.Common.{sym, ◌∙◌, eq-eqb}
use Rattle.std.proofs.Math.Bool.{true, false}
use Rattle.definitions.specs.declared.Device.{Device}
use Rattle.definitions.specs.declared.Move.{Move}
use Rattle.definitions.specs.Lists.{first_no}
use Rattle.definitions.specs.Map.{Map, map_of}
use Rattle.definitions.specs.Rule.{width_of}
use Rattle.definitions.specs.Table.{runs_of, table_in, table_of}
use Rattle.definitions.specs.Edit.{moves_of}
use Rattle.definitions.specs.Load.{load_number}
use Rattle.definitions.specs.States.{NamedState, states_of, stated, named, room_for_name, store_in, state_now, stored, devices_named, put_state, return_moves}
use Rattle.definitions.specs.Calls.{whole, whole_with, room_for_moves, EditAnswer, StoreAnswer, store_number, store_by, store_of, return_case, return_number, return_by, return_answer, return_of}
use Rattle.laws.specs.Lists.{and_both}
use Rattle.laws.specs.Loadable.{Loadable, numbers}
use Rattle.keeping.specs.Returned.{state-groups, state-width, state-independent, state-numbers}
use Rattle.keeping.specs.States.{Stated, is-stated, stored-stated, return-numbers, return-loadable}
use Rattle.text.specs.Agreement.{loaded-map, written-map}
use Rattle.history.specs.Step.{Standing, Refused, Done, asked-14, asked-16, asked-19, loadable, new-table, done-stands}

-- question 14, where states are lent too
pub asked : (frames states : List ℕ) → load_number frames ≡ 0 → Stated (map_of frames) states → whole_with frames states ≡ true
unfolding whole_with whole
asked frames states l t = and_both (eq-eqb (load_number frames) 0 l) (is-stated (map_of frames) states t)

-- ---- store

-- a call of store is refused exactly where the name is a ninth, with 25, and then alters nothing; else it is done
pub data StoreTold (frames states : List ℕ) (name : ℕ) (o : StoreAnswer) : Type 0 where
  ninth : room_for_name name (states_of states) ≡ false → o.number ≡ 25 → o.states ≡ states → StoreTold frames states name o
  done : room_for_name name (states_of states) ≡ true → o.number ≡ 0 → o.states ≡ stored (map_of frames) name states
      → StoreTold frames states name o

module _ (frames states : List ℕ) (name : ℕ) (l : load_number frames ≡ 0) (t : Stated (map_of frames) states) where
  abbrev m : Map
  m = map_of frames

  abbrev ss : List NamedState
  ss = states_of states

  store-number : store_number frames states name ≡ cond (room_for_name name ss) 0 25
  unfolding store_number first_no
  store-number = simp (asked frames states l t)

  -- ONE CALL OF STORE
  pub store_told : StoreTold frames states name (store_of frames states name)
  unfolding store_of store_by
  store_told = rw store-number (go (room_for_name name ss) refl)
    where
      go : (p : Bool) → room_for_name name ss ≡ p → StoreTold frames states name (store_by m states name (cond p 0 25))
      go false e = ninth e refl refl
      go true e = done e refl refl

  -- the states after it
  pub store-stated : name ≤ 65535 → (o : StoreAnswer) → StoreTold frames states name o → Stated m o.states
  store-stated h o (ninth e n s) = rw s t
  store-stated h o (done e n s) = rw s (stored-stated m states name (loaded-map frames l) h t e)

-- ---- return

-- a call of return is refused exactly where a question is answered no: where map, table and states stand as they should, that is 24 or 20
pub data ReturnTold (rest frames table states : List ℕ) (name : ℕ) (space : List ℕ) (o : EditAnswer) : Type 0 where
  unknown : named name (states_of states) ≡ false → Refused 24 frames table space o → ReturnTold rest frames table states name space o
  cramped : named name (states_of states) ≡ true
      → room_for_moves (return_moves (moves_of (map_of frames) (put_state (map_of frames) (devices_named name (states_of states))))) space ≡ false
      → Refused 20 frames table space o → ReturnTold rest frames table states name space o
  done : named name (states_of states) ≡ true
      → room_for_moves (return_moves (moves_of (map_of frames) (put_state (map_of frames) (devices_named name (states_of states))))) space ≡ true
      → Done rest (put_state (map_of frames) (devices_named name (states_of states)))
      (return_moves (moves_of (map_of frames) (put_state (map_of frames) (devices_named name (states_of states))))) space o
      → ReturnTold rest frames table states name space o

module _ (rest frames table states : List ℕ) (name : ℕ) (space : List ℕ) (S : Standing rest frames table) (t : Stated (map_of frames) states) where
  abbrev n : Map
  n = map_of frames

  abbrev ds : List Device
  ds = devices_named name (states_of states)

  abbrev n' : Map
  n' = put_state n ds

  abbrev vs : List Move
  vs = return_moves (moves_of n n')

  is-loadable : Loadable n
  is-loadable = loadable rest frames table S

  -- the questions that are left: 24 and 20
  return-number : return_number (return_case frames table states name space) ≡ cond (named name (states_of states)) (cond (room_for_moves vs space) 0 20) 24
  unfolding return_number return_case first_no moves_of
  return-number = simp (asked frames states S.loads t, asked-16 rest frames table S, S.only, asked-19 rest frames table S)

  answer-is : return_of frames table states name space
      ≡ return_by (return_case frames table states name space) (cond (named name (states_of states)) (cond (room_for_moves vs space) 0 20) 24)
  unfolding return_of return_answer
  answer-is = ap (return_by (return_case frames table states name space)) return-number

  module _ (h : named name (states_of states) ≡ true) where
    pub returned-loadable : Loadable n'
    returned-loadable = return-loadable n states name h t is-loadable

  -- ONE CALL OF RETURN
  pub return-told : ReturnTold rest frames table states name space (return_of frames table states name space)
  unfolding return_by return_case moves_of table_of
  return-told = rw answer-is (go (named name (states_of states)) refl (room_for_moves vs space) refl)
    where
      go : (p : Bool) → named name (states_of states) ≡ p → (q : Bool) → room_for_moves vs space ≡ q
          → ReturnTold rest frames table states name space (return_by (return_case frames table states name space) (cond p (cond q 0 20) 24))
      go false e q f = unknown e (record { number = refl; none = refl; same-frames = refl; same-table = refl; same-space = refl })
      go true e false f = cramped e f (record { number = refl; none = refl; same-frames = refl; same-table = refl; same-space = refl })
      go true e true f =
          done e f
          (record {
            number = refl;
            count = refl;
            text = refl;
            holds = written-map n' (returned-loadable e);
            filled = new-table rest frames table S n' (returned-loadable e) (state-independent n ds ∙ S.only) (state-groups n ds) (state-width n ds);
            written = refl;
          })

  -- what stands after a call
  pub return-stands : (o : EditAnswer) → ReturnTold rest frames table states name space o → Standing rest o.frames o.table
  return-stands o (unknown e r) = rw (r.same-frames, r.same-table) S
  return-stands o (cramped e f r) = rw (r.same-frames, r.same-table) S
  return-stands o (done e f d) =
      done-stands rest frames table S n' (returned-loadable e) (state-independent n ds ∙ S.only) (state-groups n ds) (state-width n ds) o d

  -- and of which drives the map is
  pub return-keeps : (o : EditAnswer) → ReturnTold rest frames table states name space o → numbers (map_of o.frames) ≡ numbers n
  return-keeps o (unknown e r) = rw r.same-frames refl
  return-keeps o (cramped e f r) = rw r.same-frames refl
  return-keeps o (done e f d) = ap numbers d.holds ∙ state-numbers n ds (return-numbers n states name e t)
