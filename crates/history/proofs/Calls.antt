-- Every list of calls of edit, store and return keeps what `Kept` of specs/Calls.antt says: demand 3. Assumes nothing.
use Rattle.std.specs.Prelude.{◌≡◌, Bool, ◌&&◌, ◌||◌, length, get_or, take, drop, Option}
use Rattle.std.proofs.Math.Path.{refl, ap₂}
use Rattle.std.proofs.Common.{sym, ap, ◌∙◌, arith, mul-le-mul_right}
use Rattle.std.proofs.Math.Bool.{true, false}
use Rattle.std.proofs.lemmas.Bool.{false≢true}
use mathlib.Core.List.{List, [], ◌∷◌, ◌++◌, Memᴰ}
use Prim.Native.Nat.{ℕ, zero, suc, ◌+◌, ◌*◌, ◌<◌, ◌≤◌}
use Rattle.std.proofs.Math.Dec.{eqb}
use Rattle.std.proofs.Math.ListN.{get_or-append}
use borrow.Author.Tests.{eq-eqb}
use Rattle.definitions.specs.declared.Change.{Change}
use Rattle.definitions.specs.declared.Device.{Device}
use Rattle.definitions.specs.declared.Move.{Move}
use Rattle.definitions.specs.Lists.{some_of, linked, over}
use Rattle.definitions.specs.Frames.{bytes_of}
use Rattle.definitions.specs.Map.{Map, map_of}
use Rattle.definitions.specs.Select.{entries_of}
use Rattle.definitions.specs.Rule.{width_of, placed_of}
use Rattle.definitions.specs.Table.{runs_of, row_in, table_of}
use Rattle.definitions.specs.Edit.{change_of, put, moves_of, moves_bytes}
use Rattle.definitions.specs.Load.{load_number}
use Rattle.definitions.specs.States.{NamedState, states_of, named, store_in, state_now, devices_named, put_state, return_moves}
use Rattle.definitions.specs.Calls.{fits, EditAnswer, EditCase, case_of, edit_number, edit_by, edit_answer, edit_of, StoreAnswer, store_number, store_by, store_of, ReturnCase, return_case, return_number, return_by, return_answer, return_of}
use Rattle.laws.specs.Loadable.{Loadable, numbers, put-groups, put-width, put-numbers}
use Rattle.keeping.specs.Returned.{state-groups, state-width, state-independent}
use Rattle.keeping.specs.States.{kept-stated, Stated, store-named, store-devices, stored-states, return-loadable}
use Rattle.tracing.specs.Listed.{entry_at, table-width}
use Rattle.tracing.specs.Moves.{move_below}
use Rattle.tracing.proofs.Moves.{moves-traced}
use Rattle.history.specs.Returns.{MovesBetween, traced-between, moves-between, returned-cause, returned-between}
use Rattle.ceiling.specs.Rows.{row_at, front-row}
use Rattle.text.specs.Agreement.{loaded-map, loaded-text}
use Rattle.history.specs.Step.{Standing, Refused, Done, Told, unfit, cramped, done, step-told, step-stands}
use Rattle.history.specs.States.{StoreTold, ninth, store_told, store-stated, ReturnTold, unknown, return-told, return-stands, return-keeps}
use Rattle.history.specs.States as states
use Rattle.history.specs.Calls.{Call, editing, storing, returning, Comes, left, Run, none, then, map_at, states_at, where_good, map_after, states_after, moves_after, put_all, store_all, stores, entry_in, MoveOf, Differing, Edits, Stores, Returns, Answered, Each, and, Remembered, Kept, told-done, Stands, Site, MovesTraced}

-- ---- tables

-- an entry of a table that is a fresh fill
entry-is : (rest frames table : List ℕ) → Standing rest frames table → (g j : ℕ) → g < (map_of frames).groups → j < width_of (map_of frames)
    → get_or table (g * width_of (map_of frames) + j) 0 ≡ entry_at (map_of frames) g j
unfolding entry_at table_of runs_of
entry-is rest frames table S g j h l =
    let m = map_of frames in
    let w = table-width m (loaded-map frames S.loads) S.only m.groups in
    ap (λ (t : List ℕ). get_or t (g * width_of m + j) 0) S.filled
    ∙ get_or-append (table_of m) (drop (length (table_of m)) rest) 0 (g * width_of m + j) (omega (arith, w, mul-le-mul_right (width_of m) h))

row_is : (rest frames table : List ℕ) → Standing rest frames table → (g : ℕ) → g < (map_of frames).groups
    → take (width_of (map_of frames)) (drop (g * width_of (map_of frames)) table) ≡ entries_of (placed_of (map_of frames) g).places
unfolding row_in
row_is rest frames table S g h =
    let m = map_of frames in
    ap (λ (t : List ℕ). row_at (width_of m) t g) S.filled ∙ front-row m (loaded-map frames S.loads) S.only (drop (length (table_of m)) rest) g h

-- moves between two maps, told of two tables that hold the entries of these
module _ (m m' : Map) (before after : List ℕ) (moves : List Move) (t : MovesBetween m m' moves)
    (b : (g j : ℕ) → g < m.groups → j < width_of m → entry_in m before g j ≡ entry_at m g j)
    (a : (g j : ℕ) → g < m.groups → j < width_of m → entry_in m after g j ≡ entry_at m' g j) where
  each-move : (v : Move) → Memᴰ v moves
      → (g : ℕ) × (j : ℕ) × (g < m.groups) × (j < width_of m) × MoveOf v g j (entry_in m before g j) (entry_in m after g j)
  each-move v i =
      let d = t.each v i in (
        v.group,
        d.index,
        d.group,
        d.within,
        record {
          group = refl;
          place = d.place;
          old = d.old ∙ sym (b v.group d.index d.group d.within);
          new = d.new ∙ sym (a v.group d.index d.group d.within);
        },
      )

  -- the entries at a move's own place
  at_place : (v : Move) → Memᴰ v moves → (g j : ℕ) → v.group ≡ g → v.place ≡ j + 1 → MoveOf v g j (entry_in m before g j) (entry_in m after g j)
  at_place v i g j p q =
      let (g', j', h, l, e) = each-move v i in
      let s : g' ≡ g = sym e.group ∙ p in
      let r : j' ≡ j = omega (arith, e.place, q) in
      record {
        group = p;
        place = q;
        old = e.old ∙ ap₂ (entry_in m before) s r;
        new = e.new ∙ ap₂ (entry_in m after) s r;
      }

  differing : Differing m before after moves
  differing =
      record {
        all = λ g j h l d.
            let (v, i, p, q) = t.all g j h l (λ e. d (b g j h l ∙ e ∙ sym (a g j h l))) in
            (v, i, at_place v i g j p q);
        one = t.one;
        none = λ g j h l e v i p q.
            let o = at_place v i g j p q in
            (t.each v i).differ (o.old ∙ e ∙ sym o.new);
        each = each-move;
      }

-- a table that is left as it was has no move
unmoved : (m : Map) (before after : List ℕ) → after ≡ before → Differing m before after []
unmoved m before after e =
    record {
      all = λ g j h l d. absurd (d (ap (λ (t : List ℕ). entry_in m t g j) (sym e)));
      one = λ u v i. elim i [ ];
      none = λ g j h l f v i. elim i [ ];
      each = λ v i. elim i [ ];
    }

-- ---- a call that was lent the map and the table to write: an edit or a return

-- it was refused, or made: the map m', and the moves to it
data Outcome (rest frames table : List ℕ) (m' : Map) (moves : List Move) (space : List ℕ) (o : EditAnswer) : Type 0 where
  refused : (k : ℕ) → Refused (suc k) frames table space o → Outcome rest frames table m' moves space o
  made : Done rest m' moves space o → MovesBetween (map_of frames) m' moves → m'.groups ≡ (map_of frames).groups → width_of m' ≡ width_of (map_of frames)
      → Outcome rest frames table m' moves space o

-- what is then so of its moves, of the tables and of the map
record Settled (frames table : List ℕ) (m' : Map) (moves : List Move) (space : List ℕ) (o : EditAnswer) : Type 0 where
  wrote : o.space ≡ over (moves_bytes (where_good o.number moves [])) space
  counted : o.moves ≡ length (where_good o.number moves [])
  rising : linked move_below (where_good o.number moves []) ≡ true
  differ : Differing (map_of frames) table o.table (where_good o.number moves [])
  holds : map_of o.frames ≡ where_good o.number m' (map_of frames)

settled : (rest frames table : List ℕ) (m' : Map) (moves : List Move) (space : List ℕ) (o : EditAnswer) → Standing rest frames table
    → Standing rest o.frames o.table → Outcome rest frames table m' moves space o → Settled frames table m' moves space o
unfolding where_good linked moves_bytes bytes_of
settled rest frames table m' moves space o S S' (refused k r) =
    record {
      wrote = rw r.number r.same-space;
      counted = rw r.number r.none;
      rising = rw r.number refl;
      differ = rw r.number (unmoved (map_of frames) table o.table r.same-table);
      holds = rw r.number (ap map_of r.same-frames);
    }
settled rest frames table m' moves space o S S' (made d b p q) =
    let e : (g j : ℕ) → g < (map_of frames).groups → j < width_of (map_of frames) → entry_in (map_of frames) o.table g j ≡ entry_at m' g j =
    λ g j h l.
    ap (λ (w : ℕ). get_or o.table (g * w + j) 0) (sym q ∙ ap width_of (sym d.holds))
    ∙ entry-is rest o.frames o.table S' g j (omega (arith, ap (λ (n : Map). n.groups) d.holds, p)) (omega (arith, ap width_of d.holds, q))
    ∙ ap (λ (n : Map). entry_at n g j) d.holds in
    record {
      wrote = rw d.number d.written;
      counted = rw d.number d.count;
      rising = rw d.number b.rising;
      differ = rw d.number (differing (map_of frames) m' table o.table moves b (entry-is rest frames table S) e);
      holds = rw d.number d.holds;
    }

-- ---- one call

-- a number that decides an answer is its number
edit-by : (e : EditCase) (n : ℕ) → (edit_by e n).number ≡ n
unfolding edit_by
edit-by e zero = refl
edit-by e (suc n) = refl

store_by_lem : (m : Map) (ws : List ℕ) (name n : ℕ) → (store_by m ws name n).number ≡ n
unfolding store_by
store_by_lem m ws name zero = refl
store_by_lem m ws name (suc n) = refl

return-by : (e : ReturnCase) (n : ℕ) → (return_by e n).number ≡ n
unfolding return_by
return-by e zero = refl
return-by e (suc n) = refl

edit-number-is : (frames table edit space : List ℕ) → (edit_of frames table edit space).number ≡ edit_number (case_of frames table edit space)
unfolding edit_of edit_answer
edit-number-is frames table edit space = edit-by (case_of frames table edit space) (edit_number (case_of frames table edit space))

store-number-is : (frames ws : List ℕ) (name : ℕ) → (store_of frames ws name).number ≡ store_number frames ws name
unfolding store_of
store-number-is frames ws name = store_by_lem (map_of frames) ws name (store_number frames ws name)

return-number-is : (frames table ws : List ℕ) (name : ℕ) (space : List ℕ)
    → (return_of frames table ws name space).number ≡ return_number (return_case frames table ws name space)
unfolding return_of return_answer
return-number-is frames table ws name space = return-by (return_case frames table ws name space) (return_number (return_case frames table ws name space))

-- a store, of any map that load takes
module _ (s : Site) (l : load_number s.frames ≡ 0) (t : Stated (map_at s) s.states) (name : ℕ) (o : StoreAnswer) (e : o ≡ store_of s.frames s.states name) where
  pub told-store : StoreTold s.frames s.states name o
  told-store = rw e (store_told s.frames s.states name l t)

  pub store-after : name ≤ 65535 → StoreTold s.frames s.states name o
      → states_of o.states ≡ where_good o.number (store_in (state_now (map_at s) name) (states_at s)) (states_at s)
  unfolding where_good
  store-after h (ninth a n q) = rw (n, q)
  store-after h (states.done a n q) = rw (n, q) (stored-states (map_at s) s.states name (loaded-map s.frames l) h t)

  pub stores-it : Stores s name o
  stores-it =
      record {
        number = ap (λ (a : StoreAnswer). a.number) e ∙ store-number-is s.frames s.states name;
        told = told-store;
      }

module _ (rest : List ℕ) (s : Site) (S : Stands rest s) where
  abbrev m : Map
  m = map_at s

  abbrev ss : List NamedState
  ss = states_at s

  L : Loadable m
  L = loaded-map s.frames S.site.loads

  -- an edit
  module _ (edit space : List ℕ) (o : EditAnswer) (e : o ≡ edit_of s.frames s.table edit space) where
    abbrev c : Option Change
    c = change_of edit

    edit-told : Told rest s.frames s.table edit space o
    edit-told = rw e (step-told rest s.frames s.table edit space S.site)

    edit-traced : fits m c ≡ true → MovesTraced m c (moves_of m (put m c))
    edit-traced f = moves-traced m c L S.site.only f

    edit-stands : Standing rest o.frames o.table
    edit-stands = step-stands rest s.frames s.table edit space S.site o edit-told

    edit-outcome : Told rest s.frames s.table edit space o → Outcome rest s.frames s.table (put m c) (moves_of m (put m c)) space o
    edit-outcome (unfit a r) = refused 17 r
    edit-outcome (cramped a f r) = refused 19 r
    edit-outcome (done a f d) = made d (traced-between m c (moves_of m (put m c)) (edit-traced a)) (put-groups m c) (put-width m c)

    edit-settled : Settled s.frames s.table (put m c) (moves_of m (put m c)) space o
    edit-settled = settled rest s.frames s.table (put m c) (moves_of m (put m c)) space o S.site edit-stands (edit-outcome edit-told)

    edit-keeps : Told rest s.frames s.table edit space o → numbers m ≡ numbers (map_of o.frames)
    edit-keeps (unfit a r) = rw r.same-frames refl
    edit-keeps (cramped a f r) = rw r.same-frames refl
    edit-keeps (done a f d) = sym (ap numbers d.holds ∙ put-numbers m c)

    edits : Edits rest s edit space o
    edits =
        record {
          number = ap (λ (a : EditAnswer). a.number) e ∙ edit-number-is s.frames s.table edit space;
          told = edit-told;
          traced = λ z. edit-traced (told-done rest s.frames s.table edit space o edit-told z).0;
        }

  -- a return
  module _ (name : ℕ) (space : List ℕ) (o : EditAnswer) (e : o ≡ return_of s.frames s.table s.states name space) where
    abbrev ds : List Device
    ds = devices_named name ss

    abbrev vs : List Move
    vs = return_moves (moves_of m (put_state m ds))

    told-return : ReturnTold rest s.frames s.table s.states name space o
    told-return = rw e (return-told rest s.frames s.table s.states name space S.site S.stated)

    stands-return : Standing rest o.frames o.table
    stands-return = return-stands rest s.frames s.table s.states name space S.site S.stated o told-return

    return-outcome : ReturnTold rest s.frames s.table s.states name space o → Outcome rest s.frames s.table (put_state m ds) vs space o
    return-outcome (unknown a r) = refused 23 r
    return-outcome (states.cramped a f r) = refused 19 r
    return-outcome (states.done a f d) =
        made d
        (returned-between m (put_state m ds) (moves_of m (put_state m ds))
        (moves-between m (put_state m ds) L (return-loadable m s.states name a S.stated L) S.site.only (state-independent m ds ∙ S.site.only) (state-groups m ds) (state-width m ds)))
        (state-groups m ds) (state-width m ds)

    return-settled : Settled s.frames s.table (put_state m ds) vs space o
    return-settled = settled rest s.frames s.table (put_state m ds) vs space o S.site stands-return (return-outcome told-return)

    returns : Returns rest s name space o
    returns =
        record {
          number = ap (λ (a : EditAnswer). a.number) e ∙ return-number-is s.frames s.table s.states name space;
          told = told-return;
          causes = returned-cause (moves_of m (put_state m ds));
        }

  -- what stands after a call
  pub stands_after : (c : Call) → Comes s c → Stands rest (left s c)
  stands_after (editing edit space o) e =
      record {
        site = edit-stands edit space o e;
        stated = kept-stated m (map_of o.frames) s.states (edit-keeps edit space o e (edit-told edit space o e)) S.stated;
      }
  stands_after (storing name o) (h, e) =
      record {
        site = S.site;
        stated = store-stated s.frames s.states name S.site.loads S.stated h o (told-store s S.site.loads S.stated name o e);
      }
  stands_after (returning name space o) e =
      record {
        site = stands-return name space o e;
        stated =
            kept-stated m (map_of o.frames) s.states
            (sym (return-keeps rest s.frames s.table s.states name space S.site S.stated o (told-return name space o e))) S.stated;
      }

  -- the map and the states after it
  map-after : (c : Call) → Comes s c → map_at (left s c) ≡ map_after m ss c
  unfolding map_after
  map-after (editing edit space o) e = (edit-settled edit space o e).holds
  map-after (storing name o) e = refl
  map-after (returning name space o) e = (return-settled name space o e).holds

  states-after : (c : Call) → Comes s c → states_at (left s c) ≡ states_after m ss c
  unfolding states_after
  states-after (editing edit space o) e = refl
  states-after (storing name o) (h, e) = store-after s S.site.loads S.stated name o e h (told-store s S.site.loads S.stated name o e)
  states-after (returning name space o) e = refl

  -- ONE CALL
  answered : (c : Call) → Comes s c → Answered rest s c
  unfolding moves_after linked moves_bytes bytes_of
  answered (editing edit space o) e =
      let t = edit-settled edit space o e in
      record {
        own = edits edit space o e;
        wrote = t.wrote;
        counted = t.counted;
        rising = t.rising;
        differ = t.differ;
        before = entry-is rest s.frames s.table S.site;
        after = entry-is rest o.frames o.table (edit-stands edit space o e);
      }
  answered (storing name o) (h, e) =
      record {
        own = stores-it s S.site.loads S.stated name o e;
        wrote = refl;
        counted = refl;
        rising = refl;
        differ = unmoved m s.table s.table refl;
        before = entry-is rest s.frames s.table S.site;
        after = entry-is rest s.frames s.table S.site;
      }
  answered (returning name space o) e =
      let t = return-settled name space o e in
      record {
        own = returns name space o e;
        wrote = t.wrote;
        counted = t.counted;
        rising = t.rising;
        differ = t.differ;
        before = entry-is rest s.frames s.table S.site;
        after = entry-is rest o.frames o.table (stands-return name space o e);
      }

-- ---- every list of calls

-- calls of two lists, one after the other
more-states : (m : Map) (ss : List NamedState) (cs ds : List Call) → store_all m ss (cs ++ ds) ≡ store_all (put_all m ss cs) (store_all m ss cs) ds
unfolding put_all store_all
more-states m ss [] ds = refl
more-states m ss (c ∷ cs) ds = more-states (map_after m ss c) (states_after m ss c) cs ds

-- the state of a name stays where no call stores under it
module _ (name : ℕ) where
  abbrev Same : List NamedState → List NamedState → Type 0
  Same ss ts = (named name ts ≡ named name ss) × (devices_named name ts ≡ devices_named name ss)

  store_other : (m : Map) (ss : List NamedState) (n k : ℕ) → eqb n name && eqb k 0 ≡ false → Same ss (where_good k (store_in (state_now m n) ss) ss)
  unfolding where_good
  store_other m ss n zero h =
      let e : eqb n name ≡ false = go (eqb n name) h in
      (rw (store-named (state_now m n) name ss, e) refl, rw (store-devices (state_now m n) name ss, e) refl)
    where
      go : (b : Bool) → b && true ≡ false → b ≡ false
      go true q = q
      go false q = refl
  store_other m ss n (suc k) h = (refl, refl)

  same_after : (m : Map) (ss : List NamedState) (c : Call) → stores name c ≡ false → Same ss (states_after m ss c)
  unfolding stores states_after
  same_after m ss (editing edit space o) h = (refl, refl)
  same_after m ss (storing n o) h = store_other m ss n o.number h
  same_after m ss (returning n space o) h = (refl, refl)

  neither : (a b : Bool) → (a || b) ≡ false → (a ≡ false) × (b ≡ false)
  neither true b q = absurd (false≢true (sym q))
  neither false b q = (refl, q)

  same-all : (m : Map) (ss : List NamedState) (cs : List Call) → some_of (stores name) cs ≡ false → Same ss (store_all m ss cs)
  unfolding store_all some_of
  same-all m ss [] h = (refl, refl)
  same-all m ss (c ∷ cs) h =
      let (p, q) = neither (stores name c) (some_of (stores name) cs) h in
      let (a, b) = same_after m ss c p in
      let (a', b') = same-all (map_after m ss c) (states_after m ss c) cs q in
      (a' ∙ a, b' ∙ b)

  -- a good store, and none behind it: the state is what stood there
  stood-all : (m : Map) (ss : List NamedState) (o : StoreAnswer) (later : List Call) → o.number ≡ 0 → some_of (stores name) later ≡ false
      → (named name (store_all m ss (storing name o ∷ later)) ≡ true) × (devices_named name (store_all m ss (storing name o ∷ later)) ≡ m.devices)
  unfolding store_all map_after states_after where_good
  stood-all m ss o later z h =
      let (a, b) = same-all m (store_in (state_now m name) ss) later h in
      let e = eq-eqb name name refl in
      rw z
      (a ∙ store-named (state_now m name) name ss ∙ rw e refl, b ∙ store-devices (state_now m name) name ss ∙ rw e refl)

-- what each call keeps, a list of calls keeps, where each leaves the map and the states that it should
module _ (Kind : Site → Type 0) (on : (s : Site) → Kind s → (c : Call) → Comes s c → Kind (left s c))
    (maps : (s : Site) → Kind s → (c : Call) → Comes s c → map_at (left s c) ≡ map_after (map_at s) (states_at s) c)
    (saves : (s : Site) → Kind s → (c : Call) → Comes s c → states_at (left s c) ≡ states_after (map_at s) (states_at s) c) where
  pub keeps : {s s' : Site} {cs : List Call} → Kind s → Run s cs s' → Kind s'
  keeps S none = S
  keeps {s} S (then c e r) = keeps (on s S c e) r

  -- its map and its states
  pub comes-to : {s s' : Site} {cs : List Call} → Kind s → Run s cs s'
      → (map_at s' ≡ put_all (map_at s) (states_at s) cs) × (states_at s' ≡ store_all (map_at s) (states_at s) cs)
  unfolding put_all store_all
  comes-to S none = (refl, refl)
  comes-to {s} S (then {cs} c e r) =
      let (p, q) = comes-to (on s S c e) r in
      let a = maps s S c e in
      let b = saves s S c e in
      (p ∙ ap₂ (λ (m : Map) (ss : List NamedState). put_all m ss cs) a b, q ∙ ap₂ (λ (m : Map) (ss : List NamedState). store_all m ss cs) a b)

  pub remembers : {s s' : Site} {cs : List Call} → Kind s → Run s cs s' → Remembered s cs s'
  remembers {s} {s'} {cs} S r =
      let q = (comes-to S r).1 in
      record {
        stood = λ earlier later name o t e r' z h.
            let (a, b) = stood-all name (put_all (map_at s) (states_at s) earlier) (store_all (map_at s) (states_at s) earlier) o later z h in
            let f : states_at s' ≡ store_all (put_all (map_at s) (states_at s) earlier) (store_all (map_at s) (states_at s) earlier) (storing name o ∷ later) =
            q ∙ ap (store_all (map_at s) (states_at s)) e ∙ more-states (map_at s) (states_at s) earlier (storing name o ∷ later) in
            (ap (named name) f ∙ a, ap (devices_named name) f ∙ b ∙ ap (λ (m : Map). m.devices) (sym (comes-to S r').0));
        unstored = λ name h.
            let (a, b) = same-all name (map_at s) (states_at s) cs h in
            (ap (named name) q ∙ a, ap (devices_named name) q ∙ b);
      }

-- what a list leaves stands as what it was lent
pub stands-all : (rest : List ℕ) {s s' : Site} {cs : List Call} → Stands rest s → Run s cs s' → Stands rest s'
stands-all rest S r = keeps (Stands rest) (stands_after rest) (map-after rest) (states-after rest) S r

each-answered : (rest : List ℕ) {s s' : Site} {cs : List Call} → Stands rest s → Run s cs s' → Each rest s cs
each-answered rest S none = none
each-answered rest {s} S (then c e r) = and (answered rest s S c e) (each-answered rest (stands_after rest s S c e) r)

-- DEMAND 3 of every list of calls
pub kept : (rest : List ℕ) {s s' : Site} {cs : List Call} → Stands rest s → Run s cs s' → Kept rest s cs s'
kept rest {s} {s'} S r =
    let S' = stands-all rest S r in
    record {
      map_is = (comes-to (Stands rest) (stands_after rest) (map-after rest) (states-after rest) S r).0;
      loads = S'.site.loads;
      written = sym (loaded-text s'.frames S'.site.loads);
      filled = S'.site.filled;
      rows = row_is rest s'.frames s'.table S'.site;
      stated = S'.stated;
      remembered = remembers (Stands rest) (stands_after rest) (map-after rest) (states-after rest) S r;
      each = each-answered rest S r;
    }
