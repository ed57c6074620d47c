-- Demand 3 as document 02, change 8, has it, over the contracts of load, fill, edit, store and return: one theorem over every list of edits, stores
-- and returns, refused ones included, from the map, the table and the states as load and fill leave them. And beside it a map with a first-n
-- select, whose every edit and return is refused.
use mathlib.Core.Path.{◌≡◌, refl, sym, ap, subst, ◌∙◌}
use mathlib.Core.Bool.{true, false}
use mathlib.Core.List.{List, [], ◌∷◌, ◌++◌, map}
use Prim.Native.Nat.{ℕ, zero, suc, ◌≤◌}
use native.Mathlib.Omega.{arith}
use lib.ListN.{length, drop, length-append, length-drop}
use Rattle.definitions.specs.Lists.{some_of, over}
use Rattle.definitions.specs.Map.{Map, map_of}
use Rattle.definitions.specs.Table.{table_of}
use Rattle.definitions.specs.Writing.{map_text}
use Rattle.definitions.specs.Load.{load_number}
use Rattle.definitions.specs.States.{words_of, states_of}
use Rattle.definitions.specs.Calls.{independent, LoadAnswer, load_by, load_of, fill_of, edit_of, store_of, return_of}
use Rattle.keeping.specs.States.{emptied, emptied-stated, Stated}
use Rattle.history.proofs.Back.{same-frames-again, same-table-again}
use Rattle.history.specs.Calls.{Call, stores as is_stored, Site, map_at, states_at, left, Comes, Run, none, then, put_all, Stands, Kept}
use Rattle.history.proofs.Calls.{kept}
use Rattle.history.specs.FirstN.{Unaltered}
use Rattle.history.proofs.FirstN.{unaltered}
use Rattle.engine.specs.Calls.{Filling, filling}
use Rattle.demands.proofs.Contracts.{LoadCall, load_frames, load_states, load_answered, load-answers, FillCall, fill_frames, fill_table, fill_answered, EditCall, edit_frames, edit_table, edit_frame, edit_space, edit_answered, StoreCall, store_frames, store_states, store_name, name-most, store_answered, ReturnCall, return_frames, return_table, return_states, return_name, return_space, return_answered, AnyCall, edits, stores, returns, call_of, WriteCall, write_frames, write_space, write_answered}
use Rattle.demands.proofs.RoundTrip.{written_bytes, roomy, write-load}

-- "Its list starts from the map and the table as load and fill leave them.": load was lent these frames, took them and left these states; fill was
-- lent the frames and the table rest, was not refused, and left this table
pub record Start (l : LoadCall) (f : FillCall) (s : Site) (rest : List ℕ) : Type 0 where
  pub lent-load : load_frames l ≡ s.frames
  pub loads : (load_answered l).number ≡ 0
  pub left-states : (load_answered l).states ≡ s.states
  pub lent-fill : fill_frames f ≡ s.frames
  pub lent-table : fill_table f ≡ rest
  pub fills : (fill_answered f).number ≡ 0
  pub left-table : (fill_answered f).table ≡ s.table

-- a call was lent what is there
abbrev pub Lent : Site → AnyCall → Type 0
Lent s (edits c) = (edit_frames c ≡ s.frames) × (edit_table c ≡ s.table)
Lent s (stores c) = (store_frames c ≡ s.frames) × (store_states c ≡ s.states)
Lent s (returns c) = (return_frames c ≡ s.frames) × (return_table c ≡ s.table) × (return_states c ≡ s.states)

-- the calls one after the other, each lent what the one before it left, with any frame, name and space
pub data CallRun : Site → List AnyCall → Site → Type 0 where
  empty : {s : Site} → CallRun s [] s
  next : {s s' : Site} {cs : List AnyCall} (c : AnyCall) → Lent s c → CallRun (left s (call_of c)) cs s' → CallRun s (c ∷ cs) s'

-- ---- the start

-- "Loading another map empties the states"
pub load-emptied : (l : LoadCall) → (load_answered l).number ≡ 0 → (load_answered l).states ≡ over (words_of []) (load_states l)
unfolding load_of load_by
load-emptied l z = ap (λ (o : LoadAnswer). o.states) l.holds ∙ go (load_number (load_frames l)) (sym (load-answers l) ∙ z)
  where
    go : (n : ℕ) → n ≡ 0 → (load_by (map_of (load_frames l)) (load_states l) n).states ≡ over (words_of []) (load_states l)
    go zero e = refl
    go (suc n) e = absurd (omega (arith, e))

load-empties : (l : LoadCall) → (load_answered l).number ≡ 0 → states_of (load_answered l).states ≡ []
load-empties l z = ap states_of (load-emptied l z) ∙ emptied (load_states l)

-- what load's and fill's contracts say of the start
module _ (l : LoadCall) (f : FillCall) (s : Site) (rest : List ℕ) (S : Start l f s rest) where
  start-loads : load_number s.frames ≡ 0
  start-loads = ap load_number (sym S.lent-load) ∙ sym (load-answers l) ∙ S.loads

  start-fills : Filling s.frames rest (fill_answered f)
  start-fills =
      let o : fill_answered f ≡ fill_of (fill_frames f) (fill_table f) = f.holds in
      let a : fill_answered f ≡ fill_of s.frames rest = o ∙ ap (λ (x : List ℕ). fill_of x (fill_table f)) S.lent-fill ∙ ap (fill_of s.frames) S.lent-table in
      filling s.frames rest (fill_answered f) start-loads a S.fills

  start-filled : s.table ≡ over (table_of (map_at s)) rest
  start-filled = sym S.left-table ∙ start-fills.rows

  start-emptied : s.states ≡ over (words_of []) (load_states l)
  start-emptied = sym S.left-states ∙ load-emptied l S.loads

  start-stated : Stated (map_at s) s.states
  start-stated = rw start-emptied (emptied-stated (map_at s) (load_states l))

  pub none-stored : states_at s ≡ []
  none-stored = ap states_of start-emptied ∙ emptied (load_states l)

  pub start-stands : independent (map_at s) ≡ true → Stands rest s
  start-stands i =
      record {
        site = record { loads = start-loads; only = i; room = start-fills.room; filled = start-filled };
        stated = start-stated;
      }

-- ---- the list

-- what each contract says of a call
pub edit-answers : (c : EditCall) (frames table : List ℕ) → edit_frames c ≡ frames → edit_table c ≡ table
    → edit_answered c ≡ edit_of frames table (edit_frame c) (edit_space c)
edit-answers c frames table p q =
    let o : edit_answered c ≡ edit_of (edit_frames c) (edit_table c) (edit_frame c) (edit_space c) = c.holds in
    o
    ∙ ap (λ (x : List ℕ). edit_of x (edit_table c) (edit_frame c) (edit_space c)) p
    ∙ ap (λ (x : List ℕ). edit_of frames x (edit_frame c) (edit_space c)) q

pub call-comes : (s : Site) (c : AnyCall) → Lent s c → Comes s (call_of c)
call-comes s (edits c) (p, q) = edit-answers c s.frames s.table p q
call-comes s (stores c) (p, q) =
    let o : store_answered c ≡ store_of (store_frames c) (store_states c) (store_name c) = c.holds in
    (name-most c, o ∙ ap (λ (x : List ℕ). store_of x (store_states c) (store_name c)) p ∙ ap (λ (x : List ℕ). store_of s.frames x (store_name c)) q)
call-comes s (returns c) (p, q, r) =
    let o : return_answered c ≡ return_of (return_frames c) (return_table c) (return_states c) (return_name c) (return_space c) = c.holds in
    o
    ∙ ap (λ (x : List ℕ). return_of x (return_table c) (return_states c) (return_name c) (return_space c)) p
    ∙ ap (λ (x : List ℕ). return_of s.frames x (return_states c) (return_name c) (return_space c)) q
    ∙ ap (λ (x : List ℕ). return_of s.frames s.table x (return_name c) (return_space c)) r

-- such a list is one by the definition of each call
pub runs : {s s' : Site} {cs : List AnyCall} → CallRun s cs s' → Run s (map call_of cs) s'
runs empty = none
runs {s} (next c p r) = then (call_of c) (call-comes s c p) (runs r)

-- DEMAND 3: "Demand 3 now speaks of every list of edits, stores and returns, refused ones included"
pub demand-3 : (l : LoadCall) (f : FillCall) (cs : List AnyCall) (s : Site) (rest : List ℕ) (s' : Site)
    → Start l f s rest
    → independent (map_at s) ≡ true
    → CallRun s cs s'
    → Kept rest s (map call_of cs) s'
demand-3 l f cs s rest s' S i r = kept rest (start-stands l f s rest S i) (runs r)

-- ---- "Returning to a name gives every drive the weight and acceptance of the moment of storing, brings the table with it"

mapped : (xs ys : List AnyCall) → map call_of (xs ++ ys) ≡ map call_of xs ++ map call_of ys
mapped [] ys = refl
mapped (x ∷ xs) ys = rw (mapped xs ys)

-- BACK AGAIN: the calls earlier left the site t, then c stored under a name, and no good store of that name came behind it. A good return to that
-- name leaves the bytes of the map and of the table that stood at t
pub back-again : (l : LoadCall) (f : FillCall) (earlier later : List AnyCall) (c : StoreCall) (b : ReturnCall) (s : Site) (rest : List ℕ) (t s' : Site)
    → Start l f s rest
    → independent (map_at s) ≡ true
    → CallRun s earlier t
    → CallRun s (earlier ++ (stores c ∷ later)) s'
    → (store_answered c).number ≡ 0
    → some_of (is_stored (store_name c)) (map call_of later) ≡ false
    → Lent s' (returns b)
    → return_name b ≡ store_name c
    → (return_answered b).number ≡ 0
    → ((return_answered b).frames ≡ t.frames) × ((return_answered b).table ≡ t.table)
back-again l f earlier later c b s rest t s' S i p r z h q e g =
    let S' = start-stands l f s rest S i in
    let r' : Run s (map call_of earlier ++ (call_of (stores c) ∷ map call_of later)) s' = subst (λ (cs : List Call). Run s cs s') (mapped earlier (stores c ∷ later)) (runs r) in
    let a : return_answered b ≡ return_of s'.frames s'.table s'.states (store_name c) (return_space b) =
    call-comes s' (returns b) q ∙ ap (λ (n : ℕ). return_of s'.frames s'.table s'.states n (return_space b)) e in (
      same-frames-again rest S' (map call_of earlier) (map call_of later) (store_name c) (store_answered c) (runs p) r' z h (return_space b) (return_answered b) a g,
      same-table-again rest S' (map call_of earlier) (map call_of later) (store_name c) (store_answered c) (runs p) r' z h (return_space b) (return_answered b) a g,
    )

-- ---- "Writing leaves them out, so writing then loading returns the map without them."

-- what write and then load give of the map m that calls have left
pub record Returned (m : Map) (w : WriteCall) (l : LoadCall) : Type 0 where
  pub writes : (write_answered w).number ≡ 0
  pub bytes : written_bytes w ≡ map_text m
  pub loads : (load_answered l).number ≡ 0
  pub holds : map_of (load_frames l) ≡ m
  pub without : states_of (load_answered l).states ≡ []

-- CALLS, WRITE, LOAD: after any list of calls write was lent the map that they left, and space for it, and load what write wrote. Write gives the
-- bytes of the loaded map with the good edits' and returns' values put in and the sums following, and load takes these, reads that map, and no state
-- is stored
pub call-write-load : (l : LoadCall) (f : FillCall) (cs : List AnyCall) (w : WriteCall) (l' : LoadCall) (s : Site) (rest : List ℕ) (s' : Site)
    → Start l f s rest
    → independent (map_at s) ≡ true
    → CallRun s cs s'
    → write_frames w ≡ s'.frames
    → length s'.frames ≤ length (write_space w)
    → load_frames l' ≡ written_bytes w
    → Returned (put_all (map_at s) (states_at s) (map call_of cs)) w l'
call-write-load l f cs w l' s rest s' S i r e h q =
    let k = demand-3 l f cs s rest s' S i r in
    let (z, b) = roomy w (ap load_number e ∙ k.loads) (omega (arith, ap length e, h)) in
    let (n, m) = write-load w l' z q in
    record {
      writes = z;
      bytes = b ∙ e ∙ k.written ∙ ap map_text k.map_is;
      loads = n;
      holds = m ∙ ap map_of e ∙ k.map_is;
      without = load-empties l' n;
    }

-- ---- "Independent selects only (edit)?"

-- a table is no shorter for being written on
over-long : (a rest : List ℕ) → length rest ≤ length (over a rest)
over-long a rest = omega (arith, length-append a (drop (length a) rest), length-drop (length a) rest)

-- a map with a first-n select, from the map, the table and the states as load and fill leave them: every edit and every return is refused by 17, with
-- no moves, and alters nothing; stores are what they are on any map
pub first-n-refused : (l : LoadCall) (f : FillCall) (cs : List AnyCall) (s : Site) (rest : List ℕ) (s' : Site)
    → Start l f s rest
    → independent (map_at s) ≡ false
    → CallRun s cs s'
    → Unaltered s (map call_of cs) s'
first-n-refused l f cs s rest s' S i r =
    let long : length rest ≤ length s.table = omega (arith, ap length (start-filled l f s rest S), over-long (table_of (map_at s)) rest) in
    unaltered
    (record {
      loads = start-loads l f s rest S;
      room = omega (arith, (start-fills l f s rest S).room, long);
      first-n = i;
      stated = start-stated l f s rest S;
    })
    (runs r)
