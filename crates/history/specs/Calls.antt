-- Every list of calls of edit, store and return, by the definition of each, and what demand 3 says of it. (That it is so: `kept` of
-- proofs/Calls.antt.) Assumes nothing.
use Rattle.std.specs.Prelude.{◌≡◌, Bool, ◌&&◌, length, get_or, take, drop}
use Rattle.std.proofs.Common.{arith}
use Rattle.std.proofs.Math.Bool.{true, false}
use mathlib.Core.List.{List, [], ◌∷◌, ◌++◌, Memᴰ}
use Prim.Native.Nat.{ℕ, zero, suc, ◌+◌, ◌*◌, ◌<◌, ◌≤◌}
use Rattle.std.proofs.Math.Dec.{eqb}
use Rattle.definitions.specs.declared.Move.{Move}
use Rattle.definitions.specs.Lists.{some_of, linked, over}
use Rattle.definitions.specs.Map.{Map, map_of}
use Rattle.definitions.specs.Select.{entries_of}
use Rattle.definitions.specs.Rule.{width_of, placed_of}
use Rattle.definitions.specs.Table.{table_of}
use Rattle.definitions.specs.Edit.{change_of, put, moves_of, moves_bytes}
use Rattle.definitions.specs.Writing.{map_text}
use Rattle.definitions.specs.Load.{load_number}
use Rattle.definitions.specs.States.{NamedState, states_of, named, store_in, state_now, devices_named, put_state, return_moves}
use Rattle.definitions.specs.Calls.{fits, EditAnswer, case_of, edit_number, edit_of, StoreAnswer, store_number, store_of, return_case, return_number, return_of}
use Rattle.keeping.specs.States.{Stated}
use Rattle.tracing.specs.Listed.{entry_at}
-- passed on to those who speak of lists of calls, and of `Own`
pub use Rattle.definitions.specs.Calls.{Site}
pub use Rattle.tracing.specs.Moves.{MovesTraced}
use Rattle.tracing.specs.Moves.{move_below}
use Rattle.history.specs.Step.{Standing, Done, Told, unfit, cramped, done}
use Rattle.history.specs.States.{StoreTold, ReturnTold}

-- ---- calls

-- the map of a site, and its states
abbrev pub map_at : Site → Map
map_at s = map_of s.frames

abbrev pub states_at : Site → List NamedState
states_at s = states_of s.states

-- a call: what it was asked, the space that it was lent for moves, and what came back, all that was lent included
pub data Call : Type 0 where
  editing : (edit space : List ℕ) (answer : EditAnswer) → Call
  storing : (name : ℕ) (answer : StoreAnswer) → Call
  returning : (name : ℕ) (space : List ℕ) (answer : EditAnswer) → Call

-- it comes back as the definition says; "the name a 16-bit number"
abbrev pub Comes : Site → Call → Type 0
Comes s (editing edit space o) = o ≡ edit_of s.frames s.table edit space
Comes s (storing name o) = (name ≤ 65535) × (o ≡ store_of s.frames s.states name)
Comes s (returning name space o) = o ≡ return_of s.frames s.table s.states name space

-- what it leaves: an edit and a return are not lent the states to write, a store neither the map nor the table
abbrev pub left : Site → Call → Site
left s (editing edit space o) = record { frames = o.frames; table = o.table; states = s.states }
left s (storing name o) = record { frames = s.frames; table = s.table; states = o.states }
left s (returning name space o) = record { frames = o.frames; table = o.table; states = s.states }

-- the calls one after the other, each lent what the one before it left
pub data Run : Site → List Call → Site → Type 0 where
  none : {s : Site} → Run s [] s
  then : {s s' : Site} {cs : List Call} (c : Call) → Comes s c → Run (left s c) cs s' → Run s (c ∷ cs) s'

-- ---- what a list of calls comes to

-- the first where the call was good, whose number is 0, and else the second
unfoldable pub where_good : {A : Type 0} → ℕ → A → A → A
where_good zero a b = a
where_good (suc n) a b = b

-- "the map is the loaded one with each good edit's and return's values put in": by one call
unfoldable pub map_after : Map → List NamedState → Call → Map
map_after m ss (editing edit space o) = where_good o.number (put m (change_of edit)) m
map_after m ss (storing name o) = m
map_after m ss (returning name space o) = where_good o.number (put_state m (devices_named name ss)) m

-- the states: by a good store the map's drives stand under its name
unfoldable pub states_after : Map → List NamedState → Call → List NamedState
states_after m ss (editing edit space o) = ss
states_after m ss (storing name o) = where_good o.number (store_in (state_now m name) ss) ss
states_after m ss (returning name space o) = ss

-- the moves: between the map before it and the map after it, a return's with cause 04
unfoldable pub moves_after : Map → List NamedState → Call → List Move
moves_after m ss (editing edit space o) = where_good o.number (moves_of m (put m (change_of edit))) []
moves_after m ss (storing name o) = []
moves_after m ss (returning name space o) = where_good o.number (return_moves (moves_of m (put_state m (devices_named name ss)))) []

-- ".., in order": by all calls
unfoldable pub put_all : Map → List NamedState → List Call → Map
put_all m ss [] = m
put_all m ss (c ∷ cs) = put_all (map_after m ss c) (states_after m ss c) cs

unfoldable pub store_all : Map → List NamedState → List Call → List NamedState
store_all m ss [] = ss
store_all m ss (c ∷ cs) = store_all (map_after m ss c) (states_after m ss c) cs

-- a call is a good store under this name
unfoldable pub stores : ℕ → Call → Bool
stores n (editing edit space o) = false
stores n (storing name o) = eqb name n && eqb o.number 0
stores n (returning name space o) = false

-- the space that a call was lent for moves, what it left there, and the moves that it counts
abbrev pub space_of : Call → List ℕ
space_of (editing edit space o) = space
space_of (storing name o) = []
space_of (returning name space o) = space

abbrev pub space_left : Call → List ℕ
space_left (editing edit space o) = o.space
space_left (storing name o) = []
space_left (returning name space o) = o.space

abbrev pub count_of : Call → ℕ
count_of (editing edit space o) = o.moves
count_of (storing name o) = 0
count_of (returning name space o) = o.moves

-- ---- places that differ

-- the entry of place j, from 0, of group g in a table of this map
abbrev pub entry_in : Map → List ℕ → ℕ → ℕ → ℕ
entry_in m table g j = get_or table (g * width_of m + j) 0

-- v is the move of place j of group g from entry a to entry b
pub record MoveOf (v : Move) (g j a b : ℕ) : Type 0 where
  pub group : v.group ≡ g
  pub place : v.place ≡ j + 1
  pub old : v.old ≡ a
  pub new : v.new ≡ b

-- "A good edit has one move for each place whose entry differs between the table before it and the table after it, those two entries being
-- old and new, and none for any other place."; a return "reports each place that differs, and no other"
pub record Differing (m : Map) (before after : List ℕ) (moves : List Move) : Type 0 where
  pub all : (g j : ℕ) → g < m.groups → j < width_of m → (entry_in m before g j ≡ entry_in m after g j → ⊥)
      → (v : Move) × Memᴰ v moves × MoveOf v g j (entry_in m before g j) (entry_in m after g j)
  pub one : (u v : Move) → Memᴰ u moves → Memᴰ v moves → u.group ≡ v.group → u.place ≡ v.place → u ≡ v
  pub none : (g j : ℕ) → g < m.groups → j < width_of m → entry_in m before g j ≡ entry_in m after g j
      → (v : Move) → Memᴰ v moves → v.group ≡ g → v.place ≡ j + 1 → ⊥
  pub each : (v : Move) → Memᴰ v moves
      → (g : ℕ) × (j : ℕ) × (g < m.groups) × (j < width_of m) × MoveOf v g j (entry_in m before g j) (entry_in m after g j)

-- ---- what demand 3 says

-- of a call of edit: its number is that of the first question answered no; it is refused exactly where a question is answered no, and then
-- alters nothing; and the cause of each move of a good one is traced
pub record Edits (rest : List ℕ) (s : Site) (edit space : List ℕ) (o : EditAnswer) : Type 0 where
  pub number : o.number ≡ edit_number (case_of s.frames s.table edit space)
  pub told : Told rest s.frames s.table edit space o
  pub traced : o.number ≡ 0 → MovesTraced (map_at s) (change_of edit) (moves_of (map_at s) (put (map_at s) (change_of edit)))

-- of a call of store: it is refused exactly where the name is a ninth, with 25, and then alters nothing
pub record Stores (s : Site) (name : ℕ) (o : StoreAnswer) : Type 0 where
  pub number : o.number ≡ store_number s.frames s.states name
  pub told : StoreTold s.frames s.states name o

-- of a call of return: it is refused exactly where the name is not stored, with 24, or the space is too small, and then alters nothing; and each
-- move has cause 04
pub record Returns (rest : List ℕ) (s : Site) (name : ℕ) (space : List ℕ) (o : EditAnswer) : Type 0 where
  pub number : o.number ≡ return_number (return_case s.frames s.table s.states name space)
  pub told : ReturnTold rest s.frames s.table s.states name space o
  pub causes : (v : Move) → Memᴰ v (return_moves (moves_of (map_at s) (put_state (map_at s) (devices_named name (states_at s))))) → v.cause ≡ 4

abbrev pub Own : List ℕ → Site → Call → Type 0
Own rest s (editing edit space o) = Edits rest s edit space o
Own rest s (storing name o) = Stores s name o
Own rest s (returning name space o) = Returns rest s name space o

-- of every call that was lent what this site has
pub record Answered (rest : List ℕ) (s : Site) (c : Call) : Type 0 where
  pub own : Own rest s c
  -- the moves are what it wrote over the front of its space, and as many as it counts, in rising group and then place; of a refused call none
  pub wrote : space_left c ≡ over (moves_bytes (moves_after (map_at s) (states_at s) c)) (space_of c)
  pub counted : count_of c ≡ length (moves_after (map_at s) (states_at s) c)
  pub rising : linked move_below (moves_after (map_at s) (states_at s) c) ≡ true
  -- and they are the places that differ between the table before it and the table after it
  pub differ : Differing (map_at s) s.table (left s c).table (moves_after (map_at s) (states_at s) c)
  -- the entries of these tables are those of the fresh fills of the map before it and of the map after it
  pub before : (g j : ℕ) → g < (map_at s).groups → j < width_of (map_at s) → entry_in (map_at s) s.table g j ≡ entry_at (map_at s) g j
  pub after : (g j : ℕ) → g < (map_at (left s c)).groups → j < width_of (map_at (left s c))
      → entry_in (map_at (left s c)) (left s c).table g j ≡ entry_at (map_at (left s c)) g j

-- each call of a list, lent what the one before it left
pub data Each (rest : List ℕ) : Site → List Call → Type 0 where
  none : {s : Site} → Each rest s []
  and : {s : Site} {c : Call} {cs : List Call} → Answered rest s c → Each rest (left s c) cs → Each rest s (c ∷ cs)

-- "each state what stood when its name was last stored"
pub record Remembered (s : Site) (cs : List Call) (s' : Site) : Type 0 where
  -- after the last good store of a name its state has the drives of the map that stood then, with the weights and the acceptances that they had
  pub stood : (earlier later : List Call) (name : ℕ) (o : StoreAnswer) (then-site : Site) → cs ≡ earlier ++ (storing name o ∷ later)
      → Run s earlier then-site → o.number ≡ 0 → some_of (stores name) later ≡ false
      → (named name (states_at s') ≡ true) × (devices_named name (states_at s') ≡ (map_at then-site).devices)
  -- and a name under which none was stored has the state that it had, or none
  pub unstored : (name : ℕ) → some_of (stores name) cs ≡ false
      → (named name (states_at s') ≡ named name (states_at s)) × (devices_named name (states_at s') ≡ devices_named name (states_at s))

-- of a list of calls from one site to another; rest is what fill was lent
pub record Kept (rest : List ℕ) (s : Site) (cs : List Call) (s' : Site) : Type 0 where
  -- the map is the loaded one with the good edits' and returns' values put in, in order; it loads, and its bytes are its frames
  pub map_is : map_at s' ≡ put_all (map_at s) (states_at s) cs
  pub loads : load_number s'.frames ≡ 0
  pub written : s'.frames ≡ map_text (map_at s')
  -- the table is its fresh fill, each row the list of its group, and beyond G × W it is as fill was lent it
  pub filled : s'.table ≡ over (table_of (map_at s')) rest
  pub rows : (g : ℕ) → g < (map_at s').groups
      → take (width_of (map_at s')) (drop (g * width_of (map_at s')) s'.table) ≡ entries_of (placed_of (map_at s') g).places
  -- question 14 is answered yes of the states, so names are all different
  pub stated : Stated (map_at s') s'.states
  -- "each state what stood when its name was last stored"
  pub remembered : Remembered s cs s'
  pub each : Each rest s cs

-- ---- one call

-- a good edit is done
pub told-done : (rest frames table edit space : List ℕ) (o : EditAnswer) → Told rest frames table edit space o → o.number ≡ 0
    → (fits (map_of frames) (change_of edit) ≡ true)
    × Done rest (put (map_of frames) (change_of edit)) (moves_of (map_of frames) (put (map_of frames) (change_of edit))) space o
told-done rest frames table edit space o (unfit e r) z = absurd (omega (arith, r.number, z))
told-done rest frames table edit space o (cramped e f r) z = absurd (omega (arith, r.number, z))
told-done rest frames table edit space o (done e f d) z = (e, d)

-- what stands between two calls
pub record Stands (rest : List ℕ) (s : Site) : Type 0 where
  pub site : Standing rest s.frames s.table
  pub stated : Stated (map_at s) s.states
