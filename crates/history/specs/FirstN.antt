-- Lists of calls on a map with a first-n select: every edit and every return is refused by 17 and alters nothing, and stores are what they are on
-- any map. (That it is so: `unaltered` of proofs/FirstN.antt.) Assumes nothing.
use Rattle.std.specs.Prelude.{◌≡◌, false, List, [], ◌∷◌, ◌*◌, ◌≤◌, length}
use Rattle.definitions.specs.Rule.{width_of}
use Rattle.definitions.specs.Load.{load_number}
use Rattle.definitions.specs.Calls.{independent}
use Rattle.keeping.specs.States.{Stated}
use Rattle.history.specs.Step.{Refused}
use Rattle.history.specs.Calls.{Site, map_at, Call, editing, storing, returning, left, Stores, Remembered}

-- a map with a first-n select, a table with room for it, and states that question 14 takes
pub record Fixed (s : Site) : Type 0 where
  pub loads : load_number s.frames ≡ 0
  pub room : (map_at s).groups * width_of (map_at s) ≤ length s.table
  pub first-n : independent (map_at s) ≡ false
  pub stated : Stated (map_at s) s.states

-- an edit and a return are refused by 17, and alter nothing; a store is told as on any map
abbrev pub Refuses : Site → Call → Type 0
Refuses s (editing edit space o) = Refused 17 s.frames s.table space o
Refuses s (storing name o) = Stores s name o
Refuses s (returning name space o) = Refused 17 s.frames s.table space o

pub data EachRefused : Site → List Call → Type 0 where
  nothing : {s : Site} → EachRefused s []
  and : {s : Site} {c : Call} {cs : List Call} → Refuses s c → EachRefused (left s c) cs → EachRefused s (c ∷ cs)

-- what holds of a list of calls
pub record Unaltered (s : Site) (cs : List Call) (s' : Site) : Type 0 where
  pub same-frames : s'.frames ≡ s.frames
  pub same-table : s'.table ≡ s.table
  pub stated : Stated (map_at s') s'.states
  pub remembered : Remembered s cs s'
  pub each : EachRefused s cs
