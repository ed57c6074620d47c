-- What a call knows behind its first questions. Assumes nothing.
use Rattle.std.specs.Prelude.{◌≡◌, true, List, ℕ, ◌*◌, ◌≤◌, length, MatchResult}
use Rattle.std.proofs.Common.{arith}
use Rattle.std.specs.Result.{IsErrAnd}
use Rattle.std.specs.declared.result.Result.{Result}
use Rattle.std.proofs.lemmas.Result.{err_from_is_err_and}
use Rattle.definitions.specs.Frames.{frames_in}
use Rattle.definitions.specs.Map.{Map, map_of}
use Rattle.definitions.specs.Rule.{width_of}
use Rattle.definitions.specs.Load.{load_number}
use Rattle.definitions.specs.Edit.{change_of}
use Rattle.definitions.specs.States.{states_of, named, devices_named}
use Rattle.definitions.specs.Calls.{independent, fits, whole_with}
use Rattle.text.specs.Shape.{shape_of}
use Rattle.door.specs.declared.question.Question.{Question}
use Rattle.door.specs.Question.{number_of, number-some}
use Rattle.editing.specs.Fitting.{PlaceOf}
use Rattle.returning.specs.Returning.{Spelt, drives_at}
use Rattle.engine.specs.declared.asked.Rows.{Rows}
use Rattle.engine.specs.declared.edit.Asked as edits
use Rattle.engine.specs.declared.back.Asked as returns

-- the rows are those of the map's table
pub record RowsOf (m : Map) (r : Rows) : Type 0 where
  pub groups : r.groups ≡ m.groups
  pub width : r.width ≡ width_of m
  pub narrow : r.width ≤ 32
  pub few : r.groups ≤ 65536
  pub places : r.places ≡ m.groups * width_of m

-- a table with room for them
pub room-of : (m : Map) (r : Rows) (n : ℕ) → RowsOf m r → r.places ≤ n → m.groups * width_of m ≤ n
room-of m r n R h = omega (arith, R.places)

pub room-by : (m : Map) (r : Rows) (n : ℕ) → RowsOf m r → r.places ≤ n → r.groups * r.width ≤ n
room-by m r n R h = rw (R.groups, R.width) (omega (arith, R.places))

-- of an edit: the map loads, its selects are independent, the edit fits and its device is there, and the table has room
pub record EditAsked (f t e : List ℕ) (a : edits.Asked) : Type 0 where
  pub loads : load_number f ≡ 0
  pub shape : a.shape ≡ shape_of (frames_in f)
  pub only : independent (map_of f) ≡ true
  pub change : a.change ≡ change_of e
  pub fits : fits (map_of f) a.change ≡ true
  pub place : PlaceOf (map_of f) a.change a.device
  pub rows : RowsOf (map_of f) a.rows
  pub room : a.rows.places ≤ length t

-- of a return: the same of the map and the table, and the drives of the state are spelt from a word on
pub record ReturnAsked (f t ws : List ℕ) (x : ℕ) (a : returns.Asked) : Type 0 where
  pub loads : load_number f ≡ 0
  pub shape : a.shape ≡ shape_of (frames_in f)
  pub only : independent (map_of f) ≡ true
  pub whole : whole_with f ws ≡ true
  pub there : named x (states_of ws) ≡ true
  pub drives : devices_named x (states_of ws) ≡ drives_at (map_of f) ws a.drives
  pub spelt : Spelt (map_of f) ws a.drives
  pub rows : RowsOf (map_of f) a.rows
  pub room : a.rows.places ≤ length t

-- what a function returns where question d, which is q, stops it
pub stopped : {T : Type 0} (P : T → Type 0) (E : Question → Type 0) (q d : Question) (r : Result T Question) → IsErrAnd r (λ x. x ≡ d) → d ≡ q → E q
    → MatchResult r P E
stopped P E q d r e f g = let p = err_from_is_err_and r e in rw (p.1, p.2, f) g

-- load's number is none of a question's where it is 0
pub refused-some : (n : ℕ) (q : Question) → n ≡ number_of q → n ≡ 0 → ⊥
refused-some n q e z = omega (arith, number-some q, e, z)
