-- Document 01, "Table, edits, moves": the edit frame, the map after it, where two walks part, and the moves.
use Rattle.std.specs.Prelude.{Bool, true, false, cond, ◌&&◌, ◌||◌, List, [], ◌∷◌, ◌++◌, map, ℕ, zero, suc, eqb, length, get_or, drop, Option, None, Some}
use Rattle.definitions.specs.declared.Device.{Device}
use Rattle.definitions.specs.declared.Bucket.{Bucket}
use Rattle.definitions.specs.declared.Verdict.{Verdict}
use Rattle.definitions.specs.declared.Verdict.TheVariants.{Held, Rejected, Passed}
use Rattle.definitions.specs.declared.Event.{Event}
use Rattle.definitions.specs.declared.Event.TheVariants.{Drew, Tested}
use Rattle.definitions.specs.declared.Change.{Change}
use Rattle.definitions.specs.declared.Change.TheVariants.{Acceptance, Weight}
use Rattle.definitions.specs.declared.Parting.{Parting}
use Rattle.definitions.specs.declared.Parting.TheVariants.{Draw, Test}
use Rattle.definitions.specs.declared.Move.{Move}
use Rattle.definitions.specs.Lists.{every}
use Rattle.definitions.specs.Map.{Map, bucket_item}
use Rattle.definitions.specs.View.{weight_of}
use Rattle.definitions.specs.Frames.{is_digit, value, hex, fields_of, written, bytes_of}
use Rattle.definitions.specs.Select.{Place, nowhere}
use Rattle.definitions.specs.Rule.{width_of, Placed}
use Rattle.definitions.specs.Table.{runs_of}

-- ---- the edit frame

-- "An edit frame is `21` device (4) acceptance (8), or `22` device (4) weight (8)."
unfoldable pub edit_layout : List ℕ
edit_layout = 4 ∷ 8 ∷ []

-- what a frame of this kind (33 or 34, in hexadecimal 21 or 22) and these fields asks for: a frame of no edit form asks for no change
unfoldable pub change_by : ℕ → List ℕ → Option Change
change_by kind fields =
    cond (eqb kind 33) (Some (Acceptance (get_or fields 0 0) (get_or fields 1 0)))
    (cond (eqb kind 34) (Some (Weight (get_or fields 0 0) (get_or fields 1 0))) None)

-- what the bytes of a frame ask for, with no byte 10 behind them: 14 digits, of kind 21 or 22
unfoldable pub change_of : List ℕ → Option Change
change_of bs =
    cond (eqb (length bs) 14 && every is_digit bs) (change_by (value 2 bs) (fields_of edit_layout (drop 2 bs))) None

-- ---- the map after an edit

abbrev pub with_acceptance : ℕ → ℕ → Device → Device
with_acceptance d a e =
    cond (eqb e.number d) (record { number = e.number; weight = e.weight; acceptance = a }) e

abbrev pub with_weight : ℕ → ℕ → Device → Device
with_weight d w e =
    cond (eqb e.number d) (record { number = e.number; weight = w; acceptance = e.acceptance }) e

abbrev pub with_devices : Map → List Device → Map
with_devices m ds = record { groups = m.groups; devices = ds; buckets = m.buckets; links = m.links; steps = m.steps }

-- "A weight edit brings every bucket above the drive up to date.": each bucket with its sum written. One that is not above the drive weighs
-- what it did, so its digits stay (`only_above`, crate laws).
abbrev pub with_sum : Map → Bucket → Bucket
with_sum m b = record { number = b.number; ty = b.ty; kind = b.kind; weight = weight_of m (bucket_item b.number) }

unfoldable pub with_sums : Map → Map
with_sums m =
    record { groups = m.groups; devices = m.devices; buckets = map (with_sum m) m.buckets; links = m.links; steps = m.steps }

-- "A good edit makes its value the device's acceptance or weight. Bucket weights stay the sums, and nothing else in the map changes."
unfoldable pub put : Map → Option Change → Map
put m (Some (Acceptance d a)) = with_devices m (map (with_acceptance d a) m.devices)
put m (Some (Weight d w)) = with_sums (with_devices m (map (with_weight d w) m.devices))
put m None = m

-- ---- where two walks part

unfoldable pub same_drawn : Option ℕ → Option ℕ → Bool
same_drawn (Some i) (Some j) = eqb i j
same_drawn (Some i) None = false
same_drawn None (Some j) = false
same_drawn None None = true

unfoldable pub same_verdict : Verdict → Verdict → Bool
same_verdict Held Held = true
same_verdict Held Rejected = false
same_verdict Held Passed = false
same_verdict Rejected Held = false
same_verdict Rejected Rejected = true
same_verdict Rejected Passed = false
same_verdict Passed Held = false
same_verdict Passed Rejected = false
same_verdict Passed Passed = true

-- "A draw ends in its winner or none; a test ends held, not accepted or passed.": the ends of two events, old and new. (Two walks that
-- have not parted stand at one draw or at one test, so the two mixed cases do not arise.)
unfoldable pub ends_of : Event → Event → Option Parting
ends_of (Drew b r d) (Drew c s e) = cond (same_drawn d e) None (Some (Draw d e))
ends_of (Drew b r d) (Tested j w) = None
ends_of (Tested i v) (Drew c s e) = None
ends_of (Tested i v) (Tested j w) = cond (same_verdict v w) None (Some (Test v w))

unfoldable pub or_else : Option Parting → Option Parting → Option Parting
or_else None q = q
or_else (Some p) q = Some p

-- "The cause stands where the old and new walk first part, by these ends"
unfoldable pub parting : List Event → List Event → Option Parting
parting [] fs = None
parting (e ∷ es) [] = None
parting (e ∷ es) (f ∷ fs) = or_else (ends_of e f) (parting es fs)

unfoldable pub is_held : Verdict → Bool
is_held Held = true
is_held Rejected = false
is_held Passed = false

-- "01, the edited device passed acceptance in one only; 02, the draws differ ..; 03, the item was held before it in this select in one
-- run only. Where 01 and 03 both apply, 03."; "Cause 03 .. looks for a device at all earlier places of the list, and for a bucket, as before,
-- at those of its own select." The ends of a `Test` differ, so held in either is held in one only.
unfoldable pub cause_of : Option Parting → ℕ
cause_of None = 0
cause_of (Some (Draw d e)) = 2
cause_of (Some (Test v w)) = cond (is_held v || is_held w) 3 1

-- ---- moves

-- "A good edit has one move for each place whose entry differs .., those two entries being old and new, and none for any other place."
unfoldable pub move_at : ℕ → ℕ → Place → Place → List Move
move_at g p a b =
    cond (eqb a.entry b.entry) []
    (record { group = g; place = p; old = a.entry; new = b.entry; cause = cause_of (parting a.walk b.walk) } ∷ [])

-- "place (2, from 1)": the moves at the first k places
unfoldable pub row_moves_to : ℕ → List Place → List Place → ℕ → List Move
row_moves_to g olds news zero = []
row_moves_to g olds news (suc k) =
    row_moves_to g olds news k ++ move_at g (suc k) (get_or olds k nowhere) (get_or news k nowhere)

-- "The old run places the group, by the definitions above, on the map before the edit, the new run on the map after it": the moves of
-- group g in its w places
unfoldable pub row_moves : ℕ → ℕ → Placed → Placed → List Move
row_moves w g old new = row_moves_to g old.places new.places w

unfoldable pub nothing_placed : Placed
nothing_placed = record { places = []; tries = 0 }

-- "in rising group then place": the moves of the groups below n; olds and news are the runs of all groups
unfoldable pub moves_to : ℕ → List Placed → List Placed → ℕ → List Move
moves_to w olds news zero = []
moves_to w olds news (suc g) =
    moves_to w olds news g ++ row_moves w g (get_or olds g nothing_placed) (get_or news g nothing_placed)

unfoldable pub moves_in : ℕ → List Placed → List Placed → List Move
moves_in w olds news = moves_to w olds news (length olds)

-- the moves between two maps
unfoldable pub moves_of : Map → Map → List Move
moves_of m m' = moves_in (width_of m) (runs_of m) (runs_of m')

-- "A move is a frame `13`: group (8), place (2, from 1), old (4), new (4), cause (2)"
unfoldable pub move_layout : List ℕ
move_layout = 8 ∷ 2 ∷ 4 ∷ 4 ∷ 2 ∷ []

-- the line of a move: its kind, 13, is 19 in decimal
unfoldable pub move_line : Move → List ℕ
move_line v = hex 2 19 ++ written move_layout (v.group ∷ v.place ∷ v.old ∷ v.new ∷ v.cause ∷ [])

unfoldable pub moves_bytes : List Move → List ℕ
moves_bytes vs = bytes_of (map move_line vs)
