-- Document 01, "Questions at the door", other calls; and of each callable function what comes back: its number, its counts, and all that
-- was lent to it to be written, as it then is. A map is lent as its frames. "A refusal returns zero counts and leaves the map, table and
-- every buffer untouched. Beyond what is written, bytes stay."
use Rattle.std.specs.Prelude.{Bool, true, false, ◌&&◌, List, [], ◌∷◌, ℕ, zero, suc, ◌*◌, leb, ltb, eqb, length, take, Option, None, Some}
use Rattle.definitions.specs.declared.Mode.TheVariants.{FirstN, Independent, Through}
use Rattle.definitions.specs.declared.Action.{Action}
use Rattle.definitions.specs.declared.Action.TheVariants.{Take, Select, Emit, Idle}
use Rattle.definitions.specs.declared.Change.{Change}
use Rattle.definitions.specs.declared.Change.TheVariants.{Acceptance, Weight}
use Rattle.definitions.specs.declared.Move.{Move}
use Rattle.definitions.specs.Lists.{every, same, over, first_no}
use Rattle.definitions.specs.Map.{Map, map_of, actions_of}
use Rattle.definitions.specs.Select.{entries_of}
use Rattle.definitions.specs.Rule.{width_of, Placed, placed_of}
use Rattle.definitions.specs.Table.{runs_of, table_in, table_of}
use Rattle.definitions.specs.Edit.{change_of, put, moves_in, moves_bytes}
use Rattle.definitions.specs.Ceiling.{holders_in}
use Rattle.definitions.specs.Writing.{map_text, day_group, two_bytes}
use Rattle.definitions.specs.Load.{has_device, load_number}
use Rattle.definitions.specs.States.{NamedState, words_of, states_of, stated, named, room_for_name, stored, devices_named, put_state, return_moves}

-- ---- questions 14 to 20

-- 14. "Map as load or edit leaves it?"
unfoldable pub whole : List ℕ → Bool
whole frames = eqb (load_number frames) 0

-- the same where states are lent too: "question 14 covers them"
unfoldable pub whole_with : List ℕ → List ℕ → Bool
whole_with frames states = whole frames && stated (map_of frames) states

-- 15. "Group below G?"
unfoldable pub group_below : Map → ℕ → Bool
group_below m g = ltb g m.groups

-- 16. "Lent space for W places, G × W places or the map's bytes?"
unfoldable pub room_for_row : Map → List ℕ → Bool
room_for_row m row = leb (width_of m) (length row)

unfoldable pub room_for_table : Map → List ℕ → Bool
room_for_table m table = leb (m.groups * width_of m) (length table)

unfoldable pub room_for_frames : Map → List ℕ → Bool
room_for_frames m space = leb (length (map_text m)) (length space)

-- the same for the daemon, where each place is two bytes
unfoldable pub room_for_bytes : Map → List ℕ → Bool
room_for_bytes m out = leb (2 * width_of m) (length out)

-- 17. "Independent selects only (edit)?"; of step 5: "and 17 admits it"
unfoldable pub not_first_n : Action → Bool
not_first_n (Take b) = true
not_first_n (Select FirstN n t) = false
not_first_n (Select Independent n t) = true
not_first_n (Select Through n t) = true
not_first_n Emit = true
not_first_n Idle = true

unfoldable pub independent : Map → Bool
independent m = every not_first_n (actions_of m)

-- 18. "Device present, value in range?": "weight (8), 0 to 65,535; acceptance (8), 0 to 65,536"
unfoldable pub fits : Map → Option Change → Bool
fits m (Some (Acceptance d a)) = has_device m d && leb a 65536
fits m (Some (Weight d w)) = has_device m d && leb w 65535
fits m None = false

-- 19. "Table what fill gives?"
unfoldable pub fresh : Map → List Placed → List ℕ → Bool
fresh m runs table = same (take (m.groups * width_of m) table) (table_in runs)

-- 20. "Space for 23 bytes a move, for the moves this edit makes?"
unfoldable pub room_for_moves : List Move → List ℕ → Bool
room_for_moves moves space = leb (23 * length moves) (length space)

-- ---- what goes on from call to call (a site, as we call it): the map's frames, the table and the words of the states, as they are lent

pub record Site : Type 0 where
  pub frames : List ℕ
  pub table : List ℕ
  pub states : List ℕ

-- ---- the sizes of a map: by its groups and its width a caller knows how large a table he has to lend

pub record SizesAnswer : Type 0 where
  pub number : ℕ
  pub groups : ℕ
  pub places : ℕ

-- load's number decides: of a good map its groups and its width W, else zeros
unfoldable pub sizes_by : Map → ℕ → SizesAnswer
sizes_by m zero = record { number = 0; groups = m.groups; places = width_of m }
sizes_by m (suc k) = record { number = suc k; groups = 0; places = 0 }

unfoldable pub sizes_of : List ℕ → SizesAnswer
sizes_of frames = sizes_by (map_of frames) (load_number frames)

-- ---- load: the frames are only read, and its sizes told. "Loading another map empties the states"

pub record LoadAnswer : Type 0 where
  pub number : ℕ
  pub groups : ℕ
  pub places : ℕ
  pub states : List ℕ

unfoldable pub load_by : Map → List ℕ → ℕ → LoadAnswer
load_by m states zero = record { number = 0; groups = m.groups; places = width_of m; states = over (words_of []) states }
load_by m states (suc k) = record { number = suc k; groups = 0; places = 0; states = states }

unfoldable pub load_of : List ℕ → List ℕ → LoadAnswer
load_of frames states = load_by (map_of frames) states (load_number frames)

-- ---- place

pub record PlaceAnswer : Type 0 where
  pub number : ℕ
  pub places : ℕ
  pub tries : ℕ
  pub row : List ℕ

unfoldable pub place_number : List ℕ → ℕ → List ℕ → ℕ
place_number frames g row =
    first_no ((14, whole frames) ∷ (15, group_below (map_of frames) g) ∷ (16, room_for_row (map_of frames) row) ∷ [])

-- the number decides: w is the width, and p the group's list and tries
unfoldable pub place_by : ℕ → Placed → List ℕ → ℕ → PlaceAnswer
place_by w p row zero = record { number = 0; places = w; tries = p.tries; row = over (entries_of p.places) row }
place_by w p row (suc k) = record { number = suc k; places = 0; tries = 0; row = row }

unfoldable pub place_of : List ℕ → ℕ → List ℕ → PlaceAnswer
place_of frames g row =
    place_by (width_of (map_of frames)) (placed_of (map_of frames) g) row (place_number frames g row)

-- ---- the daemon's call: "the map's frames, to which load's questions are put first, the group, and space where each place becomes two
-- bytes, high byte first"

pub record DaemonAnswer : Type 0 where
  pub number : ℕ
  pub places : ℕ
  pub tries : ℕ
  pub out : List ℕ

-- k, unless the load was refused
unfoldable pub after_load : ℕ → ℕ → ℕ
after_load zero k = k
after_load (suc n) k = suc n

unfoldable pub daemon_number : List ℕ → ℕ → List ℕ → ℕ
daemon_number frames g out =
    after_load (load_number frames) (first_no ((15, group_below (map_of frames) g) ∷ (16, room_for_bytes (map_of frames) out) ∷ []))

unfoldable pub daemon_by : ℕ → Placed → List ℕ → ℕ → DaemonAnswer
daemon_by w p out zero =
    record { number = 0; places = w; tries = p.tries; out = over (two_bytes (entries_of p.places)) out }
daemon_by w p out (suc k) = record { number = suc k; places = 0; tries = 0; out = out }

unfoldable pub daemon_of : List ℕ → ℕ → List ℕ → DaemonAnswer
daemon_of frames g out =
    daemon_by (width_of (map_of frames)) (placed_of (map_of frames) g) out (daemon_number frames g out)

-- ---- fill

pub record FillAnswer : Type 0 where
  pub number : ℕ
  pub places : ℕ
  pub table : List ℕ

unfoldable pub fill_number : List ℕ → List ℕ → ℕ
fill_number frames table = first_no ((14, whole frames) ∷ (16, room_for_table (map_of frames) table) ∷ [])

unfoldable pub fill_by : Map → List ℕ → ℕ → FillAnswer
fill_by m table zero = record { number = 0; places = m.groups * width_of m; table = over (table_of m) table }
fill_by m table (suc k) = record { number = suc k; places = 0; table = table }

unfoldable pub fill_of : List ℕ → List ℕ → FillAnswer
fill_of frames table = fill_by (map_of frames) table (fill_number frames table)

-- ---- edit

pub record EditAnswer : Type 0 where
  pub number : ℕ
  pub moves : ℕ
  pub frames : List ℕ
  pub table : List ℕ
  pub space : List ℕ

-- what an edit's questions are about: what was lent, the change asked for, the map before it and after it, the runs of all groups on
-- these, and the moves
pub record EditCase : Type 0 where
  pub frames : List ℕ
  pub table : List ℕ
  pub space : List ℕ
  pub change : Option Change
  pub before : Map
  pub after : Map
  pub olds : List Placed
  pub news : List Placed
  pub moves : List Move

unfoldable pub case_of : List ℕ → List ℕ → List ℕ → List ℕ → EditCase
case_of fs t edit s =
    let c = change_of edit in
    let m = map_of fs in
    let m' = put m c in
    let o = runs_of m in
    let n = runs_of m' in
    record {
      frames = fs;
      table = t;
      space = s;
      change = c;
      before = m;
      after = m';
      olds = o;
      news = n;
      moves = moves_in (width_of m) o n;
    }

unfoldable pub edit_number : EditCase → ℕ
edit_number e =
    first_no
    ((14, whole e.frames)
    ∷ (16, room_for_table e.before e.table)
    ∷ (17, independent e.before)
    ∷ (18, fits e.before e.change)
    ∷ (19, fresh e.before e.olds e.table)
    ∷ (20, room_for_moves e.moves e.space)
    ∷ [])

-- the number decides
unfoldable pub edit_by : EditCase → ℕ → EditAnswer
edit_by e zero =
    record {
      number = 0;
      moves = length e.moves;
      frames = map_text e.after;
      table = over (table_in e.news) e.table;
      space = over (moves_bytes e.moves) e.space;
    }
edit_by e (suc k) = record { number = suc k; moves = 0; frames = e.frames; table = e.table; space = e.space }

unfoldable pub edit_answer : EditCase → EditAnswer
edit_answer e = edit_by e (edit_number e)

unfoldable pub edit_of : List ℕ → List ℕ → List ℕ → List ℕ → EditAnswer
edit_of frames table edit space = edit_answer (case_of frames table edit space)

-- ---- store (document 02, change 8): "A store is asked 14, then answers 25 for a ninth name"

pub record StoreAnswer : Type 0 where
  pub number : ℕ
  pub states : List ℕ

unfoldable pub store_number : List ℕ → List ℕ → ℕ → ℕ
store_number frames states name =
    first_no ((14, whole_with frames states) ∷ (25, room_for_name name (states_of states)) ∷ [])

unfoldable pub store_by : Map → List ℕ → ℕ → ℕ → StoreAnswer
store_by m states name zero = record { number = 0; states = stored m name states }
store_by m states name (suc k) = record { number = suc k; states = states }

unfoldable pub store_of : List ℕ → List ℕ → ℕ → StoreAnswer
store_of frames states name = store_by (map_of frames) states name (store_number frames states name)

-- ---- return: "a return is asked what an edit is, with 24 for a name not stored in place of 18". It answers what an edit does, and only reads
-- the states.

pub record ReturnCase : Type 0 where
  pub frames : List ℕ
  pub table : List ℕ
  pub states : List ℕ
  pub name : ℕ
  pub space : List ℕ
  pub kept : List NamedState
  pub before : Map
  pub after : Map
  pub olds : List Placed
  pub news : List Placed
  pub moves : List Move

unfoldable pub return_case : List ℕ → List ℕ → List ℕ → ℕ → List ℕ → ReturnCase
return_case fs t ws n s =
    let m = map_of fs in
    let k = states_of ws in
    let m' = put_state m (devices_named n k) in
    let o = runs_of m in
    let p = runs_of m' in
    record {
      frames = fs;
      table = t;
      states = ws;
      name = n;
      space = s;
      kept = k;
      before = m;
      after = m';
      olds = o;
      news = p;
      moves = return_moves (moves_in (width_of m) o p);
    }

unfoldable pub return_number : ReturnCase → ℕ
return_number e =
    first_no
    ((14, whole_with e.frames e.states)
    ∷ (16, room_for_table e.before e.table)
    ∷ (17, independent e.before)
    ∷ (24, named e.name e.kept)
    ∷ (19, fresh e.before e.olds e.table)
    ∷ (20, room_for_moves e.moves e.space)
    ∷ [])

unfoldable pub return_by : ReturnCase → ℕ → EditAnswer
return_by e zero =
    record {
      number = 0;
      moves = length e.moves;
      frames = map_text e.after;
      table = over (table_in e.news) e.table;
      space = over (moves_bytes e.moves) e.space;
    }
return_by e (suc k) = record { number = suc k; moves = 0; frames = e.frames; table = e.table; space = e.space }

unfoldable pub return_answer : ReturnCase → EditAnswer
return_answer e = return_by e (return_number e)

unfoldable pub return_of : List ℕ → List ℕ → List ℕ → ℕ → List ℕ → EditAnswer
return_of frames table states name space = return_answer (return_case frames table states name space)

-- ---- the ceiling: what an edit of a device's acceptance moves at most (document 02, change 7)

pub record CeilingAnswer : Type 0 where
  pub number : ℕ
  pub groups : ℕ
  pub moves : ℕ

-- it is asked what an edit of that device is, but for the value and for the space
unfoldable pub ceiling_number : List ℕ → Map → List Placed → List ℕ → ℕ → ℕ
ceiling_number frames m runs table d =
    first_no
    ((14, whole frames)
    ∷ (16, room_for_table m table)
    ∷ (17, independent m)
    ∷ (18, has_device m d)
    ∷ (19, fresh m runs table)
    ∷ [])

-- the number decides: w is the width, and k the number of groups whose list holds the device
unfoldable pub ceiling_by : ℕ → ℕ → ℕ → CeilingAnswer
ceiling_by w k zero = record { number = 0; groups = k; moves = w * k }
ceiling_by w k (suc n) = record { number = suc n; groups = 0; moves = 0 }

unfoldable pub ceiling_of : List ℕ → List ℕ → ℕ → CeilingAnswer
ceiling_of frames table d =
    let m = map_of frames in
    let runs = runs_of m in
    ceiling_by (width_of m) (holders_in d runs) (ceiling_number frames m runs table d)

-- ---- write

pub record WriteAnswer : Type 0 where
  pub number : ℕ
  pub bytes : ℕ
  pub space : List ℕ

unfoldable pub write_number : List ℕ → List ℕ → ℕ
write_number frames space = first_no ((14, whole frames) ∷ (16, room_for_frames (map_of frames) space) ∷ [])

unfoldable pub write_by : Map → List ℕ → ℕ → WriteAnswer
write_by m space zero = record { number = 0; bytes = length (map_text m); space = over (map_text m) space }
write_by m space (suc k) = record { number = suc k; bytes = 0; space = space }

unfoldable pub write_of : List ℕ → List ℕ → WriteAnswer
write_of frames space = write_by (map_of frames) space (write_number frames space)

-- ---- a day's group

pub record DayAnswer : Type 0 where
  pub number : ℕ
  pub group : ℕ

unfoldable pub day_number : List ℕ → ℕ
day_number frames = first_no ((14, whole frames) ∷ [])

unfoldable pub day_by : Map → ℕ → ℕ → ℕ → DayAnswer
day_by m show day zero = record { number = 0; group = day_group m show day }
day_by m show day (suc k) = record { number = suc k; group = 0 }

unfoldable pub day_of : List ℕ → ℕ → ℕ → DayAnswer
day_of frames show day = day_by (map_of frames) show day (day_number frames)

-- ---- the drives of a day: its group, placed as the daemon places it, so load's questions are put once and then 16. Question 15 is put
-- too, and never answered no: a rest by G is below G.

pub record DrivesAnswer : Type 0 where
  pub number : ℕ
  pub group : ℕ
  pub places : ℕ
  pub tries : ℕ
  pub out : List ℕ

-- the placing's number decides: g is the day's group, and a what the daemon is answered for it
unfoldable pub drives_by : ℕ → DaemonAnswer → List ℕ → ℕ → DrivesAnswer
drives_by g a out zero = record { number = 0; group = g; places = a.places; tries = a.tries; out = a.out }
drives_by g a out (suc k) = record { number = suc k; group = 0; places = 0; tries = 0; out = out }

unfoldable pub drives_of : List ℕ → ℕ → ℕ → List ℕ → DrivesAnswer
drives_of frames show day out =
    let g = day_group (map_of frames) show day in
    let a = daemon_of frames g out in
    drives_by g a out a.number
