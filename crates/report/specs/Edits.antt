-- Document 01, "Samples": "Each later line, an unended last one too, is one edit." What a line does to the map, the table and the states, and what
-- it prints. Program `operate` is an operator's day on the same map and table: its lines are edits as in `fill`, and four calls more.
use Rattle.std.specs.Prelude.{Bool, true, false, cond, List, [], ◌∷◌, ◌++◌, ℕ, zero, suc, ◌*◌, eqb, take, Option, None, Some}
use Rattle.definitions.specs.declared.Change.{Change}
use Rattle.definitions.specs.Map.{map_of}
use Rattle.definitions.specs.Rule.{width_of}
use Rattle.definitions.specs.Edit.{change_of}
-- passed on to those who speak of lines
pub use Rattle.definitions.specs.Calls.{Site}
use Rattle.definitions.specs.Calls.{load_of, EditAnswer, edit_of, StoreAnswer, store_of, return_of, WriteAnswer, write_of, fill_number}
use Rattle.protocol.specs.declared.asked.Program.{Program}
use Rattle.protocol.specs.declared.asked.Asked.{Asked}
use Rattle.protocol.specs.declared.asked.Asked.TheVariants.{Frames, Rows, Store, Return, Nothing}
use Rattle.protocol.specs.Asked.{asked_of}
use Rattle.protocol.specs.Lines.{refusal_line, row_lines}

abbrev pub site_of : List ℕ → List ℕ → List ℕ → Site
site_of frames table states = record { frames = frames; table = table; states = states }

-- the site and the line under way between two bytes of the input, and what the last one printed
pub record Session : Type 0 where
  pub site : Site
  pub line : List ℕ
  pub printed : List ℕ

-- the states that the lines begin with: "Loading another map empties the states"
abbrev pub states_at_start : List ℕ → List ℕ → List ℕ
states_at_start frames states = (load_of frames states).states

-- ---- what is printed

-- "or `1f` and the refusal (2)": a call that answers this number prints this text, or its refusal
unfoldable pub or_refusal : ℕ → List ℕ → List ℕ
or_refusal zero text = text
or_refusal (suc k) text = refusal_line (suc k)

-- "each edit's moves": what it has written in the space, 23 bytes each
abbrev pub moves_said : EditAnswer → List ℕ
moves_said a = or_refusal a.number (take (a.moves * 23) a.space)

-- `2c`: the map as write leaves it in the space
unfoldable pub frames_said : WriteAnswer → List ℕ
frames_said a = or_refusal a.number (take a.bytes a.space)

-- `2d`: the rows of all groups, or the refusal of a map or a table that fill would refuse
unfoldable pub rows_said : List ℕ → List ℕ → List ℕ
rows_said frames table = or_refusal (fill_number frames table) (row_lines (map_of frames).groups 0 (width_of (map_of frames)) table)

-- ---- what a line does

unfoldable pub is_edit : Option Change → Bool
is_edit (Some c) = true
is_edit None = false

-- a line has ended, and its text is printed
abbrev pub printing : Site → List ℕ → Session
printing s text = record { site = s; line = []; printed = text }

-- an edit, and a return too: map and table are what it leaves
abbrev pub edited : List ℕ → EditAnswer → Session
edited states a = printing (site_of a.frames a.table states) (moves_said a)

-- a store: the states are what it leaves, and it has nothing to print
abbrev pub storing : Site → StoreAnswer → Session
storing s a = printing (site_of s.frames s.table a.states) (or_refusal a.number [])

-- what it asks for, and else "a line of no edit form prints `1f12`"
unfoldable pub order_of : Asked → Site → List ℕ → Session
order_of Frames s space = printing s (frames_said (write_of s.frames space))
order_of Rows s space = printing s (rows_said s.frames s.table)
order_of (Store name) s space = storing s (store_of s.frames s.states name)
order_of (Return name) s space = edited s.states (return_of s.frames s.table s.states name space)
order_of Nothing s space = printing s (refusal_line 18)

-- a line has ended: an edit is made, and any other line does what it asks for
unfoldable pub line_of : Program → Site → List ℕ → List ℕ → Session
line_of p s line space =
    cond (is_edit (change_of line)) (edited s.states (edit_of s.frames s.table line space)) (order_of (asked_of p line) s space)

-- ---- byte by byte

-- a line under way, and nothing printed
abbrev pub session : Site → List ℕ → Session
session s line = record { site = s; line = line; printed = [] }

-- one byte more: the byte 10 ends the line
unfoldable pub byte_of : Program → Site → List ℕ → ℕ → List ℕ → Session
byte_of p s line b space = cond (eqb b 10) (line_of p s line space) (session s (line ++ (b ∷ [])))

-- what is printed stands behind what was printed before
abbrev pub behind : List ℕ → Session → Session
behind before s = record { site = s.site; line = s.line; printed = before ++ s.printed }

-- bytes, one after the other
unfoldable pub bytes_of : Program → List ℕ → Session → List ℕ → Session
bytes_of p space s [] = s
bytes_of p space s (b ∷ bs) = bytes_of p space (behind s.printed (byte_of p s.site s.line b space)) bs

-- the input has ended: "an unended last one too"
unfoldable pub end_of : Program → Site → List ℕ → List ℕ → Session
end_of p s [] space = session s []
end_of p s (b ∷ line) space = line_of p s (b ∷ line) space
