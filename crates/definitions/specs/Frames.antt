-- Document 01, "The map's frames": digits, fields, lines and frames, from bytes and to bytes. Three layers: bytes and lines, lines and
-- frames, and (in `Map` and `Writing`) frames and the map.
use Rattle.std.specs.Prelude.{Bool, true, false, cond, ◌&&◌, ◌||◌, List, [], ◌∷◌, ◌++◌, map, ℕ, zero, suc, ◌+◌, ◌-◌, ◌*◌, ◌/◌, ◌%◌, leb, ltb, eqb, get_or, drop}
use Rattle.definitions.specs.Lists.{kept, sum}

-- ---- digits and fields

-- "lower-case hexadecimal digits": `0` to `9` are the bytes 48 to 57, `a` to `f` 97 to 102
unfoldable pub is_digit : ℕ → Bool
is_digit c = (leb 48 c && leb c 57) || (leb 97 c && leb c 102)

-- the value of a digit, and 0 of any other byte
unfoldable pub digit_value : ℕ → ℕ
digit_value c = cond (leb 48 c && leb c 57) (c - 48) (cond (leb 97 c && leb c 102) (c - 87) 0)

-- the digit of a value below 16
unfoldable pub digit_byte : ℕ → ℕ
digit_byte v = cond (ltb v 10) (v + 48) (v + 87)

-- the number that the first w digits spell
unfoldable pub value : ℕ → List ℕ → ℕ
value zero bs = 0
value (suc w) bs = value w bs * 16 + digit_value (get_or bs w 0)

-- a number in w digits
unfoldable pub hex : ℕ → ℕ → List ℕ
hex zero v = []
hex (suc w) v = hex w (v / 16) ++ (digit_byte (v % 16) ∷ [])

-- the numbers in fields of these counts of digits, one behind the other
unfoldable pub fields_of : List ℕ → List ℕ → List ℕ
fields_of [] bs = []
fields_of (w ∷ ws) bs = value w bs ∷ fields_of ws (drop w bs)

-- these numbers in fields of these counts of digits
unfoldable pub written : List ℕ → List ℕ → List ℕ
written [] vs = []
written (w ∷ ws) [] = []
written (w ∷ ws) (v ∷ vs) = hex w v ++ written ws vs

-- ---- lines: "One frame a line, .. each line ended by the byte 10."

-- a byte in front of the lines behind it: the byte 10 (true) ends a line, and any other belongs to the first of them
unfoldable pub with_byte : Bool → ℕ → List (List ℕ) → List (List ℕ)
with_byte true c ls = [] ∷ ls
with_byte false c [] = (c ∷ []) ∷ []
with_byte false c (l ∷ ls) = (c ∷ l) ∷ ls

-- the lines of a text, each without the byte 10 that ends it
unfoldable pub lines_of : List ℕ → List (List ℕ)
lines_of [] = []
lines_of (c ∷ cs) = with_byte (eqb c 10) c (lines_of cs)

-- lines as a text
unfoldable pub bytes_of : List (List ℕ) → List ℕ
bytes_of [] = []
bytes_of (l ∷ ls) = l ++ (10 ∷ bytes_of ls)

-- ---- frames

-- a frame: its kind, and its fields
pub record Frame : Type 0 where
  pub kind : ℕ
  pub fields : List ℕ

-- "Fields by count of digits"
unfoldable pub layouts : List (List ℕ)
layouts =
    -- "`00` groups G (8)"
    (8 ∷ [])
    -- "`01` device (4) ..; weight (8) ..; acceptance (8)"
    ∷ (4 ∷ 8 ∷ 8 ∷ [])
    -- "`02` bucket (4) ..; type (2)"; "gains two digits after the type: 01 straw, 02 tree"; "each bucket's weight .. as eight more digits at
    -- the end"
    ∷ (4 ∷ 2 ∷ 2 ∷ 8 ∷ [])
    -- "`03` bucket (4); child item (8)"
    ∷ (4 ∷ 8 ∷ [])
    -- "`04` step (2), count n (2), type (2), bucket (4)"
    ∷ (2 ∷ 2 ∷ 2 ∷ 4 ∷ [])
    -- "`05` number of frames before it (4)"
    ∷ (4 ∷ [])
    ∷ []

abbrev pub layout : ℕ → List ℕ
layout kind = get_or layouts kind []

-- how many digits a line of a kind has, the kind's own two among them
abbrev pub line_length : ℕ → ℕ
line_length kind = 2 + sum (layout kind)

abbrev pub kind_of : List ℕ → ℕ
kind_of line = value 2 line

-- the frame on a line, and a frame as a line
unfoldable pub frame_of : List ℕ → Frame
frame_of line = record { kind = kind_of line; fields = fields_of (layout (kind_of line)) (drop 2 line) }

unfoldable pub line_of : Frame → List ℕ
line_of f = hex 2 f.kind ++ written (layout f.kind) f.fields

-- the frames in a text, and frames as a text
abbrev pub frames_in : List ℕ → List Frame
frames_in bs = map frame_of (lines_of bs)

abbrev pub text_of : List Frame → List ℕ
text_of fs = bytes_of (map line_of fs)

-- the frames of one kind, in their order
unfoldable pub section : ℕ → List Frame → List Frame
section kind fs = kept (λ (f : Frame). eqb f.kind kind) fs

-- field i of a frame, counted from 0
abbrev pub field : ℕ → Frame → ℕ
field i f = get_or f.fields i 0

abbrev pub no_frame : Frame
no_frame = record { kind = 0; fields = [] }

-- the first field of the first frame of a kind
abbrev pub first_field : ℕ → List Frame → ℕ
first_field kind fs = field 0 (get_or (section kind fs) 0 no_frame)
