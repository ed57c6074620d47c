-- The line of a move, field by field. Assumes nothing.
use Rattle.std.specs.Prelude.{◌≡◌, [], ◌∷◌, ◌++◌, length}
use Rattle.std.proofs.Common.{append-nil, append_assoc, length-append}
use Rattle.definitions.specs.declared.Move.{Move}
use Rattle.definitions.specs.Frames.{hex, written}
use Rattle.definitions.specs.Edit.{move_layout, move_line}
use Rattle.text.specs.Digits.{length-hex}

-- the fields of a move, one behind the other
pub move-fields : (m : Move)
    → move_line m ≡ [] ++ hex 2 19 ++ hex 8 m.group ++ hex 2 m.place ++ hex 4 m.old ++ hex 4 m.new ++ hex 2 m.cause
unfolding move_line move_layout written
move-fields m = simp (append-nil, append_assoc)

-- with the byte 10, 23 bytes
pub length-move : (m : Move) → length (move_line m ++ (10 ∷ [])) ≡ 23
length-move m = rw (move-fields m) (simp (length-append, length-hex))
