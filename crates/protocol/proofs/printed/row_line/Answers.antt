-- `protocol::printed::row_line` meets its contract: part by part, what is written so far is the front of the line. Assumes nothing.
use mathlib.Core.Path.{sym, ap, ◌∙◌}
use Prim.Native.Nat.{◌+◌, ◌*◌}
use native.Mathlib.Omega.{arith}
use native.Mathlib.Nat.{add-sub_cancel_left}
use lib.ListN.{length}
use Rattle.text.specs.Front.{front-none, front-field, front-part}
use Rattle.protocol.specs.Written.{length-places, row-end, length-row}
use borrow.Author.Rules.{rules}
use Rattle.protocol.proofs.printed.row_line.Goals as goal

pub returns : goal.returns
returns c =
    let row = c.args.row.now in
    let f1 = front-field 2 _ 17 _ (front-none c.args.out.now) (search rules) c.put_field.ensures in
    let f2 = front-field 8 _ c.args.group _ f1 (search rules) c.put_field-2.ensures in
    let f3 = front-part (4 * length row) _ _ _ f2 (add-sub_cancel_left 10 (4 * length row)) (length-places row) c.put_places.ensures in
    row-end c.args.group row (10 + 4 * length row) f3 (omega (arith, c.requires.0))

pub shape_of-out : goal.shape_of-out
shape_of-out c = ap length (returns c) ∙ length-row _ c.args.row.now ∙ sym c.requires.0
