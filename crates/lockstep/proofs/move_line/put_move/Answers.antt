-- `lockstep::move_line::put_move` meets its contract: field by field, what is written so far is the front of the line. Assumes nothing.
use mathlib.Core.Path.{sym, ap, ◌∙◌}
use mathlib.Core.List.{List, [], ◌∷◌, ◌++◌}
use Prim.Native.Nat.{ℕ}
use lib.ListN.{length}
use Rattle.text.specs.Front.{front-none, front-field, front-end}
use Rattle.lockstep.specs.MoveLine.{move-fields, length-move}
use borrow.Author.Rules.{rules}
use Rattle.lockstep.proofs.move_line.put_move.Goals as goal

pub returns : goal.returns
returns c =
    let a = c.args in
    let f1 = front-field 2 _ 19 _ (front-none a.out.now) (sym c.put_field-arg-1.given.1) c.put_field.ensures in
    let f2 = front-field 8 _ a.group _ f1 (sym c.put_field-arg-2-1.given.1) c.put_field-2.ensures in
    let f3 = front-field 2 _ a.place _ f2 (sym c.put_field-arg-3-1.given.1) c.put_field-3.ensures in
    let f4 = front-field 4 _ a.old _ f3 (sym c.put_field-arg-4-1.given.1) c.put_field-4.ensures in
    let f5 = front-field 4 _ a.new _ f4 (sym c.put_field-arg-5-1.given.1) c.put_field-5.ensures in
    let f6 = front-field 2 _ a.cause _ f5 (sym c.put_field-arg-6-1.given.1) c.put_field-6.ensures in
    front-end 22 f6 c.requires ∙ ap (λ (l : List ℕ). l ++ (10 ∷ [])) (sym (move-fields (record { group = a.group; place = a.place; old = a.old; new = a.new; cause = a.cause })))

pub shape_of-out : goal.shape_of-out
shape_of-out c = ap length (returns c) ∙ length-move _ ∙ sym (search rules)
