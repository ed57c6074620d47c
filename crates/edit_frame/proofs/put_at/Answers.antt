-- `edit_frame::put_at` meets its contract: the part from `a` on comes back as eight digits. Assumes nothing.
use native.Mathlib.Nat.{add-sub_cancel_left}
use borrow.Author.Rules.{rules}
use Rattle.text.specs.Edit.{put-splice}
use Rattle.edit_frame.proofs.put_at.Goals as goal

pub returns : goal.returns
returns c =
    let a = c.args in
    put-splice a.a _ _ a.v a.t.now _ (add-sub_cancel_left a.a 8) (search rules) c.put_field.ensures
