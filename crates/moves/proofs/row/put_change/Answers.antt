-- `moves::row::put_change` meets its contract. Assumes nothing.
use Rattle.std.proofs.Common.{arith}
use native.Mathlib.Nat.{add-sub_cancel_left}
use Rattle.moves.specs.Changes.{change-none, change-length, change-line}
use Rattle.moves.proofs.row.put_change.Goals as goal

pub returns-then-old-new : goal.returns-then-old-new
returns-then-old-new c =
    let a = c.args in
    change-none a.space.now a.at a.g a.p a.old a.new a.cause c.if-old-new.true (omega (arith, c.requires))

-- where the entries differ there is room for a line
pub slice_bounds-put_move-end : goal.slice_bounds-put_move-end
slice_bounds-put_move-end c =
    let a = c.args in
    omega (arith, c.requires, change-length a.g a.p a.old a.new a.cause c.if-old-new.false)

pub returns : goal.returns
returns c =
    let a = c.args in
    change-line a.space.now _ a.at _ a.g a.p a.old a.new a.cause c.if-old-new.false (add-sub_cancel_left a.at 23)
    (omega (arith, c.requires, change-length a.g a.p a.old a.new a.cause c.if-old-new.false)) c.put_move.ensures
