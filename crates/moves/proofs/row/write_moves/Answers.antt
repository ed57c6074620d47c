-- `moves::row::write_moves` meets its contract. The invariant: the moves of the first i places are written. Assumes nothing.
use Rattle.std.proofs.Common.{refl, ◌+◌, arith}
use Rattle.std.proofs.Math.ListN.{length}
use Rattle.moves.specs.Changes.{changes-none, changes-next, changes-room}
use Rattle.moves.proofs.row.write_moves.Goals as goal

pub loop-i-init : goal.loop-i-init
loop-i-init c =
    let a = c.args in
    changes-none a.space.now a.at a.g a.old.now a.new.now a.causes (omega (arith, c.requires.in_bounds))

pub put_change-r-requires : goal.put_change-r-requires
put_change-r-requires c =
    let l = c.loop-i in
    let a = c.args in
    changes-room a.g a.old.now a.new.now a.causes l.i (length a.old.now) (l.i + 1) l.invariant refl c.loop-i-test.true c.requires.in_bounds

pub loop-i-preserved : goal.loop-i-preserved
loop-i-preserved c =
    let l = c.loop-i in
    let a = c.args in
    changes-next a.g a.old.now a.new.now a.causes l.i (l.i + 1) _ _ _ l.invariant refl refl refl refl c.put_change-r.ensures
