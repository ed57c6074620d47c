-- The bytes read stand behind those that were there. Assumes nothing.
use Rattle.std.proofs.Common.{◌+◌, ◌-◌, length, drop, refl, arith, length-take, length-drop}
use Rattle.std.proofs.Math.Nat.{add-sub_cancel_left}
use borrow.Rule.Slice.PartMut.{put_mid, take_put, same_len_mid}
use Rattle.console.specs.Gathering.{gathers-more}
use Rattle.console.proofs.gather_some.Goals as goal

pub returns-clause-ok : goal.returns-clause-ok
returns-clause-ok g c =
    let n = c.args.g.read in
    let k = c.in_ok-count.count in
    let old = c.args.space.now in
    let new = c.read_some.new.buffer in
    let kept = same_len_mid n (length old - n) old new c.read_some.auto.buffer in
    let room = length-take (length old - n) (drop n old) in
    let e = c.map_part-part.ensures in (
      gathers-more c.args.g old c.requires _ (put_mid n (length old - n) old new) (n + k - n) k c.map_part-part.result.count
          (add-sub_cancel_left n k) (take_put n (length old - n) old new c.requires.within)
          (omega (arith, kept, room, length-drop n old, c.read_some.auto.buffer, c.in_ok-count.ensures.within, c.requires.within)) refl refl e.0 e.1,
      omega arith,
    )
