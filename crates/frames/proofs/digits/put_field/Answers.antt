-- `frames::digits::put_field` meets its contract. The loop's invariant: the digits of `w` before those already written are the digits of
-- `v`. Assumes nothing.
use Rattle.std.proofs.Common.{◌≡◌, arith}
use mathlib.Core.List.{append-nil}
use lib.Seq.{drop-length}
use Rattle.definitions.specs.Frames.{hex}
use Rattle.text.specs.Digits.{put-more}
use Rattle.frames.proofs.digits.put_field.Goals as goal

pub loop-i-init : goal.loop-i-init
loop-i-init c = rw drop-length (append-nil _)

pub loop-i-preserved : goal.loop-i-preserved
loop-i-preserved c =
    let l = c.loop-i in
    rw c.char_of.ensures (put-more l.i l.w l.out _ (omega arith) (omega arith) l.invariant)

pub returns : goal.returns
unfolding hex
returns c =
    let e : c.loop-i.i ≡ 0 = omega arith in
    rw e at c.loop-i.invariant
