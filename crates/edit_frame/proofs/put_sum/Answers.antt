-- `edit_frame::put_sum` meets its contract: the text with bucket k's weight replaced is that of the map with it. Assumes nothing.
use native.Mathlib.Omega.{arith}
use Rattle.text.specs.Records.{bucket-at, shape-devices}
use Rattle.text.specs.Edit.{edited-sum}
use Rattle.edit_frame.proofs.put_sum.Goals as goal

pub overflow_mul-a : goal.overflow_mul-a
overflow_mul-a c = omega (arith, (bucket-at _ c.requires.0 _ c.requires.1 _ c.requires.2).room, c.well_formed.0.0)

pub overflow_add-a : goal.overflow_add-a
overflow_add-a c = omega (arith, (bucket-at _ c.requires.0 _ c.requires.1 _ c.requires.2).room, c.well_formed.0.0)

pub overflow_mul-a-2 : goal.overflow_mul-a-2
overflow_mul-a-2 c = omega (arith, (bucket-at _ c.requires.0 _ c.requires.1 _ c.requires.2).room, c.well_formed.0.0)

pub overflow_add-a-2 : goal.overflow_add-a-2
overflow_add-a-2 c = omega (arith, (bucket-at _ c.requires.0 _ c.requires.1 _ c.requires.2).room, c.well_formed.0.0)

pub overflow_add-a-3 : goal.overflow_add-a-3
overflow_add-a-3 c = omega (arith, (bucket-at _ c.requires.0 _ c.requires.1 _ c.requires.2).room, c.well_formed.0.0)

pub put_at-requires : goal.put_at-requires
put_at-requires c = omega (arith, (bucket-at _ c.requires.0 _ c.requires.1 _ c.requires.2).room)

pub returns : goal.returns
returns c =
    rw (c.put_at.ensures, shape-devices c.args.t.now c.args.s c.requires.1)
    (edited-sum c.args.t.now c.args.k c.requires.0 c.requires.2 c.args.v (omega (arith, c.ranges.v.fits)))
