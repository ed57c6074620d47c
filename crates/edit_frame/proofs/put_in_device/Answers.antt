-- `edit_frame::put_in_device` meets its contract: the line of device k stands in the text. Assumes nothing.
use native.Mathlib.Omega.{arith}
use Rattle.text.specs.Records.{device-at}
use Rattle.edit_frame.proofs.put_in_device.Goals as goal

pub overflow_mul-k : goal.overflow_mul-k
overflow_mul-k c = omega (arith, (device-at _ c.requires.0 _ c.requires.1).room, c.well_formed.0.0)

pub overflow_add-k : goal.overflow_add-k
overflow_add-k c = omega (arith, (device-at _ c.requires.0 _ c.requires.1).room, c.well_formed.0.0)

pub overflow_add-k-2 : goal.overflow_add-k-2
overflow_add-k-2 c = omega (arith, (device-at _ c.requires.0 _ c.requires.1).room, c.well_formed.0.0)

pub put_at-requires : goal.put_at-requires
put_at-requires c = omega (arith, (device-at _ c.requires.0 _ c.requires.1).room)
