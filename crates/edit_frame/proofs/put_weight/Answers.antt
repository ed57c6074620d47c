-- `edit_frame::put_weight` meets its contract: the text with device k's weight replaced is that of the edited map. Assumes nothing.
use native.Mathlib.Omega.{arith}
use Rattle.text.specs.Edit.{edited-weight}
use Rattle.edit_frame.proofs.put_weight.Goals as goal

pub returns : goal.returns
returns c = rw c.put_in_device.ensures (edited-weight c.args.t.now c.args.k c.requires.0 c.requires.1 c.args.v (omega (arith, c.ranges.v.fits)))
