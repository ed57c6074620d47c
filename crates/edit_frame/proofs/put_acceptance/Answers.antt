-- `edit_frame::put_acceptance` meets its contract: the text with device k's acceptance replaced is that of the edited map. Assumes nothing.
use native.Mathlib.Omega.{arith}
use Rattle.text.specs.Edit.{edited-acceptance}
use Rattle.edit_frame.proofs.put_acceptance.Goals as goal

pub returns : goal.returns
returns c = rw c.put_in_device.ensures (edited-acceptance c.args.t.now c.args.k c.requires.0 c.requires.1 c.args.v (omega (arith, c.ranges.v.fits)))
