-- `compile::devices::drive_in` meets its contract. Assumes nothing.
use mathlib.Core.Path.{sym}
use Rattle.keeping.specs.States.{drive-at}
use Rattle.compile.proofs.devices.drive_in.Goals as goal

pub returns : goal.returns
returns c n h = let a = c.args in sym (drive-at n a.states.now a.a a.k _ h)
