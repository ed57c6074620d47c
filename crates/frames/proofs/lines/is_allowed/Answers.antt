-- `frames::lines::is_allowed` meets its contract: a digit, or the byte 10. Assumes nothing.
use mathlib.Core.Path.{refl}
use Rattle.frames.proofs.lines.is_allowed.Goals as goal

pub returns : goal.returns
returns c = rw c.is_digit.ensures refl
