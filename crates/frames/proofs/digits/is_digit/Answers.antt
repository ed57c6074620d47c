-- `frames::digits::is_digit` meets its contract. The code's tests are the definition's. Assumes nothing.
use mathlib.Core.Path.{refl}
use Rattle.definitions.specs.Frames.{is_digit}
use Rattle.frames.proofs.digits.is_digit.Goals as goal

pub returns : goal.returns
unfolding is_digit
returns c = refl
