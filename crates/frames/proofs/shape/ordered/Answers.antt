-- `frames::shape::ordered` meets its contract: the three parts of question 3, by the outline. Assumes nothing.
use Rattle.text.specs.Ends.{by_shape}
use Rattle.frames.proofs.shape.ordered.Goals as goal

pub returns : goal.returns
returns c fs e p = by_shape fs _ _ e p
