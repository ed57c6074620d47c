use Rattle.text.specs.Records.{shape-steps}
use Rattle.frames.proofs.records.StepRecord.count.Goals as goal

pub returns : goal.returns
returns c = rw (← c.text.view_is) (shape-steps c.text.inside.bytes.now c.text.inside.shape c.text.invariant.1)
