use Rattle.text.specs.Records.{shape-links}
use Rattle.frames.proofs.records.LinkRecord.count.Goals as goal

pub returns : goal.returns
returns c = rw (← c.text.view_is) (shape-links c.text.inside.bytes.now c.text.inside.shape c.text.invariant.1)
