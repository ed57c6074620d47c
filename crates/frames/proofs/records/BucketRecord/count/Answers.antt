use Rattle.text.specs.Records.{shape-buckets}
use Rattle.frames.proofs.records.BucketRecord.count.Goals as goal

pub returns : goal.returns
returns c = rw (← c.text.view_is) (shape-buckets c.text.inside.bytes.now c.text.inside.shape c.text.invariant.1)
