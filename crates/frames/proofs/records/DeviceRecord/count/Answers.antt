use Rattle.text.specs.Records.{shape-devices}
use Rattle.frames.proofs.records.DeviceRecord.count.Goals as goal

pub returns : goal.returns
returns c = rw (← c.text.view_is) (shape-devices c.text.inside.bytes.now c.text.inside.shape c.text.invariant.1)
