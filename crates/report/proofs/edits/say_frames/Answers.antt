-- By write's own contract. Assumes nothing.
use Rattle.std.proofs.Common.{refl}
use Rattle.report.specs.Says.{frames-refused, frames-done}
use Rattle.report.proofs.edits.say_frames.Goals as goal

pub returns-then-w-ne0 : goal.returns-then-w-ne0
returns-then-w-ne0 c = λ table. rw (frames-refused c.args.map.now c.args.space.now _ c.write-w.ensures c.if-w-ne0.true) (record { text-is = refl; within = tt })

pub returns : goal.returns
returns c = frames-done c.args.map.now c.args.space.now _ c.write-w.ensures c.if-w-ne0.false
