-- `door::types_of` meets its contract: the types of the buckets so far. Assumes nothing.
use Rattle.std.proofs.Common.{refl}
use Rattle.door.specs.Types.{types_to, types_more}
use Rattle.door.proofs.types_of.Goals as goal

pub loop-b-init : goal.loop-b-init
unfolding types_to
loop-b-init c = refl

pub loop-b-preserved : goal.loop-b-preserved
loop-b-preserved c =
    rw (c.loop-b.invariant, c.saturating_sub.ensures) (types_more c.args.table.now c.loop-b.b c.bucket_level.result c.bucket_level.ensures)
