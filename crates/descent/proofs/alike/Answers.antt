-- `descent::alike` meets its contract: the part of the bucket is read from the plan. Assumes nothing.
use Rattle.std.proofs.Common.{arith}
use Rattle.descent.specs.Descent.{part-inside, part-is}
use Rattle.descent.proofs.alike.Goals as goal

pub same_part-requires : goal.same_part-requires
same_part-requires c =
    let i = part-inside c.plan.invariant c.args.old.now c.args.b c.requires in
    (omega arith, omega arith)

pub returns : goal.returns
returns c e =
    let part = part-is c.plan.invariant c.args.old.now c.args.b c.requires in
    rw (← c.plan.view_is, part c.args.old.now, part c.args.new.now) (c.same_part.ensures e)
