-- `descent::draw_at` meets its contract: the part of the bucket is read from the plan, and its kind. Assumes nothing.
use Rattle.std.proofs.Common.{arith}
use Rattle.descent.specs.Descent.{part-inside, part-narrow, straw-is, tree_is}
use Rattle.descent.proofs.draw_at.Goals as goal

pub tree_part-requires : goal.tree_part-requires
tree_part-requires c =
    let i = part-inside c.plan.invariant c.args.values.now c.args.b c.requires in
    (omega arith, omega arith, part-narrow c.plan.invariant c.args.values.now c.args.b c.requires)

pub straw_part-requires : goal.straw_part-requires
straw_part-requires c =
    let i = part-inside c.plan.invariant c.args.values.now c.args.b c.requires in
    (omega arith, omega arith, part-narrow c.plan.invariant c.args.values.now c.args.b c.requires)

pub returns-then-plan-k-eq-TREE : goal.returns-then-plan-k-eq-TREE
returns-then-plan-k-eq-TREE c =
    let a = c.args in
    rw (← c.plan.view_is) (tree_is c.plan.invariant a.values.now a.x a.r a.b c.requires _ c.if-plan-k-eq-TREE.true c.tree_part.ensures)

pub returns-else-plan-k-eq-TREE : goal.returns-else-plan-k-eq-TREE
returns-else-plan-k-eq-TREE c =
    let a = c.args in
    rw (← c.plan.view_is) (straw-is c.plan.invariant a.values.now a.x a.r a.b c.requires _ c.if-plan-k-eq-TREE.false c.straw_part.ensures)
