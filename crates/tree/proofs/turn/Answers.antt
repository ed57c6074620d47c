-- `tree::turn` meets its contract. Assumes nothing.
use Rattle.std.proofs.Common.{true, false, ◌/◌, arith}
use Rattle.hierarchy.specs.Sums.{before-between}
use Rattle.tree.specs.Walking.{turned-side}
use Rattle.tree.proofs.turn.Goals as goal

pub overflow_sub-m : goal.overflow_sub-m
overflow_sub-m c =
    let n = c.args.n in
    omega (arith, c.before-m.ensures, (before-between c.args.sums.now (n.label / 2) n.lo n.hi c.requires.3).0)

pub returns-then-turns_left : goal.returns-then-turns_left
returns-then-turns_left c =
    let a = c.args in
    let q = a.q in
    turned-side q.seed q.x q.r q.item a.sums.now a.side a.n c.before-m.result c.before-m.ensures c.turns_left.result c.turns_left.ensures true c.if-turns_left.true

pub returns-else-turns_left : goal.returns-else-turns_left
returns-else-turns_left c =
    let a = c.args in
    let q = a.q in
    turned-side q.seed q.x q.r q.item a.sums.now a.side a.n c.before-m.result c.before-m.ensures c.turns_left.result c.turns_left.ensures false c.if-turns_left.false
