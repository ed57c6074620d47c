-- `weights::total` meets its contract. The loop's invariant: the sum so far and that of the items left are the sum of all.
-- Assumes nothing.
use Rattle.std.proofs.Common.{arith}
use Rattle.weights.specs.Weights.{item_in, sum-next, sum-end}
use Rattle.weights.proofs.total.Goals as goal

pub overflow_add-n : goal.overflow_add-n
overflow_add-n c =
    let a = c.args in
    let l = c.loop-i in
    omega (arith, sum-next (item_in a.devices.now a.loads.now) a.items.now l.i l.n _ l.invariant c.weight_of-n.result c.loop-i-test.true c.weight_of-n.ensures, c.requires.bound)

pub loop-i-preserved : goal.loop-i-preserved
loop-i-preserved c =
    let a = c.args in
    let l = c.loop-i in
    sum-next (item_in a.devices.now a.loads.now) a.items.now l.i l.n _ l.invariant c.weight_of-n.result c.loop-i-test.true c.weight_of-n.ensures

pub returns : goal.returns
returns c =
    let a = c.args in
    let l = c.loop-i in
    sum-end (item_in a.devices.now a.loads.now) a.items.now l.i l.n _ l.invariant (omega arith)
