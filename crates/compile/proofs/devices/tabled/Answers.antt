-- `compile::devices::tabled` meets its contract. The loop's invariant: the tables have the weights and the acceptances of the devices from the k-th
-- on. Assumes nothing.
use Rattle.std.proofs.Common.{◌-◌, arith}
use Rattle.compile.specs.Reading.{device-small, weights-none, acceptances-none, weights-more, acceptances-more, weights-all, acceptances-all}
use Rattle.compile.proofs.devices.tabled.Goals as goal

pub loop-k-init : goal.loop-k-init
loop-k-init g c = λ ds h r. (weights-none ds c.args.n h.0, acceptances-none ds c.args.n h.0)

pub bounds-weights-i : goal.bounds-weights-i
bounds-weights-i g c =
    let (ds, h, r) = c.requires.ranged in
    device-small ds r c.loop-k.k _ c.loop-k-test.true (omega (arith, h.0)) (h.1 (c.loop-k.k - 1) (omega arith) c.device-d.result c.device-d.ensures)

pub bounds-acceptances-i : goal.bounds-acceptances-i
bounds-acceptances-i g c =
    let (ds, h, r) = c.requires.ranged in
    device-small ds r c.loop-k.k _ c.loop-k-test.true (omega (arith, h.0)) (h.1 (c.loop-k.k - 1) (omega arith) c.device-d.result c.device-d.ensures)

pub loop-k-preserved : goal.loop-k-preserved
loop-k-preserved g c = λ ds h r.
    let l = c.loop-k in
    let p = h.1 (l.k - 1) (omega arith) c.device-d.result c.device-d.ensures in
    let i = l.invariant ds h r in (
      weights-more ds r l.k _ c.loop-k-test.true (omega (arith, h.0)) p l.weights i.0,
      acceptances-more ds r l.k _ c.loop-k-test.true (omega (arith, h.0)) p l.acceptances i.1,
    )

pub returns : goal.returns
returns g c = λ ds h r m e.
    let l = c.loop-k in
    let i = l.invariant ds h r in
    (weights-all ds l.k l.weights c.loop-k-test.false i.0 m e, acceptances-all ds l.k l.acceptances c.loop-k-test.false i.1 m e)
