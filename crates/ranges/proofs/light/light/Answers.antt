-- `ranges::light::light` meets its contract. The loop's invariant: the sum so far and the weights from k on come to the whole, which fits.
-- Assumes nothing.
use Rattle.std.proofs.Common.{ap, leb, arith}
use Rattle.definitions.specs.Map.{map_of}
use Rattle.definitions.specs.Load.{light}
use Rattle.text.specs.Records.{no_device, shape-devices}
use Rattle.ranges.proofs.Laws.{summed-next, summed-most, summed-end, weights-most}
use Rattle.ranges.proofs.light.light.Goals as goal
use Rattle.ranges.proofs.light.light.Invariants.{weight}

pub read-device-requires : goal.read-device-requires
read-device-requires c =
    let count = rw c.t.view_is at (shape-devices c.t.inside.bytes.now c.t.inside.shape c.t.invariant.1) in omega arith

pub overflow_add-total : goal.overflow_add-total
overflow_add-total c =
    let count = rw c.t.view_is at (shape-devices c.t.inside.bytes.now c.t.inside.shape c.t.invariant.1) in
    let most = rw c.t.view_is at (weights-most c.t.inside.bytes.now c.t.invariant.0 (rw c.t.view_is c.requires)) in
    omega (
      arith,
      summed-most weight (map_of c.args.t.now).devices _ c.loop-k.k c.loop-k.total count c.loop-k.invariant no_device _ c.loop-k-test.true c.read-device.ensures,
      most,
    )

pub loop-k-preserved : goal.loop-k-preserved
loop-k-preserved c =
    let count = rw c.t.view_is at (shape-devices c.t.inside.bytes.now c.t.inside.shape c.t.invariant.1) in
    summed-next weight (map_of c.args.t.now).devices _ c.loop-k.k c.loop-k.total count c.loop-k.invariant no_device _ c.loop-k-test.true c.read-device.ensures

pub returns : goal.returns
unfolding light
returns c =
    let count = rw c.t.view_is at (shape-devices c.t.inside.bytes.now c.t.inside.shape c.t.invariant.1) in
    ap (λ v. leb v 67107840) (summed-end weight (map_of c.args.t.now).devices _ c.loop-k.k c.loop-k.total count c.loop-k.invariant c.loop-k-test.false)
