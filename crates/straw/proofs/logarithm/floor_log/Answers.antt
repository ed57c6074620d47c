-- `straw::logarithm::floor_log` meets its contract: the place of the highest digit is the whole part. Assumes nothing.
use mathlib.Core.Path.{◌≡◌}
use Prim.Native.Nat.{◌-◌}
use native.Mathlib.Omega.{arith}
use lib.Count.{count_leading_zeros, leading_top}
use Rattle.definitions.specs.Straw.{floor_log}
use Rattle.laws.specs.Logarithm.{floor-is, floor-lt}
use Rattle.straw.proofs.logarithm.floor_log.Goals as goal

pub overflow_sub-result : goal.overflow_sub-result
overflow_sub-result c = omega (arith, (leading_top 64 c.args.u c.requires.0 c.ranges.u.fits).1)

pub returns : goal.returns
returns c =
    let u = c.args.u in
    let t = leading_top 64 u c.requires.0 c.ranges.u.fits in
    let e : floor_log u ≡ t.0 = floor-is u t.0 c.requires.0 c.requires.1 t.2 t.3 in
    let f : 63 - count_leading_zeros 64 u ≡ floor_log u = omega (arith, t.1, e) in
    (f, omega (arith, f, floor-lt u 33 c.requires.0 c.requires.1 (omega arith)))
