-- `straw::logarithm::key` meets its contract. Assumes nothing.
use mathlib.Core.Path.{◌≡◌}
use Prim.Native.Nat.{◌*◌, ◌%◌}
use native.Mathlib.Omega.{arith}
use Rattle.definitions.specs.Straw.{key}
use Rattle.straw.proofs.logarithm.key.Goals as goal

pub returns : goal.returns
unfolding key
returns c =
    let n = c.from.result in
    let e : n * 1073741824 % 18446744073709551616 ≡ n * 1073741824 = omega arith in
    rw (e, c.from.ensures, c.from-2.ensures)
