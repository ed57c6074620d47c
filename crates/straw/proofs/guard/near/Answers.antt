-- `straw::guard::near` meets its contract: by the law `key-less` and the lower bound `cost-least`. Assumes nothing.
use Rattle.std.proofs.Common.{◌+◌, ◌-◌, ◌*◌, ◌^◌, ◌≤◌, arith, ltb-false}
use Rattle.std.proofs.Math.Nat.{mul-le-mul_right}
use Rattle.definitions.specs.Straw.{cost}
use Rattle.laws.specs.Sparing.{cost-least, key-less}
use Rattle.straw.proofs.guard.near.Goals as goal

pub returns : goal.returns
returns c e cost-of reach w k =
    let a = c.args in
    let t = 2 ^ 32 - 1 - a.h in
    let l : t ≤ 2848 * cost (a.h + 1) = cost-least t (a.h + 1) (omega arith) (omega arith) in
    let h : (cost-of + 4) * a.k ≤ cost (a.h + 1) * a.w =
    omega (
      arith,
      c.product.ensures,
      c.product-2.ensures,
      ltb-false c.product.result c.product-2.result e,
      mul-le-mul_right a.k reach,
      mul-le-mul_right a.w l,
    ) in
    key-less cost-of a.w (cost (a.h + 1)) (cost (a.h + 1)) a.k k w (omega arith) (omega arith) h
