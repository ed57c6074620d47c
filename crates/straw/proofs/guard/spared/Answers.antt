-- `straw::guard::spared` meets its contract: by the law `key-less` and the lower bound `cost-least`. Assumes nothing.
use Prim.Native.Nat.{◌+◌, ◌-◌, ◌*◌, ◌/◌, ◌^◌, ◌≤◌}
use native.Mathlib.Nat.{mul-le-mul_left, lt_of_not-le}
use native.Mathlib.Omega.{arith}
use borrow.Author.Tests.{leb-true, leb-false}
use Rattle.definitions.specs.Straw.{cost}
use Rattle.laws.specs.Sparing.{cost-least, key-less}
use Rattle.straw.proofs.guard.spared.Goals as goal

pub returns : goal.returns
returns c =
    let a = c.args in
    let t = 2 ^ 32 - 1 - a.h in
    let l : t / 2848 ≤ cost (a.h + 1) = omega (arith, cost-least t (a.h + 1) (omega arith) (omega arith)) in (
      λ e p.
          let h : (a.c + 4) * a.k ≤ t / 2848 * a.w = omega (arith, c.product.ensures, c.product-2.ensures, leb-true c.product.result c.product-2.result e) in
          key-less a.c a.w (t / 2848) (cost (a.h + 1)) a.k p c.requires.1 (omega arith) l h,
      λ e. lt_of_not-le (λ (z : a.k ≤ 0).
          omega (arith, c.product.ensures, leb-false c.product.result c.product-2.result e, mul-le-mul_left (a.c + 4) z)),
    )
