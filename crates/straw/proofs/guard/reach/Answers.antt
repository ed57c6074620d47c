-- `straw::guard::reach` meets its contract: by the upper bound `cost-most`. Assumes nothing.
use mathlib.Core.Path.{◌≡◌}
use Prim.Native.Nat.{ℕ, ◌+◌, ◌-◌, ◌*◌, ◌/◌, ◌%◌, ◌^◌, ◌≤◌}
use native.Mathlib.Nat.{mul-le-mul_left, div-mul-le_self}
use native.Mathlib.Omega.{arith}
use Rattle.laws.specs.Sparing.{cost-most}
use Rattle.straw.proofs.guard.reach.Goals as goal
use Rattle.straw.proofs.guard.reach.Lts as lts
use Rattle.straw.proofs.guard.reach.Reads as reads
use Rattle.straw.proofs.guard.reach.Tie as tie

-- what is known at these places of the code
abbrev After-from2 : Type 0
After-from2 = lts.After-from2 tie.the-claims reads.Pre reads.Post

-- what the hash is below 2 ^ 32, and the quotient
abbrev below : After-from2 → ℕ
below c = 2 ^ 32 - 1 - c.args.h

abbrev quotient : After-from2 → ℕ
quotient c = 2 ^ 32 * below c / (c.args.h + 1)

small : (c : After-from2) → quotient c ≤ 4000000000
small c =
    let u = c.args.h + 1 in
    let h : 2294967296 ≤ u = omega (arith, c.requires) in
    omega (arith, div-mul-le_self (2 ^ 32 * below c) u, mul-le-mul_left (quotient c) h)

-- the code's quotient is it
is : (c : After-from2) → c.from-t.result * 4294967296 % 18446744073709551616 / (c.from-u.result + 1) ≡ quotient c
is c =
    let e : c.from-t.result * 4294967296 % 18446744073709551616 ≡ 2 ^ 32 * below c = omega (arith, c.from-t.ensures) in
    rw (e, c.from-u.ensures)

pub overflow_add-c : goal.overflow_add-c
overflow_add-c c = record { fits = omega (arith, is c, small c) }

pub overflow_add-result : goal.overflow_add-result
overflow_add-result c = record { fits = omega (arith, is c, small c) }

pub overflow_mul-result : goal.overflow_mul-result
overflow_mul-result c = record { fits = omega (arith, is c, small c) }

pub overflow_cast-result : goal.overflow_cast-result
overflow_cast-result c = record { fits = omega (arith, is c, small c) }

pub returns : goal.returns
returns c =
    let u = c.args.h + 1 in
    omega (arith, is c, cost-most (below c) u (omega arith) (omega arith))
