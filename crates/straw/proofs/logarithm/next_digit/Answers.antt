-- `straw::logarithm::next_digit` meets its contract, by the law that the digit is what the square has above 32 bits. Assumes nothing.
use mathlib.Core.Path.{refl}
use native.Mathlib.Omega.{arith}
use Rattle.laws.specs.Logarithm.{product_lt, digit_shift}
use Rattle.straw.proofs.logarithm.next_digit.Goals as goal

pub overflow_mul-q : goal.overflow_mul-q
overflow_mul-q c = record { fits = product_lt _ c.requires.0 }

pub overflow_shr-result : goal.overflow_shr-result
overflow_shr-result c = let s = c.args.s in omega (arith, (digit_shift s _ _ c.requires.0 refl refl).0)

pub overflow_add-result : goal.overflow_add-result
overflow_add-result c =
    let s = c.args.s in
    omega (arith, (digit_shift s _ _ c.requires.0 refl refl).0)

pub returns : goal.returns
returns c = let s = c.args.s in (digit_shift s _ _ c.requires.0 refl refl).1
