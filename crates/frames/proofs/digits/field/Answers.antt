-- `frames::digits::field` meets its contract. The loop's invariant: `v` is the value of the first `i` digits, below 2 ^ 28 while one is
-- still to come, so that nothing wraps. Assumes nothing.
use native.Mathlib.Omega.{arith}
use lib.ListN.{drop}
use borrow.Author.Rules.{rules}
use Rattle.definitions.specs.Frames.{value}
use Rattle.text.specs.Digits.{value-small, value-next}
use Rattle.frames.proofs.digits.field.Goals as goal

pub loop-i-init : goal.loop-i-init
unfolding value
loop-i-init c = search rules

pub overflow_mul-v : goal.overflow_mul-v
overflow_mul-v c = omega (arith, c.loop-i.invariant, value-small c.loop-i.i (drop c.args.at c.args.s.now) (omega arith))

pub overflow_add-v : goal.overflow_add-v
overflow_add-v c = omega (arith, c.loop-i.invariant, value-small c.loop-i.i (drop c.args.at c.args.s.now) (omega arith))

pub loop-i-preserved : goal.loop-i-preserved
loop-i-preserved c = value-next c.loop-i.i c.args.at _ _ c.args.s.now c.loop-i.invariant c.digit-d.ensures.0
