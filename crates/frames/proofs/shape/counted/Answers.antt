-- `frames::shape::counted` meets its contract: the 05 is the last line, and its count stands before the last byte. Assumes nothing.
use native.Mathlib.Omega.{arith}
use Rattle.text.specs.Ends.{ends}
use Rattle.frames.proofs.shape.counted.Goals as goal

pub overflow_sub-at : goal.overflow_sub-at
overflow_sub-at c = omega (arith, (ends c.args.t.now c.args.s c.requires.0 c.requires.1 c.requires.2 c.requires.3).long)

pub field-n-requires : goal.field-n-requires
field-n-requires c = omega (arith, (ends c.args.t.now c.args.s c.requires.0 c.requires.1 c.requires.2 c.requires.3).long)

pub total-requires : goal.total-requires
total-requires c = (ends c.args.t.now c.args.s c.requires.0 c.requires.1 c.requires.2 c.requires.3).few

pub returns : goal.returns
returns c = rw (c.field-n.ensures, c.total.ensures) (ends c.args.t.now c.args.s c.requires.0 c.requires.1 c.requires.2 c.requires.3).count
