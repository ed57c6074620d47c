-- `frames::writing::copy` meets its contract. The loop's invariant: the first `i` bytes are those of `from`, and the others are as they
-- were. Assumes nothing.
use Rattle.std.proofs.Common.{refl, ◌∙◌, arith}
use Rattle.laws.specs.Lists.{front-more, front-all}
use Rattle.frames.proofs.writing.copy.Goals as goal

pub loop-i-preserved : goal.loop-i-preserved
loop-i-preserved c =
    let a = c.args in
    let l = c.loop-i in
    rw l.invariant (front-more a.from.now a.to.now l.i _ 0 (omega arith) (omega arith) refl)

pub returns : goal.returns
returns c =
    let a = c.args in
    c.loop-i.invariant ∙ front-all a.from.now a.to.now c.loop-i.i (omega arith)
