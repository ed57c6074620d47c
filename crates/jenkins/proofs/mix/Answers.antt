-- `jenkins::mix` meets its contract. The invariant: the steps that are left, from here, come to the whole mix. Assumes nothing.
use Rattle.std.proofs.Common.{◌≡◌, ◌∙◌, arith}
use Rattle.definitions.specs.Hash.{rows, mix_steps, mix}
use Rattle.laws.specs.Hash.{step-more}
use Rattle.jenkins.proofs.mix.Goals as goal

pub loop-i-preserved : goal.loop-i-preserved
loop-i-preserved c = let l = c.loop-i in rw c.mix_step-n.ensures (step-more l.i l.n (omega arith) ∙ l.invariant)

pub returns : goal.returns
unfolding mix rows mix_steps
returns c = let e : c.loop-i.i ≡ 9 = omega arith in rw e at c.loop-i.invariant
