-- `jenkins::hash3_two` meets its contract: of each hash, what its five mixes ensure, put together. Assumes nothing.
use Rattle.definitions.specs.Hash.{hash3}
use Rattle.jenkins.proofs.hash3_two.Goals as goal

pub returns : goal.returns
unfolding hash3
returns c = (
  simp (
    c.mix-z.ensures,
    c.mix-n.ensures,
    c.mix-m.ensures,
    c.mix-l.ensures,
    c.mix-k.ensures,
  ),
  simp (
    c.mix-z2.ensures,
    c.mix-n2.ensures,
    c.mix-m2.ensures,
    c.mix-l2.ensures,
    c.mix-k2.ensures,
  ),
)
