-- `jenkins::hash4` meets its contract: what the six mixes ensure, put together. Assumes nothing.
use Rattle.definitions.specs.Hash.{hash4}
use Rattle.jenkins.proofs.hash4.Goals as goal

pub returns : goal.returns
unfolding hash4
returns c =
    simp (
      c.mix-u.ensures,
      c.mix-o.ensures,
      c.mix-n.ensures,
      c.mix-m.ensures,
      c.mix-l.ensures,
      c.mix-k.ensures,
    )
