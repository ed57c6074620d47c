-- `jenkins::hash2` meets its contract: what the three mixes ensure, put together. Assumes nothing.
use Rattle.definitions.specs.Hash.{hash2}
use Rattle.jenkins.proofs.hash2.Goals as goal

pub returns : goal.returns
unfolding hash2
returns c =
    simp (
      c.mix-m.ensures,
      c.mix-l.ensures,
      c.mix-k.ensures,
    )
