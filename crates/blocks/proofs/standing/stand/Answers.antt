-- `blocks::standing::stand` meets its contract: inside a block `proceed` tells. Assumes nothing.
use Rattle.blocks.proofs.standing.stand.Goals as goal

pub returns-in-Inside : goal.returns-in-Inside
returns-in-Inside c m e = rw c.in-Inside.is (c.proceed.ensures m)
