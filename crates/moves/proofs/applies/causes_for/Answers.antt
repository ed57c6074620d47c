-- `moves::applies::causes_for` meets its contract. Assumes nothing.
use Rattle.std.proofs.Common.{arith}
use Rattle.std.proofs.Math.ListN.{get_or-replicate}
use Rattle.moves.proofs.applies.causes_for.Goals as goal

pub returns-in-Return : goal.returns-in-Return
returns-in-Return c = rw c.in-Return.is (λ j h. get_or-replicate 32 j 4 0 (omega (arith, h, c.requires.g_len_bound)))
