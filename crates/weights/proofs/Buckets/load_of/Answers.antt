-- `weights::Buckets::load_of` meets its contract: the bucket's part of the items is within them, and is summed. Assumes nothing.
use Rattle.std.proofs.Common.{◌∙◌, arith}
use Rattle.weights.specs.Buckets.{arrays_of}
use Rattle.weights.specs.Weights.{load_part}
use Rattle.weights.proofs.Buckets.load_of.Goals as goal

pub total-requires-clause-bound : goal.total-requires-clause-bound
total-requires-clause-bound c =
    let a = c.args in
    omega (arith, load_part (arrays_of a.self.now) a.loads.now a.b, c.requires.b_bound)

pub returns : goal.returns
returns c = let a = c.args in c.total.ensures ∙ load_part (arrays_of a.self.now) a.loads.now a.b
