-- `jenkins::mix_step` meets its contract: the table has the rows of the definition. Assumes nothing.
use Rattle.std.proofs.Common.{rules}
use Rattle.definitions.specs.Hash.{rows}
use Rattle.laws.specs.Hash.{row_small}
use Rattle.jenkins.proofs.mix_step.Goals as goal

pub row_step-requires : goal.row_step-requires
unfolding rows
row_step-requires c = row_small c.args.i c.requires

pub returns : goal.returns
unfolding rows
returns c = search rules
