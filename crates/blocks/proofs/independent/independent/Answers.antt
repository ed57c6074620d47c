-- `blocks::independent::independent` meets its contract: the question is put to what each step does. Assumes nothing.
use Rattle.std.proofs.Common.{◌∙◌, sym}
use Rattle.definitions.specs.Map.{map_of, action_of, actions_of}
use Rattle.definitions.specs.Calls.{not_first_n, independent}
use Rattle.laws.specs.Lists.{every_map}
use Rattle.blocks.proofs.independent.independent.Goals as goal

pub returns : goal.returns
unfolding independent actions_of
returns c = c.every.ensures (λ s. not_first_n (action_of s)) (λ k l b q. q) ∙ sym (every_map not_first_n action_of (map_of c.args.t.now).steps)
