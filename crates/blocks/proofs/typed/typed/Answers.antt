-- `blocks::typed::typed` meets its contract: the question is put to what each step does. Assumes nothing.
use Rattle.std.proofs.Common.{◌∙◌, sym}
use Rattle.definitions.specs.Map.{map_of, action_of, actions_of}
use Rattle.definitions.specs.Load.{through_typed, typed}
use Rattle.laws.specs.Lists.{every_map}
use Rattle.blocks.proofs.typed.typed.Goals as goal

pub returns : goal.returns
unfolding typed actions_of
returns c = c.every.ensures (λ s. through_typed (action_of s)) (λ k l b q. q) ∙ sym (every_map through_typed action_of (map_of c.args.t.now).steps)
