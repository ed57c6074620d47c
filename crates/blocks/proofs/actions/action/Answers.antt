-- `blocks::actions::action` meets its contract: the action of the step that is read. Assumes nothing.
use Rattle.std.proofs.Common.{sym, ap, ◌∙◌}
use Rattle.definitions.specs.Map.{map_of, action_of}
use Rattle.blocks.specs.Actions.{action-at}
use Rattle.blocks.proofs.actions.action.Goals as goal

pub returns : goal.returns
returns c = c.action_of.ensures ∙ ap action_of c.read.ensures ∙ sym (action-at (map_of c.args.t.now) c.args.k c.requires)
