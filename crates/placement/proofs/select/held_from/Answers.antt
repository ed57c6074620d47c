-- `placement::select::held_from` meets its contract: the entries are copied over the holes. Assumes nothing.
use Rattle.placement.specs.Row.{over_holes}
use Rattle.placement.proofs.select.held_from.Goals as goal

pub returns : goal.returns
returns c = over_holes 48 c.args.before.now c.copy_from_slice.new.self c.copy_from_slice.ensures.after
