-- `engine::load::empty` meets its contract. Assumes nothing.
use Rattle.engine.specs.Stores.{emptied}
use Rattle.engine.proofs.load.empty.Goals as goal

pub returns : goal.returns
returns c = emptied _ c.requires
