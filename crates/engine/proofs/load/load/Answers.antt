-- `engine::load::load` meets its contract. Assumes nothing.
use Rattle.engine.specs.Stores.{load-emptied, load-left}
use Rattle.engine.proofs.load.load.Goals as goal

pub returns-then-r-eq0 : goal.returns-then-r-eq0
returns-then-r-eq0 c = load-emptied _ _ c.sizes_of-r.ensures _ _ c.empty.ensures c.if-r-eq0.true

pub returns-else-r-eq0 : goal.returns-else-r-eq0
returns-else-r-eq0 c = load-left _ _ c.sizes_of-r.ensures _ c.if-r-eq0.false
