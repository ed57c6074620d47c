-- `engine::load::sizes_of` meets its contract: load's questions, then the groups and the width. Assumes nothing.
use Rattle.std.proofs.Common.{sym}
use Rattle.engine.specs.Calls.{sizes-load, sizes-0}
use Rattle.engine.specs.Rows.{refused-some}
use Rattle.engine.proofs.load.sizes_of.Goals as goal

pub rows_of-rows-requires : goal.rows_of-rows-requires
rows_of-rows-requires c = rw c.in-Ok.ensures.1 c.in-Ok.ensures.0

pub returns-in-Ok : goal.returns-in-Ok
returns-in-Ok c =
    let R = rw c.in-Ok.ensures.1 at c.rows_of-rows.ensures in
    rw (R.groups, R.width) (sym (sizes-0 _ c.in-Ok.ensures.0))

pub returns-in-Err : goal.returns-in-Err
returns-in-Err c =
    rw (c.number.ensures, ← c.in-Err.ensures) (sym (sizes-load _ (λ e. refused-some _ _ c.in-Err.ensures e)))
