-- `engine::day::day_group` meets its contract: 14, then the group. Assumes nothing.
use Rattle.std.proofs.Common.{sym}
use Rattle.engine.specs.Calls.{day-14, day-0}
use Rattle.engine.proofs.day.day_group.Goals as goal

pub group_of-requires : goal.group_of-requires
group_of-requires c = rw c.in-Ok.ensures.1 c.in-Ok.ensures.0

pub returns-in-Ok : goal.returns-in-Ok
returns-in-Ok c = rw (c.group_of.ensures.0, c.in-Ok.ensures.1) (sym (day-0 _ _ _ c.in-Ok.ensures.0))

pub returns-in-Err : goal.returns-in-Err
returns-in-Err c = rw (c.number.ensures, c.in-Err.ensures.0) (sym (day-14 _ _ _ c.in-Err.ensures.1))
