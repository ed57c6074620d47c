-- `blocks::widths::widened` meets its contract: an emit adds 33 at most. Assumes nothing.
use Rattle.std.proofs.Common.{arith}
use Rattle.blocks.specs.Widths.{emitted-small}
use Rattle.blocks.proofs.widths.widened.Goals as goal

pub overflow_add-result : goal.overflow_add-result
overflow_add-result c = omega (arith, c.emitted.ensures, emitted-small c.args.w.block, c.requires.0)
