-- `placement::rule::write_row` meets its contract. The invariant: the first i places are written. Assumes nothing.
use Rattle.std.proofs.Common.{arith}
use Rattle.placement.specs.Row.{row_more, row-all}
use Rattle.placement.proofs.rule.write_row.Goals as goal

pub loop-i-preserved : goal.loop-i-preserved
loop-i-preserved c =
    row_more c.args.list.now c.args.row.now c.requires.1 c.loop-i.i c.loop-i.row c.place_at.result (omega arith) c.loop-i.invariant c.place_at.ensures

pub returns : goal.returns
returns c = row-all c.args.list.now c.args.row.now c.requires.1 c.loop-i.i c.loop-i.row (omega arith) c.loop-i.invariant
