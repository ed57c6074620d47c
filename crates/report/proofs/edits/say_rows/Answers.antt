-- Load tells the sizes, and the table is asked for room. Assumes nothing.
use Rattle.std.proofs.Common.{refl}
use Rattle.report.specs.Says.{sized, refused, rows-14, rows-16, rows-done}
use Rattle.report.proofs.edits.say_rows.Goals as goal

pub returns-then-s-ne0 : goal.returns-then-s-ne0
returns-then-s-ne0 c = λ space.
    rw (rows-14 c.args.map.now c.args.table.now (refused c.args.map.now _ c.sizes_of-s.ensures c.if-s-ne0.true)) (record { text-is = refl; within = tt })

pub returns-then-table-s : goal.returns-then-table-s
returns-then-table-s c = λ space.
    let z = sized c.args.map.now _ c.sizes_of-s.ensures c.if-s-ne0.false in
    rw (rows-16 c.args.map.now c.args.table.now _ z _ _ refl refl c.if-table-s.true) (record { text-is = refl; within = tt })

pub returns : goal.returns
returns c = λ space.
    let z = sized c.args.map.now _ c.sizes_of-s.ensures c.if-s-ne0.false in
    rows-done c.args.map.now c.args.table.now _ z _ _ refl refl space c.if-table-s.false
