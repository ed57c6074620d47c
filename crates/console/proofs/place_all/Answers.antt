-- Behind load and fill the rows lie in the table, at most 32 places wide. Assumes nothing.
use Rattle.std.proofs.Common.{◌≡◌, length, refl, arith, rules}
use Rattle.engine.specs.Calls.{filling}
use Rattle.report.specs.Says.{load-sizes, sized, rows-room}
use Rattle.console.proofs.place_all.Goals as goal

pub print_rows-requires : goal.print_rows-requires
print_rows-requires g c =
    let f = c.args.map.now in
    let k = sized f _ (load-sizes f c.args.states.now _ c.load-sizes.ensures) c.if-sizes-ne0.false in
    let r = filling f c.args.table.now _ k.loads c.fill-filled.ensures c.if-filled-ne0.false in
    let same : length c.fill-filled.new.table ≡ length c.args.table.now = search rules in
    (k.slim, rows-room f _ k _ refl _ (omega (arith, r.room, same)))
