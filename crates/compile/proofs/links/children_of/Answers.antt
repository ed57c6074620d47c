-- `compile::links::children_of` meets its contract. The loop's invariant: the arrays are those of the links from the k-th on.
-- Assumes nothing.
use Rattle.std.proofs.Common.{◌≤◌, length, arith}
use Rattle.definitions.specs.Map.{map_of}
use Rattle.laws.specs.Loadable.{bounds}
use Rattle.compile.specs.Links.{count_most, link-small, arranged-none, arranged-more, arranged-all}
use Rattle.compile.proofs.links.children_of.Goals as goal

pub loop-k-init : goal.loop-k-init
loop-k-init c = arranged-none (map_of c.args.text.now).links _ c.count-k.ensures

pub overflow_cast-b : goal.overflow_cast-b
overflow_cast-b c = omega (arith, link-small (map_of c.args.text.now) c.requires c.loop-k.k _ c.loop-k-test.true (omega (arith, c.count-k.ensures)) c.read-l.ensures)

pub overflow_cast-first : goal.overflow_cast-first
overflow_cast-first c = omega (arith, (bounds (map_of c.args.text.now) c.requires).links)

pub offset_bounds-first-b : goal.offset_bounds-first-b
offset_bounds-first-b c = omega (arith, link-small (map_of c.args.text.now) c.requires c.loop-k.k _ c.loop-k-test.true (omega (arith, c.count-k.ensures)) c.read-l.ensures)

pub bounds-first-b : goal.bounds-first-b
bounds-first-b c = omega (arith, link-small (map_of c.args.text.now) c.requires c.loop-k.k _ c.loop-k-test.true (omega (arith, c.count-k.ensures)) c.read-l.ensures)

pub offset_bounds-count-b : goal.offset_bounds-count-b
offset_bounds-count-b c = omega (arith, link-small (map_of c.args.text.now) c.requires c.loop-k.k _ c.loop-k-test.true (omega (arith, c.count-k.ensures)) c.read-l.ensures)

pub bounds-count-b : goal.bounds-count-b
bounds-count-b c = omega (arith, link-small (map_of c.args.text.now) c.requires c.loop-k.k _ c.loop-k-test.true (omega (arith, c.count-k.ensures)) c.read-l.ensures)

pub overflow_add-count : goal.overflow_add-count
overflow_add-count c =
    let l = c.loop-k in
    omega (arith, (bounds (map_of c.args.text.now) c.requires).links, count_most _ l.first l.count l.items l.k c.read-l.result.bucket l.invariant)

pub bounds-count-b-in-loop-k : goal.bounds-count-b-in-loop-k
bounds-count-b-in-loop-k c = omega (arith, link-small (map_of c.args.text.now) c.requires c.loop-k.k _ c.loop-k-test.true (omega (arith, c.count-k.ensures)) c.read-l.ensures)

pub offset_bounds-items-k : goal.offset_bounds-items-k
offset_bounds-items-k c = omega (arith, (bounds (map_of c.args.text.now) c.requires).links)

pub bounds-items-k : goal.bounds-items-k
bounds-items-k c = omega (arith, (bounds (map_of c.args.text.now) c.requires).links)

pub loop-k-preserved : goal.loop-k-preserved
loop-k-preserved c =
    let m = map_of c.args.text.now in
    let l = c.loop-k in
    let w : l.k ≤ length m.links = omega (arith, c.count-k.ensures) in
    arranged-more m.links l.k _ l.first l.count l.items c.loop-k-test.true w (bounds m c.requires).links c.read-l.ensures
    (link-small m c.requires l.k _ c.loop-k-test.true w c.read-l.ensures) l.invariant

pub returns : goal.returns
returns c =
    let l = c.loop-k in
    arranged-all (map_of c.args.text.now) c.requires l.first l.count l.items l.k c.loop-k-test.false l.invariant
