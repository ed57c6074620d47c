-- `members::totals::totals_of` meets its contract: the first k links are counted and added, and no count is above k. Assumes nothing.
use Rattle.std.proofs.Common.{◌≡◌, refl, ◌∙◌, ◌≤◌, ◌<◌, length, rules, arith}
use native.Mathlib.Nat.{le_refl}
use Rattle.definitions.specs.Map.{map_of}
use Rattle.text.specs.Records.{shape-links}
use Rattle.members.specs.Tables.{blank}
use Rattle.members.specs.Levels.{link-in}
use Rattle.members.specs.Weights.{written_of}
use Rattle.members.specs.Totals.{totalled_none, totalled_more, totalled-most, links-few}
use Rattle.members.specs.Counts.{counted, counts-are}
use Rattle.members.specs.Sums.{adds, most, sums-are}
use Rattle.members.proofs.totals.totals_of.Goals as goal

pub loop-k-init : goal.loop-k-init
unfolding blank
loop-k-init c = (totalled_none counted 1, totalled_none (adds (map_of c.args.t.now)) most)

pub read-l-requires : goal.read-l-requires
read-l-requires c = let count = rw c.t.view_is at (shape-links c.t.inside.bytes.now c.t.inside.shape c.t.invariant.1) in omega arith

pub look_up-weight-requires : goal.look_up-weight-requires
look_up-weight-requires c =
    let count = rw c.t.view_is at (shape-links c.t.inside.bytes.now c.t.inside.shape c.t.invariant.1) in
    (c.requires.weights.size, rw c.from.ensures (link-in (map_of c.args.t.now) c.requires.ranged c.loop-k.k c.read-l.result (omega arith) c.read-l.ensures).child)

pub bounds-counts-b : goal.bounds-counts-b
bounds-counts-b c =
    let count = rw c.t.view_is at (shape-links c.t.inside.bytes.now c.t.inside.shape c.t.invariant.1) in
    omega (arith, (link-in (map_of c.args.t.now) c.requires.ranged c.loop-k.k c.read-l.result (omega arith) c.read-l.ensures).bucket)

pub overflow_add-counts : goal.overflow_add-counts
overflow_add-counts c =
    let m = map_of c.args.t.now in
    let count = rw c.t.view_is at (shape-links c.t.inside.bytes.now c.t.inside.shape c.t.invariant.1) in
    let inside : c.loop-k.k < length m.links = omega arith in
    let few = links-few c.t.inside.bytes.now c.t.invariant.0 c.t.inside.shape c.t.invariant.1 c.loop-k.k (rw c.t.view_is inside) in
    omega (arith, totalled-most counted 1 m.links c.loop-k.counts c.loop-k.k c.read-l.result.bucket c.loop-k.invariant.0 (omega arith) (link-in m c.requires.ranged c.loop-k.k c.read-l.result inside c.read-l.ensures).bucket)

pub bounds-counts-b-in-loop-k : goal.bounds-counts-b-in-loop-k
bounds-counts-b-in-loop-k c =
    let count = rw c.t.view_is at (shape-links c.t.inside.bytes.now c.t.inside.shape c.t.invariant.1) in
    omega (arith, (link-in (map_of c.args.t.now) c.requires.ranged c.loop-k.k c.read-l.result (omega arith) c.read-l.ensures).bucket)

pub bounds-sums-b : goal.bounds-sums-b
bounds-sums-b c =
    let count = rw c.t.view_is at (shape-links c.t.inside.bytes.now c.t.inside.shape c.t.invariant.1) in
    omega (arith, (link-in (map_of c.args.t.now) c.requires.ranged c.loop-k.k c.read-l.result (omega arith) c.read-l.ensures).bucket)

pub overflow_add-sums : goal.overflow_add-sums
overflow_add-sums c =
    let m = map_of c.args.t.now in
    let count = rw c.t.view_is at (shape-links c.t.inside.bytes.now c.t.inside.shape c.t.invariant.1) in
    let inside : c.loop-k.k < length m.links = omega arith in
    let few = links-few c.t.inside.bytes.now c.t.invariant.0 c.t.inside.shape c.t.invariant.1 c.loop-k.k (rw c.t.view_is inside) in
    let small : c.look_up-weight.result ≤ 4294967295 = search (rules, c.look_up-weight.type_inv) in
    omega (arith, totalled-most (adds m) most m.links c.loop-k.sums c.loop-k.k c.read-l.result.bucket c.loop-k.invariant.1 (omega arith) (link-in m c.requires.ranged c.loop-k.k c.read-l.result inside c.read-l.ensures).bucket)

pub bounds-sums-b-in-loop-k : goal.bounds-sums-b-in-loop-k
bounds-sums-b-in-loop-k c =
    let count = rw c.t.view_is at (shape-links c.t.inside.bytes.now c.t.inside.shape c.t.invariant.1) in
    omega (arith, (link-in (map_of c.args.t.now) c.requires.ranged c.loop-k.k c.read-l.result (omega arith) c.read-l.ensures).bucket)

pub loop-k-preserved : goal.loop-k-preserved
loop-k-preserved c =
    let m = map_of c.args.t.now in
    let count = rw c.t.view_is at (shape-links c.t.inside.bytes.now c.t.inside.shape c.t.invariant.1) in
    let inside : c.loop-k.k < length m.links = omega arith in
    let here = link-in m c.requires.ranged c.loop-k.k c.read-l.result inside c.read-l.ensures in
    let weight : c.look_up-weight.result ≡ written_of m c.read-l.result.child = rw c.from.ensures at c.look_up-weight.ensures ∙ c.requires.weights.weight c.read-l.result.child here.child in
    let small : c.look_up-weight.result ≤ 4294967295 = search (rules, c.look_up-weight.type_inv) in
    (totalled_more counted 1 m.links c.loop-k.counts c.loop-k.k c.read-l.result 1 c.loop-k.invariant.0 inside c.read-l.ensures here.bucket refl (le_refl 1), totalled_more (adds m) most m.links c.loop-k.sums c.loop-k.k c.read-l.result _ c.loop-k.invariant.1 inside c.read-l.ensures here.bucket weight small)

pub returns : goal.returns
returns c =
    let m = map_of c.args.t.now in
    let count = rw c.t.view_is at (shape-links c.t.inside.bytes.now c.t.inside.shape c.t.invariant.1) in
    let all : length m.links ≤ c.loop-k.k = omega arith in
    record { counts = counts-are m c.loop-k.counts c.loop-k.k c.loop-k.invariant.0 all; sums = sums-are m c.loop-k.sums c.loop-k.k c.loop-k.invariant.1 all }
