-- `members::once::once` meets its contract: the links from k on are left to ask, with the children seen so far. Assumes nothing.
use Rattle.std.proofs.Common.{◌≡◌, refl, ◌∙◌, ◌<◌, length, arith}
use Rattle.definitions.specs.Map.{map_of}
use Rattle.members.specs.Levels.{slot_of, link-in}
use Rattle.members.specs.Once.{unseen, fresh-next, fresh-stop, fresh-end, fresh-once}
use Rattle.members.proofs.once.once.Goals as goal

pub loop-k-init : goal.loop-k-init
unfolding unseen
loop-k-init c = refl

pub slot-i-requires : goal.slot-i-requires
slot-i-requires c =
    let at : c.loop-k.k < length (map_of c.args.t.now).links = omega (arith, c.count-k-end.ensures) in
    rw c.from.ensures (link-in (map_of c.args.t.now) c.requires c.loop-k.k c.read-l.result at c.read-l.ensures).child

pub returns-then-seen-i : goal.returns-then-seen-i
returns-then-seen-i c =
    let m = map_of c.args.t.now in
    let at : c.loop-k.k < length m.links = omega (arith, c.count-k-end.ensures) in
    let slot : c.slot-i.result ≡ slot_of c.read-l.result.child = rw c.from.ensures at c.slot-i.ensures.0 in
    fresh-stop c.loop-k.seen m.links c.loop-k.k at c.read-l.result c.read-l.ensures c.slot-i.result slot c.if-seen-i.true
    ∙ c.loop-k.invariant
    ∙ fresh-once m c.requires

pub loop-k-preserved : goal.loop-k-preserved
loop-k-preserved c =
    let m = map_of c.args.t.now in
    let at : c.loop-k.k < length m.links = omega (arith, c.count-k-end.ensures) in
    let slot : c.slot-i.result ≡ slot_of c.read-l.result.child = rw c.from.ensures at c.slot-i.ensures.0 in
    fresh-next c.loop-k.seen m.links c.loop-k.k at c.read-l.result c.read-l.ensures c.slot-i.result slot c.if-seen-i.false ∙ c.loop-k.invariant

pub returns : goal.returns
returns c =
    let m = map_of c.args.t.now in
    fresh-end c.loop-k.seen m.links c.loop-k.k (omega (arith, c.count-k-end.ensures)) ∙ c.loop-k.invariant ∙ fresh-once m c.requires
