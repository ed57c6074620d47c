-- `compile::buckets::buckets_of` meets its contract. The loop's invariant: the tables have the types and the kinds of the buckets from the k-th on.
-- Assumes nothing.
use Rattle.std.proofs.Common.{◌≤◌, length, arith}
use Rattle.definitions.specs.Map.{map_of}
use Rattle.compile.specs.Reading.{field-none, bucket-small, field-more, types-all, kinds-all}
use Rattle.compile.proofs.buckets.buckets_of.Goals as goal

pub loop-k-init : goal.loop-k-init
loop-k-init c =
    let m = map_of c.args.text.now in
    (field-none (λ b. b.ty) m _ c.count-k.ensures, field-none (λ b. b.kind) m _ c.count-k.ensures)

pub bounds-types-i : goal.bounds-types-i
bounds-types-i c = bucket-small (map_of c.args.text.now) c.requires c.loop-k.k _ c.loop-k-test.true (omega (arith, c.count-k.ensures)) c.read-b.ensures

pub bounds-kinds-i : goal.bounds-kinds-i
bounds-kinds-i c = bucket-small (map_of c.args.text.now) c.requires c.loop-k.k _ c.loop-k-test.true (omega (arith, c.count-k.ensures)) c.read-b.ensures

pub loop-k-preserved : goal.loop-k-preserved
loop-k-preserved c =
    let m = map_of c.args.text.now in
    let l = c.loop-k in
    let w : l.k ≤ length m.buckets = omega (arith, c.count-k.ensures) in (
      field-more m c.requires l.k _ c.loop-k-test.true w c.read-b.ensures (λ b. b.ty) l.types l.invariant.0,
      field-more m c.requires l.k _ c.loop-k-test.true w c.read-b.ensures (λ b. b.kind) l.kinds l.invariant.1,
    )

pub returns : goal.returns
returns c =
    let m = map_of c.args.text.now in
    let l = c.loop-k in
    record { tabled = types-all m l.k l.types c.loop-k-test.false l.invariant.0; tabled_2 = kinds-all m l.k l.kinds c.loop-k-test.false l.invariant.1 }
