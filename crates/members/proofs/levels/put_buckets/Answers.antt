-- `members::levels::put_buckets` meets its contract: after k turns the tables are those of the first k buckets, and each bucket's number is that of a
-- slot behind the devices'. Assumes nothing.
use Rattle.std.proofs.Common.{◌≡◌, ap, ◌∙◌, ◌+◌, ◌<◌, length, arith}
use Rattle.definitions.specs.Map.{map_of}
use Rattle.members.specs.Levels.{slot_of, slot-number, bucket-item, bucket-in, bucket_level, bucket_own, buckets_to, buckets-none, buckets-more}
use Rattle.members.proofs.levels.put_buckets.Goals as goal

pub loop-k-init : goal.loop-k-init
loop-k-init c =
    let a = c.args in
    (buckets-none (map_of a.t.now) bucket_level a.devices.levels, buckets-none (map_of a.t.now) bucket_own a.devices.weights)

pub bucket-requires : goal.bucket-requires
bucket-requires c =
    let at : c.loop-k.k < length (map_of c.args.t.now).buckets = omega (arith, c.count-k-end.ensures) in
    omega (arith, (bucket-in (map_of c.args.t.now) c.requires c.loop-k.k c.read-b.result at c.read-b.ensures).number)

pub slot-i-requires : goal.slot-i-requires
slot-i-requires c =
    let at : c.loop-k.k < length (map_of c.args.t.now).buckets = omega (arith, c.count-k-end.ensures) in
    rw c.bucket.ensures (bucket-item c.read-b.result.number (bucket-in (map_of c.args.t.now) c.requires c.loop-k.k c.read-b.result at c.read-b.ensures).number)

pub overflow_add-levels : goal.overflow_add-levels
overflow_add-levels c =
    let at : c.loop-k.k < length (map_of c.args.t.now).buckets = omega (arith, c.count-k-end.ensures) in
    omega (arith, (bucket-in (map_of c.args.t.now) c.requires c.loop-k.k c.read-b.result at c.read-b.ensures).most)

pub loop-k-preserved : goal.loop-k-preserved
loop-k-preserved c =
    let a = c.args in
    let m = map_of a.t.now in
    let slot : c.slot-i.result ≡ c.read-b.result.number + 1024 = c.slot-i.ensures.0 ∙ ap slot_of c.bucket.ensures ∙ slot-number c.read-b.result.number in
    rw slot
    (buckets-more m bucket_level a.devices.levels c.loop-k.k c.loop-k.levels c.read-b.result c.loop-k.invariant.0 c.read-b.ensures, buckets-more m bucket_own a.devices.weights c.loop-k.k c.loop-k.weights c.read-b.result c.loop-k.invariant.1 c.read-b.ensures)

pub returns : goal.returns
returns c =
    let m = map_of c.args.t.now in
    let e : c.loop-k.k ≡ length m.buckets = omega (arith, c.count-k-end.ensures) in
    record {
      levels_value = c.loop-k.invariant.0 ∙ ap (buckets_to bucket_level m c.args.devices.levels) e;
      weights_value = c.loop-k.invariant.1 ∙ ap (buckets_to bucket_own m c.args.devices.weights) e;
    }
