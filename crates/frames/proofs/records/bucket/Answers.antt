-- `frames::records::bucket` meets its contract: the four fields stand where they are read, and the line is within the text. Assumes nothing.
use mathlib.Core.Path.{◌≡◌, ◌∙◌}
use Prim.Native.Nat.{ℕ, ◌+◌, ◌*◌}
use native.Mathlib.Omega.{arith}
use Rattle.definitions.specs.declared.Bucket.{Bucket}
use Rattle.text.specs.Frames.{line_bytes}
use Rattle.text.specs.Rows.{sum_at, buckets_start}
use Rattle.text.specs.Records.{bucket-at}
use Rattle.frames.specs.Words.{digits_in}
use Rattle.frames.proofs.records.bucket.Goals as goal

-- four fields are a bucket
same : (d : Bucket) (a b c w : ℕ) → a ≡ d.number → b ≡ d.ty → c ≡ d.kind → w ≡ d.weight
    → ◌≡◌ {A = Bucket} (record { number = a; ty = b; kind = c; weight = w }) d
same d a b c w p q r s = rw (p, q, r, s)

pub overflow_mul-at : goal.overflow_mul-at
overflow_mul-at c = omega (arith, (bucket-at c.args.t.now c.requires.0 c.args.s c.requires.1 c.args.k c.requires.2).room, c.well_formed.0)

pub overflow_add-at : goal.overflow_add-at
overflow_add-at c = omega (arith, (bucket-at c.args.t.now c.requires.0 c.args.s c.requires.1 c.args.k c.requires.2).room, c.well_formed.0)

pub overflow_mul-at-2 : goal.overflow_mul-at-2
overflow_mul-at-2 c = omega (arith, (bucket-at c.args.t.now c.requires.0 c.args.s c.requires.1 c.args.k c.requires.2).room, c.well_formed.0)

pub overflow_add-at-2 : goal.overflow_add-at-2
overflow_add-at-2 c = omega (arith, (bucket-at c.args.t.now c.requires.0 c.args.s c.requires.1 c.args.k c.requires.2).room, c.well_formed.0)

pub overflow_add-at-3 : goal.overflow_add-at-3
overflow_add-at-3 c = omega (arith, (bucket-at c.args.t.now c.requires.0 c.args.s c.requires.1 c.args.k c.requires.2).room, c.well_formed.0)

pub read_four-requires : goal.read_four-requires
read_four-requires c =
    (omega (arith, (bucket-at c.args.t.now c.requires.0 c.args.s c.requires.1 c.args.k c.requires.2).room), digits_in c.args.t.now (buckets_start c.args.s + c.args.k * line_bytes 2) 2 4 _ (bucket-at c.args.t.now c.requires.0 c.args.s c.requires.1 c.args.k c.requires.2).digits (omega arith))

pub overflow_add-at-4 : goal.overflow_add-at-4
overflow_add-at-4 c = omega (arith, (bucket-at c.args.t.now c.requires.0 c.args.s c.requires.1 c.args.k c.requires.2).room, c.well_formed.0)

pub field-requires : goal.field-requires
field-requires c = omega (arith, (bucket-at c.args.t.now c.requires.0 c.args.s c.requires.1 c.args.k c.requires.2).room)

pub overflow_add-at-5 : goal.overflow_add-at-5
overflow_add-at-5 c = omega (arith, (bucket-at c.args.t.now c.requires.0 c.args.s c.requires.1 c.args.k c.requires.2).room, c.well_formed.0)

pub field-requires-2 : goal.field-requires-2
field-requires-2 c = omega (arith, (bucket-at c.args.t.now c.requires.0 c.args.s c.requires.1 c.args.k c.requires.2).room)

pub overflow_add-at-6 : goal.overflow_add-at-6
overflow_add-at-6 c = omega (arith, (bucket-at c.args.t.now c.requires.0 c.args.s c.requires.1 c.args.k c.requires.2).room, c.well_formed.0)

pub read_eight-requires : goal.read_eight-requires
read_eight-requires c =
    (omega (arith, (bucket-at c.args.t.now c.requires.0 c.args.s c.requires.1 c.args.k c.requires.2).room), digits_in c.args.t.now (buckets_start c.args.s + c.args.k * line_bytes 2) sum_at 8 _ (bucket-at c.args.t.now c.requires.0 c.args.s c.requires.1 c.args.k c.requires.2).digits (omega arith))

pub returns : goal.returns
returns c =
    let h = bucket-at c.args.t.now c.requires.0 c.args.s c.requires.1 c.args.k c.requires.2 in
    same _ _ _ _ _ (c.read_four.ensures ∙ h.number) (c.field.ensures ∙ h.ty) (c.field-2.ensures ∙ h.kind) (c.read_eight.ensures ∙ h.weight)
