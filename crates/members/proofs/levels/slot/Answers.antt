-- `members::levels::slot` meets its contract: an item in range is a device or a bucket. Assumes nothing.
use mathlib.Core.Path.{◌≡◌, sym, ap, ◌∙◌}
use Prim.Native.Nat.{ℕ, ◌+◌, ◌<◌, ◌≤◌}
use borrow.Author.Tests.{leb-true, leb-false}
use native.Mathlib.Omega.{arith}
use Rattle.members.specs.Levels.{slot_of, slot-device, slot-bucket, slot_small}
use Rattle.members.proofs.levels.slot.Goals as goal

pub bucket_number-requires : goal.bucket_number-requires
bucket_number-requires c =
    let bucket : 65536 ≤ c.args.item.number = leb-true 65536 _ (sym c.is_bucket.ensures ∙ c.if-is_bucket.true) in
    bucket

pub overflow_add-result : goal.overflow_add-result
overflow_add-result c =
    let bucket : 65536 ≤ c.args.item.number = leb-true 65536 _ (sym c.is_bucket.ensures ∙ c.if-is_bucket.true) in
    let behind : c.bucket_number.result + 1024 ≡ slot_of c.args.item.number = ap (λ (n : ℕ). n + 1024) c.bucket_number.ensures ∙ slot-bucket c.args.item.number bucket in
    omega (arith, behind, slot_small c.args.item.number c.requires)

pub overflow_cast-result : goal.overflow_cast-result
overflow_cast-result c =
    let bucket : 65536 ≤ c.args.item.number = leb-true 65536 _ (sym c.is_bucket.ensures ∙ c.if-is_bucket.true) in
    let behind : c.bucket_number.result + 1024 ≡ slot_of c.args.item.number = ap (λ (n : ℕ). n + 1024) c.bucket_number.ensures ∙ slot-bucket c.args.item.number bucket in
    omega (arith, behind, slot_small c.args.item.number c.requires)

pub returns-then-is_bucket : goal.returns-then-is_bucket
returns-then-is_bucket c =
    let inside : (r : ℕ) → r ≡ slot_of c.args.item.number → (r ≡ slot_of c.args.item.number) × (r < 1280) = λ r e. (e, rw e (slot_small c.args.item.number c.requires)) in
    let bucket : 65536 ≤ c.args.item.number = leb-true 65536 _ (sym c.is_bucket.ensures ∙ c.if-is_bucket.true) in
    let behind : c.bucket_number.result + 1024 ≡ slot_of c.args.item.number = ap (λ (n : ℕ). n + 1024) c.bucket_number.ensures ∙ slot-bucket c.args.item.number bucket in
    inside _ behind

pub returns-else-is_bucket : goal.returns-else-is_bucket
returns-else-is_bucket c =
    let inside : (r : ℕ) → r ≡ slot_of c.args.item.number → (r ≡ slot_of c.args.item.number) × (r < 1280) = λ r e. (e, rw e (slot_small c.args.item.number c.requires)) in
    inside _ (slot-device c.args.item.number (leb-false 65536 _ (sym c.is_bucket.ensures ∙ c.if-is_bucket.false)))
