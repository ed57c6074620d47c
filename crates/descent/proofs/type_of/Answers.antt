-- `descent::type_of` meets its contract: each arm of the test is a case of `type_in`. Assumes nothing.
use Rattle.std.proofs.Common.{◌≡◌, ◌≤◌, true, sym, ◌∙◌}
use borrow.Author.Tests.{leb-true}
use Rattle.definitions.specs.Map.{is_bucket, bucket_number}
use Rattle.hierarchy.specs.Sections.{section-at}
use Rattle.hierarchy.specs.Arrays.{types_at}
use Rattle.descent.specs.Descent.{type-bucket, bucket-below}
use Rattle.descent.proofs.type_of.Goals as goal

pub returns-then-is_bucket : goal.returns-then-is_bucket
returns-then-is_bucket c =
    let bucket : is_bucket c.args.i ≡ true = rw c.from-item.ensures at (sym c.is_bucket.ensures ∙ c.if-is_bucket.true) in
    let above : 65536 ≤ c.args.i = leb-true 65536 c.args.i bucket in
    let number : c.bucket_number.result ≡ bucket_number c.args.i = rw c.from-item.ensures at c.bucket_number.ensures in
    rw (number, type-bucket _ c.args.i above, section-at types_at 256 _ c.args.plan.now (bucket-below c.args.i c.requires above))
