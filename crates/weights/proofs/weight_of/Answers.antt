-- `weights::weight_of` meets its contract: a bucket's weight stands at its number, a device's at its own. Assumes nothing.
use Rattle.std.proofs.Common.{ℕ, sym, ap, ◌∙◌, arith, get_or, leb-true, leb-false}
use Rattle.weights.specs.Weights.{item-bucket, item-device}
use Rattle.weights.proofs.weight_of.Goals as goal

pub returns-then-is_bucket : goal.returns-then-is_bucket
returns-then-is_bucket c =
    let a = c.args in
    ap (λ (b : ℕ). get_or a.loads.now b 0) (omega (arith, c.bucket_number.ensures, c.from-item.ensures))
    ∙ sym (item-bucket a.devices.now a.loads.now a.i (leb-true 65536 _ (rw c.from-item.ensures at (sym c.is_bucket.ensures) ∙ c.if-is_bucket.true)))

pub returns-else-is_bucket : goal.returns-else-is_bucket
returns-else-is_bucket c = let a = c.args in sym (item-device a.devices.now a.loads.now a.i (leb-false 65536 _ (rw c.from-item.ensures at (sym c.is_bucket.ensures) ∙ c.if-is_bucket.false)))
