-- `placement::rule::take_bucket` meets its contract. Assumes nothing.
use mathlib.Core.Path.{◌≡◌}
use native.Mathlib.Omega.{arith}
use borrow.Author.Rules.{rules}
use lib.ListN.{length}
use Rattle.blocks.specs.Products.{product_after, added_by}
use Rattle.placement.specs.Progress.{run_take}
use Rattle.placement.proofs.rule.take_bucket.Goals as goal

pub returns : goal.returns
unfolding product_after added_by
returns c =
    let a = c.args in
    let i : length a.p.items ≡ 16 = search rules in
    let w : length a.p.working ≡ 16 = search rules in
    (λ v x. run_take v x a.p a.b c.bucket-i.result.number (omega (arith, i)) (omega (arith, w)) c.bucket-i.ensures, record { len = omega arith; emitted = omega arith; tries = omega arith })
