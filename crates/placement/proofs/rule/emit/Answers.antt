-- `placement::rule::emit` meets its contract. Assumes nothing.
use mathlib.Core.Path.{◌≡◌, refl}
use native.Mathlib.Omega.{arith}
use borrow.Author.Rules.{rules}
use lib.ListN.{length}
use Rattle.blocks.specs.Products.{product_after, added_by}
use Rattle.placement.specs.Progress.{run-emit}
use Rattle.placement.proofs.rule.emit.Goals as goal

pub returns : goal.returns
unfolding product_after added_by
returns c =
    let p = c.args.p in
    let w : length p.working ≡ 16 = search rules in
    let l : length p.list ≡ 32 = search rules in
    (λ v x. run-emit v x p _ p.len refl (omega (arith, w, p.len_bound)) (omega (arith, l, p.emitted_bound)) c.append-longer.ensures, record { len = omega arith; emitted = omega arith; tries = omega arith })
