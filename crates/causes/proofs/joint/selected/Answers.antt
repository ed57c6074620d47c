-- `causes::joint::selected` meets its contract. Assumes nothing.
use Rattle.std.proofs.Common.{arith}
use Rattle.hierarchy.specs.Arrays.{view_in}
use Rattle.blocks.specs.Products.{product_after, added_by}
use Rattle.placement.specs.Chosen.{bare_in}
use Rattle.placement.specs.Progress.{run-select}
use Rattle.causes.proofs.joint.selected.Goals as goal

pub returns : goal.returns
unfolding product_after added_by
returns c =
    let a = c.args in
    let d = c.in_ok-c.c in
    let (o, n, l, t) = c.in_ok-c.ensures in
    let old = view_in a.plan.now a.old.now in
    let new = view_in a.plan.now a.new.now in (
      (run-select old a.x a.p a.mode a.n a.t (bare_in d) o, record { len = l; emitted = omega arith; tries = omega (arith, t) }),
      (run-select new a.x a.p a.mode a.n a.t (bare_in d) n, record { len = l; emitted = omega arith; tries = omega (arith, t) }),
    )
