-- `placement::rule::selected` meets its contract. Assumes nothing.
use mathlib.Core.Path.{◌≡◌, sym}
use Prim.Native.Nat.{◌≤◌}
use native.Mathlib.Omega.{arith}
use borrow.Author.Rules.{rules}
use lib.ListN.{length}
use lib.Seq.{length-take-le}
use Rattle.hierarchy.specs.Arrays.{view_in}
use Rattle.blocks.specs.Products.{product_after, added_by}
use Rattle.placement.specs.Chosen.{bare_in}
use Rattle.placement.specs.Progress.{run-select}
use Rattle.placement.proofs.rule.selected.Goals as goal
use Rattle.placement.proofs.rule.selected.Goals.{Start}

-- what is emitted is within its array
emitted : (s : Start) → s.args.p.emitted ≤ length s.args.p.list
emitted s = let w : length s.args.p.list ≡ 32 = search rules in omega (arith, w, s.args.p.emitted_bound)

pub slice_bounds-list-end : goal.slice_bounds-list-end
slice_bounds-list-end c = emitted (goal.at.slice_bounds-list-end c).Start

pub slice_bounds-select-end : goal.slice_bounds-select-end
slice_bounds-select-end c = sym (length-take-le _ _ (emitted (goal.at.slice_bounds-select-end c).Start))

pub select-c-requires : goal.select-c-requires
select-c-requires c =
    let a = c.args.p in
    let p = c.requires in
    record { flagged = p.flagged; before_len_bound = omega (arith, a.emitted_bound, length-take-le a.emitted a.list (emitted (goal.at.select-c-requires c).Start)); le_n = p.room.1 }

pub returns : goal.returns
unfolding product_after added_by
returns c =
    let a = c.args in
    let k = c.select-c in
    (run-select (view_in a.plan.now a.values.now) a.x a.p a.mode a.n a.t (bare_in k.result) k.ensures.result_value.0, record { len = k.ensures.result_value.1; emitted = omega arith; tries = omega (arith, k.ensures.result_value.2) })
