-- `causes::act` meets its contract: both runs make the step, and then the causes of their places follow. Assumes nothing.
use Rattle.std.proofs.Common.{◌≡◌, length, arith}
use borrow.Author.Rules.{rules}
use Rattle.hierarchy.specs.Arrays.{view_in}
use Rattle.causes.specs.Beside.{leads}
use Rattle.causes.proofs.act.Goals as goal

pub returns : goal.returns
returns c =
    let k = c.args in
    let e = c.act-o.ensures in
    let w : length c.act-o.result.working ≡ 16 = search (rules, c.act-o.type_inv) in
    let l : length c.act-o.result.list ≡ 32 = search (rules, c.act-o.type_inv) in
    leads (view_in k.plan.now k.old.now) (view_in k.plan.now k.new.now) k.x k.p k.a _ (omega (arith, w, c.act-o.result.len_bound)) (omega (arith, l, c.act-o.result.emitted_bound)) e
    c.act-n.ensures c.worked-causes.ensures (c.listed-list.ensures _ _ _)
