-- `compile::join::plan_of` meets its contract: each array is laid behind the ones before it. Assumes nothing.
use mathlib.Core.Path.{◌≡◌, ◌∙◌}
use native.Mathlib.Omega.{arith}
use lib.ListN.{length}
use lib.Seq.{get_or-set_same}
use Rattle.hierarchy.specs.Sections.{laid-here, laid-front, section-set}
use Rattle.hierarchy.specs.Arrays.{count_at, types_at, kinds_at, children_at, seed_at}
use borrow.Author.Rules.{rules}
use Rattle.compile.proofs.join.plan_of.Goals as goal

pub returns : goal.returns
returns c =
    let f = c.lay.ensures in
    let k = c.lay-2.ensures in
    let y = c.lay-3.ensures in
    let u = c.lay-4.ensures in
    let i = c.lay-5.ensures in
    let p = c.lay-5.new.to in
    let n : length p ≡ 2305 = search rules in (
      section-set 0 256 seed_at _ p (omega arith) (omega (arith, n)) ∙ laid-front i 0 256 (omega arith) (omega (arith, n, i.long, u.long, y.long, k.long, f.long)) ∙ laid-front u 0 256 (omega arith) (omega (arith, n, i.long, u.long, y.long, k.long, f.long)) ∙ laid-front y 0 256 (omega arith) (omega (arith, n, i.long, u.long, y.long, k.long, f.long)) ∙ laid-front k 0 256 (omega arith) (omega (arith, n, i.long, u.long, y.long, k.long, f.long)) ∙ laid-here f 256 (search rules) (omega (arith, n, i.long, u.long, y.long, k.long, f.long)),
      section-set count_at 256 seed_at _ p (omega arith) (omega (arith, n)) ∙ laid-front i count_at 256 (omega arith) (omega (arith, n, i.long, u.long, y.long, k.long, f.long)) ∙ laid-front u count_at 256 (omega arith) (omega (arith, n, i.long, u.long, y.long, k.long, f.long)) ∙ laid-front y count_at 256 (omega arith) (omega (arith, n, i.long, u.long, y.long, k.long, f.long)) ∙ laid-here k 256 (search rules) (omega (arith, n, i.long, u.long, y.long, k.long, f.long)),
      section-set types_at 256 seed_at _ p (omega arith) (omega (arith, n)) ∙ laid-front i types_at 256 (omega arith) (omega (arith, n, i.long, u.long, y.long, k.long, f.long)) ∙ laid-front u types_at 256 (omega arith) (omega (arith, n, i.long, u.long, y.long, k.long, f.long)) ∙ laid-here y 256 (search rules) (omega (arith, n, i.long, u.long, y.long, k.long, f.long)),
      section-set kinds_at 256 seed_at _ p (omega arith) (omega (arith, n)) ∙ laid-front i kinds_at 256 (omega arith) (omega (arith, n, i.long, u.long, y.long, k.long, f.long)) ∙ laid-here u 256 (search rules) (omega (arith, n, i.long, u.long, y.long, k.long, f.long)),
      section-set children_at 1280 seed_at _ p (omega arith) (omega (arith, n)) ∙ laid-here i 1280 (search rules) (omega (arith, n, i.long, u.long, y.long, k.long, f.long)),
      get_or-set_same p seed_at _ 0 (omega (arith, n)),
    )
