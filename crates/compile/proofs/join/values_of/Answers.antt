-- `compile::join::values_of` meets its contract. Assumes nothing.
use mathlib.Core.Path.{◌≡◌, ◌∙◌}
use native.Mathlib.Omega.{arith}
use lib.ListN.{length}
use Rattle.hierarchy.specs.Sections.{laid-here, laid-front}
use Rattle.hierarchy.specs.Arrays.{children_at}
use borrow.Author.Rules.{rules}
use Rattle.compile.proofs.join.values_of.Goals as goal

pub returns : goal.returns
returns c =
    let a = c.lay.ensures in
    let w = c.lay-2.ensures in
    let l = c.lay-3.ensures in
    let n : length c.lay.new.to ≡ 2560 = search rules in (
      laid-front l 0 1024 (omega arith) (omega (arith, n, w.long)) ∙ laid-front w 0 1024 (omega arith) (omega (arith, n)) ∙ laid-here a 1024 (search rules) (omega (arith, n, a.long)),
      laid-front l children_at 1280 (omega arith) (omega (arith, n, w.long)) ∙ laid-here w 1280 (search rules) (omega (arith, n)),
      laid-here l 256 (search rules) (omega (arith, n, w.long)),
    )
