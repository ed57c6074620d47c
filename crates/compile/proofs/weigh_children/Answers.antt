-- `compile::weigh_children` meets its contract: the buckets' weights are the map's, so those of the children are. Assumes nothing.
use mathlib.Core.Path.{◌≡◌}
use native.Mathlib.Omega.{arith}
use lib.ListN.{length}
use borrow.Author.Rules.{rules}
use Rattle.hierarchy.specs.Sections.{section, section-length}
use Rattle.hierarchy.specs.Arrays.{children_at}
use Rattle.compile.specs.Compiled.{weights-are}
use Rattle.compile.proofs.weigh_children.Goals as goal

pub weights_of-requires : goal.weights_of-requires
unfolding section
weights_of-requires c =
    let w = rw (← c.plan.view_is) at c.requires.1 in
    (search rules, search rules, section-length children_at 1280 c.plan.inside.words (omega arith), w.planned.arranged.ranged)

pub returns : goal.returns
unfolding section
returns c m w l b =
    let w = rw (← c.plan.view_is) at w in
    rw (← c.plan.view_is) (rw c.weights_of.ensures (weights-are m w.loadable w.planned w.owned l b))
