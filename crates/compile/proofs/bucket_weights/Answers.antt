-- `compile::bucket_weights` meets its contract: the sections of the plan are lent as the arrays that they hold, and the loads that come of
-- them are the weights of the map's buckets. Assumes nothing.
use mathlib.Core.Path.{◌≡◌}
use native.Mathlib.Omega.{arith}
use lib.ListN.{length}
use borrow.Author.Rules.{rules}
use Rattle.hierarchy.specs.Sections.{section, section-length}
use Rattle.hierarchy.specs.Arrays.{types_at}
use Rattle.compile.specs.Weighing.{within, fitting, loads-are}
use Rattle.compile.proofs.bucket_weights.Goals as goal

pub loads_of-requires : goal.loads_of-requires
unfolding section
loads_of-requires c =
    let m = c.requires.0 in
    let w = rw (← c.plan.view_is) at c.requires.1 in
    let k = w.planned in
    record {
      within = (within m w.loadable k.arranged w.owned k.typed, section-length types_at 256 c.plan.inside.words (omega arith));
      by_index = fitting m w.loadable k.arranged w.owned k.typed;
    }

pub returns : goal.returns
unfolding section
returns c m w =
    let w = rw (← c.plan.view_is) at w in
    let k = w.planned in
    rw c.loads_of.ensures (loads-are m w.loadable k.arranged w.owned k.typed)
