-- `compile::values_of` meets its contract: the children's weights, a tree's as sums, and the acceptances, laid into the values, give the map's view with its
-- plan. Assumes nothing.
use mathlib.Core.Path.{◌∙◌}
use Rattle.compile.specs.Compiled.{parts_are, view-is}
use Rattle.compile.proofs.values_of.Goals as goal

pub words_of-words-requires : goal.words_of-words-requires
words_of-words-requires c =
    let p = c.requires in
    let w = p.1 in
    parts_are p.0 w.loadable w.planned c.weigh_children-weights.result (c.weigh_children-weights.ensures p.0 w p.2)

pub returns : goal.returns
returns c =
    let o = c.values_of.ensures in record {
      result_value = λ m w l a.
          view-is m w.loadable w.planned _ (rw o.0 a)
          (λ b. rw o.1 (c.words_of-words.ensures b ∙ rw (c.weigh_children-weights.ensures m w l b)));
      result_value_2 = o.2;
    }
