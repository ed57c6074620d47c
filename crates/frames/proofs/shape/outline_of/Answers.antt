-- `frames::shape::outline_of` meets its contract. The loop's invariant: what is counted, with the counts of the lines from `at` on, is the shape,
-- and the answer so far, joined with the one for their kinds behind `last`, is the answer for all; each count is at most `at`, so that nothing
-- wraps. Assumes nothing.
use mathlib.Core.Path.{refl, sym, ◌∙◌}
use mathlib.Core.Bool.{and-true}
use Prim.Native.Nat.{◌+◌}
use native.Mathlib.Omega.{arith}
use borrow.Author.Rules.{rules}
use Rattle.definitions.specs.Lists.{linked_from}
use Rattle.definitions.specs.Load.{formed}
use Rattle.text.specs.Lines.{plain}
use Rattle.text.specs.Frames.{sorted_more, none_left}
use Rattle.text.specs.Shape.{more-small, none-shape, shape-next, shape-end, small-le}
use Rattle.frames.proofs.shape.outline_of.Goals as goal

pub loop-at-init : goal.loop-at-init
unfolding formed
loop-at-init c = (search rules, c.requires.1, search rules, none-shape _, refl)

pub line_at-l-requires : goal.line_at-l-requires
line_at-l-requires c = (search rules, (plain _ c.requires.0).last, c.loop-at.invariant.1)

pub count-s-requires : goal.count-s-requires
count-s-requires c = small-le _ _ _ c.loop-at.invariant.2 (omega (arith, (plain _ c.requires.0).most))

pub loop-at-preserved : goal.loop-at-preserved
loop-at-preserved c =
    let l = c.loop-at in
    let r = c.line_at-l.ensures in (
      r.1,
      r.4,
      rw c.count-s.ensures (more-small _ _ (l.at + 1) _ l.invariant.2 (omega (arith, r.0))),
      rw c.count-s.ensures (shape-next _ _ _ _ _ _ l.invariant.3 r.3 r.2),
      sorted_more _ _ _ _ l.last l.sorted r.3 r.2 ∙ l.invariant.4,
    )

pub returns : goal.returns
unfolding linked_from
returns c =
    let n = none_left c.args.t.now c.loop-at.at (omega arith) in
    (shape-end _ _ _ c.loop-at.invariant.3 n, sym (and-true c.loop-at.sorted) ∙ rw n at c.loop-at.invariant.4)
