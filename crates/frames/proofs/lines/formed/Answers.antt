-- `frames::lines::formed` meets its contract. The loop's invariant: the answer for the lines from `at` on is the answer for all. Assumes nothing.
use mathlib.Core.Path.{◌≡◌, sym, ◌∙◌}
use native.Mathlib.Omega.{arith}
use lib.ListN.{drop, drop_of_length-le}
use borrow.Author.Rules.{rules}
use Rattle.definitions.specs.Lists.{every}
use Rattle.definitions.specs.Frames.{lines_of}
use Rattle.definitions.specs.Load.{line_formed, formed}
use Rattle.laws.specs.Lists.{every_first, every-fails}
use Rattle.text.specs.Lines.{plain}
use Rattle.frames.proofs.lines.formed.Goals as goal

pub line_end-e-requires : goal.line_end-e-requires
line_end-e-requires c = (search rules, (plain _ c.requires).last)

pub returns-then-not-line_formed : goal.returns-then-not-line_formed
unfolding formed
returns-then-not-line_formed c =
    sym (sym c.loop-at.invariant.1 ∙ every-fails line_formed _ _ _ c.line_end-e.ensures.2 (rw c.if-not-line_formed.true at (sym c.line_formed.ensures)))

pub loop-at-preserved : goal.loop-at-preserved
loop-at-preserved c =
    (search rules, every_first line_formed _ _ _ c.line_end-e.ensures.2 (rw c.if-not-line_formed.false at (sym c.line_formed.ensures)) ∙ c.loop-at.invariant.1)

pub returns : goal.returns
unfolding every formed lines_of
returns c =
    let e : drop c.loop-at.at c.args.t.now ≡ _ = drop_of_length-le c.args.t.now {i = c.loop-at.at} (omega arith) in
    rw e at c.loop-at.invariant.1
