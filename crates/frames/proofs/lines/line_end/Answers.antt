-- `frames::lines::line_end` meets its contract. The loop's invariant: the line that starts at `at` goes on at
-- `e`. A text that ends with the byte 10 stops the loop. Assumes nothing.
use native.Mathlib.Omega.{arith}
use borrow.Author.Rules.{rules}
use Rattle.text.specs.Lines.{not_last, first_next, first-stop, line_at}
use Rattle.frames.proofs.lines.line_end.Goals as goal

pub loop-e-preserved : goal.loop-e-preserved
loop-e-preserved c =
    let t = c.args.t.now in
    (search rules, not_last t c.loop-e.e (omega arith) c.loop-e-test.true c.requires.1, omega (arith, first_next t c.loop-e.e (omega arith) c.loop-e-test.true))

pub returns : goal.returns
returns c =
    let t = c.args.t.now in
    (search rules, search rules, line_at t c.args.at c.loop-e.e (omega arith) (omega arith) (omega (arith, first-stop t c.loop-e.e (omega arith) c.loop-e-test.false)))
