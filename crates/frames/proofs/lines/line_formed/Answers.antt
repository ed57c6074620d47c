-- `frames::lines::line_formed` meets its contract: by the kind that is read and the table of lengths. Assumes nothing.
use mathlib.Core.Path.{sym, ◌∙◌}
use Prim.Native.Nat.{◌-◌}
use native.Mathlib.Omega.{arith}
use Rattle.text.specs.Frames.{bad-short, bad_kind, by_length, part-kind, part_length}
use Rattle.frames.proofs.lines.line_formed.Goals as goal

pub returns-then-n-lt-END : goal.returns-then-n-lt-END
returns-then-n-lt-END c =
    let a = c.args in
    sym (bad-short _ (rw (part_length a.t.now a.at a.e (omega arith) (omega arith)) c.if-n-lt-END.true))

pub returns-then-k-gt5 : goal.returns-then-k-gt5
returns-then-k-gt5 c =
    let a = c.args in
    sym (bad_kind _ (rw (part-kind a.t.now a.at (a.e - a.at) (omega arith), ← c.field-k.ensures) c.if-k-gt5.true))

pub returns : goal.returns
returns c =
    let a = c.args in
    by_length _ _ _ (part_length a.t.now a.at a.e (omega arith) (omega arith))
    (part-kind a.t.now a.at (a.e - a.at) (omega arith) ∙ sym c.field-k.ensures) (omega arith)
