-- What the bytes from `i` on add to those before. Assumes nothing.
use mathlib.Core.Path.{sym, ◌∙◌}
use native.Mathlib.Omega.{arith}
use Rattle.protocol.specs.Input.{part_none, part-next, part-whole}
use Rattle.protocol.proofs.input.map_part.Goals as goal

pub returns-then-is_whole : goal.returns-then-is_whole
returns-then-is_whole c =
    let t = c.args.read.now in
    let e = part-whole c.loop-i.s t c.loop-i.i (sym c.is_whole.ensures ∙ c.if-is_whole.true) in
    (omega (arith, c.loop-i.invariant.0, e.0), sym (c.loop-i.invariant.1 ∙ e.1), omega arith)

pub loop-i-preserved : goal.loop-i-preserved
loop-i-preserved c =
    let t = c.args.read.now in
    let e = part-next c.loop-i.s t c.loop-i.i (omega arith) (sym c.is_whole.ensures ∙ c.if-is_whole.false) in
    let o = c.on_byte-s.ensures in
    (rw o (omega (arith, c.loop-i.invariant.0, e.0)), rw o (c.loop-i.invariant.1 ∙ e.1))

pub returns : goal.returns
returns c =
    let t = c.args.read.now in
    let e = part_none c.loop-i.s t c.loop-i.i (omega arith) in
    (omega (arith, c.loop-i.invariant.0, e.0), sym (c.loop-i.invariant.1 ∙ e.1), omega arith)
