-- `walk::accepts` meets its contract: a bucket passes, and a device by its acceptance. Assumes nothing.
use Rattle.std.proofs.Common.{sym, ◌∙◌, arith}
use borrow.Author.Tests.{leb-false}
use Rattle.definitions.specs.Walk.{device_accepts, accepted}
use Rattle.hierarchy.specs.Sections.{section-front}
use Rattle.walk.specs.Bounds.{device-below}
use Rattle.walk.proofs.accepts.Goals as goal

pub returns-then-is_bucket : goal.returns-then-is_bucket
unfolding accepted
returns-then-is_bucket c = simp (rw c.from-item.ensures at (sym c.is_bucket.ensures ∙ c.if-is_bucket.true))

-- an item that is no bucket's is a device below 1,024
pub bounds-values-i : goal.bounds-values-i
bounds-values-i c =
    let no = rw c.from-item.ensures at (sym c.is_bucket.ensures ∙ c.if-is_bucket.false) in
    omega (arith, device-below c.args.i c.requires (leb-false 65536 c.args.i no))

pub returns : goal.returns
unfolding accepted device_accepts
returns c =
    let a = c.args in
    let no = rw c.from-item.ensures at (sym c.is_bucket.ensures ∙ c.if-is_bucket.false) in
    simp (no, c.decide.ensures, section-front 1024 a.i a.values.now (device-below a.i c.requires (leb-false 65536 a.i no)))
