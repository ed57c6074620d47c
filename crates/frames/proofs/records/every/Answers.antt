-- `frames::records::every` meets its contract. The loop's invariant: for any test that the closure computes, what the records from k on say is what all
-- say. Assumes nothing.
use Rattle.std.proofs.Common.{arith}
use Rattle.definitions.specs.Map.{map_of}
use Rattle.frames.proofs.Each.{tested-none, tested-next, tested-stop, tested-end}
use Rattle.frames.proofs.records.every.Goals as goal

pub loop-k-init : goal.loop-k-init
loop-k-init g c = λ p h. tested-none p (g.R.Record.listed (map_of c.args.text.now))

pub returns-then-not-test : goal.returns-then-not-test
returns-then-not-test g c = λ p h.
    let xs = g.R.Record.listed (map_of c.args.text.now) in
    tested-stop p xs _ c.loop-k.k c.count-k-end.ensures (c.loop-k.invariant p h) g.R.Record.none _ _ c.loop-k-test.true c.read.ensures
    (rw c.read.ensures (h c.loop-k.k (omega (arith, c.count-k-end.ensures, c.loop-k-test.true)) c.test.result (rw c.read.ensures at c.test.ensures))) c.if-not-test.true

pub loop-k-preserved : goal.loop-k-preserved
loop-k-preserved g c = λ p h.
    let xs = g.R.Record.listed (map_of c.args.text.now) in
    tested-next p xs _ c.loop-k.k c.count-k-end.ensures (c.loop-k.invariant p h) g.R.Record.none _ _ c.loop-k-test.true c.read.ensures
    (rw c.read.ensures (h c.loop-k.k (omega (arith, c.count-k-end.ensures, c.loop-k-test.true)) c.test.result (rw c.read.ensures at c.test.ensures))) c.if-not-test.false

pub returns : goal.returns
returns g c = λ p h.
    tested-end p (g.R.Record.listed (map_of c.args.text.now)) _ c.loop-k.k c.count-k-end.ensures (c.loop-k.invariant p h) c.loop-k-test.false
