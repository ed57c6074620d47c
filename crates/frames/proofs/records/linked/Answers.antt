-- `frames::records::linked` meets its contract. The loop's invariant: `last` is the record before k, and for any test that the closure computes, what
-- `last` and the records from k on say is what all say. Assumes nothing.
use Rattle.std.proofs.Common.{◌≡◌, ◌+◌, ◌-◌, sym, ◌∙◌, arith}
use Rattle.definitions.specs.Map.{map_of}
use Rattle.frames.proofs.Each.{chained-none, chained-first, chained-next, chained-stop, chained-end, pair-says}
use Rattle.frames.proofs.records.linked.Goals as goal

pub returns-then-n-eq0 : goal.returns-then-n-eq0
returns-then-n-eq0 g c = λ p h. chained-none p (g.R.Record.listed (map_of c.args.text.now)) g.R.Record.none _ c.count-n.ensures c.if-n-eq0.true

pub loop-k-init : goal.loop-k-init
loop-k-init g c =
    let xs = g.R.Record.listed (map_of c.args.text.now) in
    (c.read-last.ensures, λ p h. chained-first p xs g.R.Record.none _ c.count-n.ensures c.read-last.result c.if-n-eq0.false c.read-last.ensures)

pub returns-then-not-test : goal.returns-then-not-test
returns-then-not-test g c = λ p h.
    let xs = g.R.Record.listed (map_of c.args.text.now) in
    chained-stop p xs g.R.Record.none _ c.count-n.ensures c.loop-k.k c.loop-k.last (c.loop-k.invariant.1 p h) c.read-next.result c.loop-k-test.true
    c.read-next.ensures (sym (pair-says (λ x y b. g.F.Fn.post c.args.test (x, (y, tt)) b) xs g.R.Record.none p h c.loop-k.k c.loop-k.auto.k (omega (arith, c.count-n.ensures)) c.loop-k.last c.read-next.result c.loop-k.invariant.0 c.read-next.ensures c.test.result c.test.ensures) ∙ c.if-not-test.true)

pub loop-k-preserved : goal.loop-k-preserved
loop-k-preserved g c =
    let xs = g.R.Record.listed (map_of c.args.text.now) in
    let e : c.loop-k.k + 1 - 1 ≡ c.loop-k.k = omega arith in
    (rw e c.read-next.ensures, λ p h. chained-next p xs g.R.Record.none _ c.count-n.ensures c.loop-k.k c.loop-k.last (c.loop-k.invariant.1 p h) c.read-next.result c.loop-k-test.true c.read-next.ensures (sym (pair-says (λ x y b. g.F.Fn.post c.args.test (x, (y, tt)) b) xs g.R.Record.none p h c.loop-k.k c.loop-k.auto.k (omega (arith, c.count-n.ensures)) c.loop-k.last c.read-next.result c.loop-k.invariant.0 c.read-next.ensures c.test.result c.test.ensures) ∙ c.if-not-test.false))

pub returns : goal.returns
returns g c = λ p h.
    let xs = g.R.Record.listed (map_of c.args.text.now) in
    chained-end p xs g.R.Record.none _ c.count-n.ensures c.loop-k.k c.loop-k.last (c.loop-k.invariant.1 p h) c.loop-k-test.false
