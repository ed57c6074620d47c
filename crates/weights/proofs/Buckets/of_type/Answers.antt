-- `weights::Buckets::of_type` meets its contract. The loop's invariant: the loads are those after the buckets passed. Assumes nothing.
use Rattle.std.proofs.Common.{◌≡◌, refl, ap, ◌∙◌, arith}
use Rattle.weights.specs.Buckets.{arrays_of}
use Rattle.weights.specs.Weights.{round_to, round-taken, round-left}
use Rattle.weights.proofs.Buckets.of_type.Goals as goal
use Rattle.weights.proofs.Buckets.of_type.Goals.{then-self-b, else-self-b}

pub loop-b-init : goal.loop-b-init
unfolding round_to
loop-b-init c = refl

pub load_of-requires-clause-b_bound : goal.load_of-requires-clause-b_bound
load_of-requires-clause-b_bound c = rw c.loop-b.invariant (c.requires.fitting c.loop-b.b c.loop-b-test.true c.if-self-b.true)

pub loop-b-preserved : goal.loop-b-preserved
loop-b-preserved c =
    let s = c.args.self.now in
    let l = c.loop-b in
    elim c.if-self-b.branch [
      | then-self-b w ↦
          w.loads-is
          ∙ round-taken (arrays_of s) s.types.now c.args.ty l.b c.args.loads.now l.loads l.invariant w.load_of.result w.if-self-b.true w.load_of.ensures
      | else-self-b w ↦ w.loads-is ∙ round-left (arrays_of s) s.types.now c.args.ty l.b c.args.loads.now l.loads l.invariant w.if-self-b.false
    ]

pub returns : goal.returns
returns c =
    let s = c.args.self.now in
    let e : c.loop-b.b ≡ 256 = omega arith in
    c.loop-b.invariant ∙ ap (round_to (arrays_of s) s.types.now c.args.ty c.args.loads.now) e
