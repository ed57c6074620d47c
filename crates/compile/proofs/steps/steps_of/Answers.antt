-- `compile::steps::steps_of` meets its contract. The loop's invariant: the first k steps are the map's. Assumes nothing.
use Rattle.std.proofs.Common.{refl, ◌∙◌, arith, length-set}
use Rattle.definitions.specs.Map.{map_of}
use Rattle.laws.specs.Loadable.{bounds}
use Rattle.compile.specs.Reading.{steps-more, steps_all}
use Rattle.compile.proofs.steps.steps_of.Goals as goal

pub loop-k-init : goal.loop-k-init
loop-k-init c = (refl, refl)

pub bounds-steps-k : goal.bounds-steps-k
bounds-steps-k c = omega (arith, c.count-k-end.ensures, (bounds (map_of c.args.text.now) c.requires).steps)

pub loop-k-preserved : goal.loop-k-preserved
loop-k-preserved c =
    let m = map_of c.args.text.now in
    let l = c.loop-k in (
      length-set l.steps l.k c.read.result ∙ l.invariant.0,
      steps-more m.steps l.steps l.k c.read.result (omega (arith, c.count-k-end.ensures)) (omega (arith, c.count-k-end.ensures, (bounds m c.requires).steps)) c.read.ensures
          l.invariant.1,
    )

pub returns : goal.returns
returns c =
    let m = map_of c.args.text.now in
    let l = c.loop-k in
    steps_all m.steps l.steps l.k _ refl (omega (arith, c.count-k-end.ensures)) (omega (arith, c.count-k-end.ensures)) l.invariant.1
