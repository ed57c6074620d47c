-- `weights::loads_of` meets its contract. The loop's invariant: the loads are those after the types passed. Assumes nothing.
use mathlib.Core.Path.{◌≡◌, refl, ap, ◌∙◌}
use native.Mathlib.Omega.{arith}
use Rattle.weights.specs.Weights.{arrays, up_to, type-more}
use Rattle.weights.proofs.loads_of.Goals as goal

pub loop-ty-init : goal.loop-ty-init
unfolding up_to
loop-ty-init c = refl

pub of_type-requires : goal.of_type-requires
of_type-requires c =
    record { within = (c.requires.within.0, c.requires.within.1, omega arith); fitting = rw c.loop-ty.invariant (c.requires.by_index c.loop-ty.ty) }

pub loop-ty-preserved : goal.loop-ty-preserved
loop-ty-preserved c =
    let a = arrays c.args.first.now c.args.count.now c.args.items.now c.args.devices.now in
    type-more a c.args.types.now c.loop-ty.loads c.of_type.new.loads c.loop-ty.ty c.loop-ty.invariant c.of_type.ensures

pub returns : goal.returns
returns c =
    let a = arrays c.args.first.now c.args.count.now c.args.items.now c.args.devices.now in
    let e : c.loop-ty.ty ≡ c.top-most.result = omega arith in
    c.loop-ty.invariant ∙ ap (up_to a c.args.types.now) (e ∙ c.top-most.ensures)
