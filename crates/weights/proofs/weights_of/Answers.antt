-- `weights::weights_of` meets its contract. The loop's invariant: the items passed have their weights. Assumes nothing.
use mathlib.Core.Path.{refl, ◌∙◌, sym}
use Prim.Native.Nat.{ℕ}
use native.Mathlib.Omega.{arith}
use lib.ListN.{get_or, length-set}
use Rattle.weights.specs.Weights.{item_in, filled_more, filled-all}
use Rattle.weights.proofs.weights_of.Goals as goal

pub loop-i-init : goal.loop-i-init
loop-i-init c = (refl, λ j h. absurd (omega arith))

pub loop-i-preserved : goal.loop-i-preserved
loop-i-preserved c =
    let a = c.args in
    let l = c.loop-i in (
      length-set l.weights l.i c.weight_of.result ∙ l.invariant.0,
      filled_more (λ (j : ℕ). item_in a.devices.now a.loads.now (get_or a.items.now j 0)) l.weights l.i l.invariant.1 c.weight_of.result
          (omega arith) c.weight_of.ensures,
    )

pub returns : goal.returns
returns c =
    let a = c.args in
    let l = c.loop-i in
    filled-all (item_in a.devices.now a.loads.now) a.items.now l.weights l.i l.invariant.1 (c.requires.2 ∙ sym l.invariant.0) (omega arith)
