-- `weights::live_of` meets its contract. The loop's invariant: the devices passed have their live weights. Assumes nothing.
use mathlib.Core.Path.{refl, ◌∙◌}
use Prim.Native.Nat.{ℕ}
use native.Mathlib.Omega.{arith}
use lib.ListN.{get_or, length-set}
use Rattle.weights.specs.Weights.{live_part, filled_more}
use Rattle.weights.proofs.live_of.Goals as goal

pub loop-d-init : goal.loop-d-init
loop-d-init c = (refl, λ j h. absurd (omega arith))

pub loop-d-preserved : goal.loop-d-preserved
loop-d-preserved c =
    let a = c.args in
    let l = c.loop-d in (
      length-set l.weights l.d c.live.result ∙ l.invariant.0,
      filled_more (λ (j : ℕ). live_part (get_or a.acceptance.now j 0) (get_or a.own.now j 0)) l.weights l.d l.invariant.1 c.live.result
          (omega arith) c.live.ensures,
    )

pub returns : goal.returns
returns c d h = c.loop-d.invariant.1 d (omega arith)
