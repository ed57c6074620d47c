-- `straw::logarithm::cost` meets its contract. Assumes nothing.
use mathlib.Core.Path.{◌≡◌, ◌∙◌, ap}
use Prim.Native.Nat.{ℕ, ◌+◌}
use native.Mathlib.Omega.{arith}
use Rattle.definitions.specs.Straw.{L, cost}
use Rattle.straw.proofs.logarithm.cost.Goals as goal

pub returns : goal.returns
unfolding cost
returns c =
    let e : c.log.result ≡ L (c.args.h + 1) = c.log.ensures.0 ∙ ap (λ (n : ℕ). L (n + 1)) c.from-u.ensures in
    (rw e, omega arith)
