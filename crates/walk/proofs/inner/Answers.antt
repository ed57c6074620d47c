-- `walk::inner` meets its contract. Assumes nothing.
use mathlib.Core.Path.{ap, ◌∙◌}
use Prim.Native.Nat.{ℕ}
use Rattle.definitions.specs.declared.Mode.TheVariants.{Independent}
use Rattle.definitions.specs.Map.{bucket_number}
use Rattle.walk.proofs.inner.Goals as goal

pub returns : goal.returns
returns c =
    let a = c.args in
    ap (λ (b : ℕ). record { wanted = record { mode = Independent; n = a.n; t = 0 }; start = b; r = a.q })
    (c.bucket_number-start.ensures ∙ ap bucket_number c.from-bucket.ensures)
