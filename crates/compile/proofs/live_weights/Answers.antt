-- `compile::live_weights` meets its contract: the live weights of the devices are the weights of a map of the same plan. Assumes nothing.
use mathlib.Core.Path.{◌≡◌, sym, ◌∙◌}
use mathlib.Core.Bool.{false≢true}
use Prim.Native.Nat.{ℕ}
use native.Mathlib.Omega.{arith}
use lib.ListN.{length, get_or-replicate}
use borrow.Author.Rules.{rules}
use Rattle.compile.specs.Living.{live_weight, living-weighs}
use Rattle.compile.proofs.live_weights.Goals as goal

pub bucket_weights-requires : goal.bucket_weights-requires
bucket_weights-requires c =
    let (m, w, t) = c.requires in
    let n : length c.live_of-live.result ≡ 1024 = search rules in
    (_, living-weighs m w t c.live_of-live.result n c.live_of-live.ensures)

pub returns-then-through : goal.returns-then-through
unfolding live_weight
returns-then-through c m w t =
    let n : length c.live_of-live.result ≡ 1024 = search rules in
    let o = c.bucket_weights.ensures _ (living-weighs m w t c.live_of-live.result n c.live_of-live.ensures) in
    (λ b l e. sym (o.at b) ∙ e, λ e. o)

pub returns : goal.returns
returns c m w t = (λ b l e. absurd (omega (arith, e, get_or-replicate {A = ℕ} 256 b 1 0 l)), λ e. absurd (false≢true (sym c.if-through.false ∙ e)))
