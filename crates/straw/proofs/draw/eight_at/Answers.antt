-- `straw::draw::eight_at` meets its contract. The invariant: the children so far stand at the front. Assumes nothing.
use mathlib.Core.Path.{◌≡◌, refl, subst}
use Prim.Native.Nat.{ℕ, ◌+◌}
use native.Mathlib.Omega.{arith}
use lib.ListN.{get_or}
use Rattle.straw.specs.Hashes.{Filled, filled_none, filled_more}
use Rattle.straw.proofs.draw.eight_at.Goals as goal

pub loop-j-init : goal.loop-j-init
loop-j-init c = filled_none _ 8 _ refl

pub loop-j-preserved : goal.loop-j-preserved
loop-j-preserved c =
    let a = c.args in
    let l = c.loop-j in
    filled_more (λ (n : ℕ). get_or a.items.now (a.i + n) 0) 8 l.j c.item_at.result l.eight (omega arith) l.invariant c.item_at.ensures

pub returns : goal.returns
returns c =
    let a = c.args in
    let l = c.loop-j in
    let e : l.j ≡ 8 = omega arith in
    subst (λ (k : ℕ). Filled (λ (n : ℕ). get_or a.items.now (a.i + n) 0) 8 k l.eight) e l.invariant
