-- `straw::draw::hash_children` meets its contract. The invariant: the hashes of the eights so far stand at the front. Assumes nothing.
use mathlib.Core.Path.{◌≡◌, refl, ap}
use Prim.Native.Nat.{ℕ, ◌+◌, ◌*◌, ◌-◌}
use native.Mathlib.Nat.{add-sub_cancel_left}
use native.Mathlib.Omega.{arith}
use lib.ListN.{get_or, length-take, length-drop}
use Rattle.definitions.specs.Hash.{hash3}
use Rattle.straw.specs.Hashes.{filled_none, part_filled}
use Rattle.straw.proofs.draw.hash_children.Goals as goal
use Rattle.straw.proofs.draw.hash_children.Invariants.{hash_at}

pub loop-k-init : goal.loop-k-init
loop-k-init c = filled_none _ 64 _ refl

pub hash_eight-requires : goal.hash_eight-requires
hash_eight-requires c = simp (add-sub_cancel_left, length-take, length-drop) (omega (arith, c.loop-k.invariant.long, c.div_ceil-k-end.ensures))

pub loop-k-preserved : goal.loop-k-preserved
loop-k-preserved c =
    let a = c.args in
    let eight = c.eight_at in
    let l = c.loop-k in
    let e : l.k * 8 + 8 ≡ (l.k + 1) * 8 = omega arith in
    rw (← e) (part_filled (hash_at a.seed a.x a.r a.items.now) (λ (n : ℕ). hash3 a.seed a.x (get_or eight.result n 0) a.r) 64 (l.k * 8) 8
    (l.k * 8 + 8 - l.k * 8) l.hashes _ (omega arith) (add-sub_cancel_left (l.k * 8) 8) l.invariant c.hash_eight.ensures
    (λ j h. ap (λ (n : ℕ). hash3 a.seed a.x n a.r) (eight.ensures.at j h)))

pub returns : goal.returns
returns c n h = c.loop-k.invariant.at n (omega arith)
