-- `tree::leaf` meets its contract. The invariant: the leaf from the node at which the walk stands is the leaf from the root. Assumes nothing.
use mathlib.Core.Path.{sym, subst}
use Prim.Native.Nat.{ℕ, ◌/◌}
use native.Mathlib.Omega.{arith}
use Rattle.tree.specs.Walking.{Stands, stands-bounds, stands-root, stands-leaf, stands-turn}
use Rattle.tree.proofs.leaf.Goals as goal

pub loop-side-init : goal.loop-side-init
loop-side-init c =
    let a = c.args in
    let q = a.q in
    subst (λ (k : ℕ). Stands q.seed q.x q.r q.item a.sums.now (k / 2) (record { label = k; lo = 0; hi = a.total })) (sym c.top-root.ensures)
    (stands-root q.seed q.x q.r q.item a.sums.now c.requires.0 a.total c.requires.2)

pub turn-n-requires : goal.turn-n-requires
turn-n-requires c =
    let q = c.args.q in
    let l = c.loop-side in
    let b = stands-bounds q.seed q.x q.r q.item c.args.sums.now l.side l.n l.invariant (omega arith) c.requires.1 in
    (b.0, b.1, b.2, l.invariant.rises)

pub loop-side-preserved : goal.loop-side-preserved
loop-side-preserved c =
    let q = c.args.q in
    let l = c.loop-side in
    stands-turn q.seed q.x q.r q.item c.args.sums.now l.side l.n c.turn-n.result l.invariant (omega arith) c.turn-n.ensures

pub returns : goal.returns
returns c =
    let q = c.args.q in
    let l = c.loop-side in
    stands-leaf q.seed q.x q.r q.item c.args.sums.now l.side l.n l.invariant (omega arith)
