-- `straw::guard::alone` meets its contract. The invariant: those counted so far are the guard, and all children that may win against it. Assumes
-- nothing.
use Rattle.std.proofs.Common.{◌≡◌, ℕ, ◌+◌, ◌<◌, arith, get_or, length, subst, eqb-true}
use Rattle.definitions.specs.Straw.{cost, key}
use Rattle.straw.specs.Guard.{Loses, counted_none, counted-near, counted-far}
use Rattle.straw.proofs.guard.alone.Goals as goal
use Rattle.straw.proofs.guard.alone.Goals.{then-near, else-near}

pub loop-i-init : goal.loop-i-init
loop-i-init c = (omega arith, counted_none _ _)

pub loop-i-preserved : goal.loop-i-preserved
loop-i-preserved c =
    let a = c.args in
    let l = c.loop-i in
    elim c.if-near.branch [
      | then-near w ↦ rw w.count-is (omega arith, counted-near (Loses a.hashes.now a.weights.now a.g) a.g l.i l.count l.invariant.1)
      | else-near w ↦
          let loses : Loses a.hashes.now a.weights.now a.g l.i =
          c.near.ensures w.if-near.false (cost (get_or a.hashes.now a.g 0 + 1)) c.reach-q.ensures c.requires.2.1 in
          rw w.count-is (
            omega arith,
            counted-far (Loses a.hashes.now a.weights.now a.g) a.g l.i l.count l.invariant.1 loses
                (λ e. let less = loses (rw e c.requires.2.1) in
                let same : key (cost (get_or a.hashes.now l.i 0 + 1)) (get_or a.weights.now l.i 0) ≡ key (cost (get_or a.hashes.now a.g 0 + 1)) (get_or a.weights.now a.g 0) = rw e in
                omega (arith, less, same)),
          )
    ]

pub returns : goal.returns
returns c e =
    let a = c.args in
    let l = c.loop-i in
    let all : l.i ≡ length a.weights.now = omega arith in
    subst (λ (k : ℕ). (m : ℕ) → m < k → (m ≡ a.g → ⊥) → Loses a.hashes.now a.weights.now a.g m) all
    (l.invariant.1.one (eqb-true l.count 1 e) (omega (arith, c.requires.2.0)))
