-- `straw::draw::hash_eight` meets its contract. The invariant: the hashes so far stand at the front of each half. Assumes nothing.
use mathlib.Core.Path.{◌≡◌, subst}
use Prim.Native.Nat.{ℕ, ◌+◌}
use native.Mathlib.Omega.{arith}
use lib.ListN.{get_or, length-set, set}
use borrow.Author.Rules.{rules}
use Rattle.definitions.specs.Hash.{hash3}
use Rattle.straw.specs.Hashes.{Halves, halves-none, halves-more, halves-all}
use Rattle.straw.proofs.draw.hash_eight.Goals as goal

pub loop-i-init : goal.loop-i-init
loop-i-init c = (search rules, halves-none _ _ c.requires)

pub loop-i-preserved : goal.loop-i-preserved
loop-i-preserved c =
    let a = c.args in
    let l = c.loop-i in
    let two = c.hash3_two-two.result in (
      omega (arith, length-set l.hashes l.i two.one, length-set (set l.hashes l.i two.one) (l.i + 4) two.other),
      halves-more (λ (n : ℕ). hash3 a.seed a.x (get_or a.eight n 0) a.r) l.i two.one two.other l.hashes (omega arith) l.invariant.1
          c.hash3_two-two.ensures.0 c.hash3_two-two.ensures.1,
    )

pub returns : goal.returns
returns c =
    let a = c.args in
    let l = c.loop-i in
    let f : ℕ → ℕ = λ (n : ℕ). hash3 a.seed a.x (get_or a.eight n 0) a.r in
    let e : l.i ≡ 4 = omega arith in
    halves-all f l.hashes (subst (λ (k : ℕ). Halves f k l.hashes) e l.invariant.1)
