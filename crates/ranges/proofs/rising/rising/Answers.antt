-- `ranges::rising::rising` meets its contract: each of its three questions is put to every record beside the next. Assumes nothing.
use Rattle.std.proofs.Common.{rules, refl, ltb}
use Rattle.definitions.specs.Load.{rising, link_below}
use Rattle.laws.specs.Chains.{and-yes, and-no}
use Rattle.ranges.proofs.rising.rising.Goals as goal
use Rattle.ranges.proofs.rising.rising.Goals.{then-linked, else-linked}

pub returns-then-linked-2 : goal.returns-then-linked-2
unfolding rising
returns-then-linked-2 c =
    let devices = c.linked.ensures (λ d e. ltb d.number e.number) (λ k l b q. search rules) in
    and-yes
    (elim c.if-linked.branch [
      | then-linked w ↦ and-yes devices w.if-linked.true w.value-is (w.linked-then-linked.ensures (λ d e. ltb d.number e.number) (λ k l b q. search rules))
      | else-linked w ↦ and-no _ devices w.if-linked.false w.value-is
    ])
    c.if-linked-2.true refl (c.linked-then-linked-2.ensures link_below (λ k l b q. q))

pub returns-else-linked-2 : goal.returns-else-linked-2
unfolding rising
returns-else-linked-2 c =
    let devices = c.linked.ensures (λ d e. ltb d.number e.number) (λ k l b q. search rules) in
    and-no _
    (elim c.if-linked.branch [
      | then-linked w ↦ and-yes devices w.if-linked.true w.value-is (w.linked-then-linked.ensures (λ d e. ltb d.number e.number) (λ k l b q. search rules))
      | else-linked w ↦ and-no _ devices w.if-linked.false w.value-is
    ])
    c.if-linked-2.false refl
