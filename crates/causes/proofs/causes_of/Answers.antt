-- `causes::causes_of` meets its contract. The invariant: the first k places have their causes. Assumes nothing.
use Rattle.std.proofs.Common.{refl, arith}
use borrow.Author.Rules.{rules}
use Rattle.causes.specs.Under.{tells_none, tells_more, tells-to}
use Rattle.causes.proofs.causes_of.Goals as goal

pub loop-k-init : goal.loop-k-init
loop-k-init c =
    let p = c.args.p in
    (refl, tells_none _ _ _ _ _ _ c.held_by-olds.result c.held_by-news.result _ _ p.old.emitted p.new.emitted _)

pub loop-k-preserved : goal.loop-k-preserved
loop-k-preserved c =
    let l = c.loop-k in
    let p = c.args.p in (
      search (rules, l.invariant.0),
      tells_more _ _ _ _ _ _ c.held_by-olds.result c.held_by-news.result p.causes p.old.working p.old.emitted p.new.emitted l.k l.causes
          c.place_cause.result (omega (arith, l.invariant.0)) l.invariant.1 (rw c.above_at-a.ensures at c.place_cause.ensures),
    )

pub returns : goal.returns
returns c =
    let l = c.loop-k in
    let a = c.args in
    let p = a.p in
    tells-to _ _ _ _ _ _ c.held_by-olds.result c.held_by-news.result p.causes p.old.working p.old.emitted p.new.emitted _ _ a.o.items a.n.items
    l.causes (omega arith) (λ k q. c.held_by-olds.ensures k (omega arith)) (λ k q. c.held_by-news.ensures k (omega arith)) l.invariant.1
