-- `lockstep::ranks::part_rank`, `part_turn`, `part_landed` and `part_tests` meet their contracts. Assumes nothing.
use Rattle.std.specs.Prelude.{Ok, Err}
use Rattle.std.proofs.lemmas.Result.{err_from_is_err_and}
use Rattle.std.proofs.Common.{◌||◌, sym, ap₂, ◌∙◌, subst, arith}
use Rattle.hierarchy.specs.Arrays.{view_in}
use Rattle.laws.specs.Fuel.{turn-fails}
use Rattle.walk.specs.declared.Search.{Search}
use Rattle.walk.specs.Searches.{inner_search, rank_at}
use Rattle.walk.specs.Bounds.{try-most, fill-adds, fail-adds}
use Rattle.lockstep.specs.Lockstep.{Ranks, tests-first, tests-independent, tests-held, tests-sought, rank-parts, rank-filled, rank-next, rank-ended, rank-whole}
use Rattle.lockstep.specs.Rounds.{ranks-brief, tests-short, follows-none, follows-other, follows-tested, failed-below, trials-bounds, turns-apart, turns-landed}
use Rattle.lockstep.proofs.ranks.+part_landed_part_rank_part_tests_part_turn.Goals as goal

-- ---- from where both landed

pub part_landed-returns-in_default : goal.part_landed-returns-in_default
part_landed-returns-in_default t c =
    let a = c.args in
    record {
      follows = rw c.failed_to.ensures (follows-none a.plan.now _ _ _ a.search _ _ a.s a.l c.in_default.is);
      bounds = rw c.failed_to.ensures (failed-below a.search.start a.s c.requires.search_bounds.0.0);
    }

pub part_landed-returns-then-type_of-t : goal.part_landed-returns-then-type_of-t
part_landed-returns-then-type_of-t t c =
    let a = c.args in
    let f = c.failed_to-then-type_of-t in
    record {
      follows =
          rw f.ensures
          (follows-other a.plan.now _ _ _ a.search _ _ a.s a.l c.in-Some.i c.in-Some.is (rw (rw c.plan.view_is at c.type_of.ensures) at c.if-type_of-t.true));
      bounds = rw f.ensures (failed-below a.search.start a.s c.requires.search_bounds.0.0);
    }

-- ---- the rank of both

pub part_rank-loop-s-init : goal.part_rank-loop-s-init
part_rank-loop-s-init t c =
    let p = c.requires.search_bounds in
    (p.0.0, omega arith, omega (arith, p.1), omega arith, rank-whole _ _ _ _ _ _ _)

pub part_rank-returns : goal.part_rank-returns
part_rank-returns t c =
    let a = c.args in
    let v = view_in a.plan.now a.old.now in
    let v' = view_in a.plan.now a.new.now in
    let l = c.loop-s in
    rw c.rank_end-2.ensures
    (rank-ended v v' a.x a.search a.olds.now a.news.now (rank_at v a.x a.search a.olds.now a.f0) (rank_at v' a.x a.search a.news.now a.f0) l.s
    (omega (arith, c.loop-s-test.false)) l.invariant.4)

-- ---- the tests of both

pub part_tests-returns-then-h-h2 : goal.part_tests-returns-then-h-h2
part_tests-returns-then-h-h2 t c =
    let a = c.args in
    let o = c.holds-h.ensures in
    let n = c.holds-h2.ensures in
    rw (c.part_plain.ensures, c.held_end-then-h-h2.ensures, c.held_end.ensures, o, n)
    (tests-held (view_in a.plan.now a.old.now) (view_in a.plan.now a.new.now) a.x a.search a.olds.now a.news.now a.q a.i c.in-Through.is
    (sym (ap₂ ◌||◌ o n) ∙ c.if-h-h2.true))

pub part_tests-returns-in-FirstN : goal.part_tests-returns-in-FirstN
part_tests-returns-in-FirstN t c =
    let a = c.args in
    rw c.part_verdicts.ensures
    (tests-first (view_in a.plan.now a.old.now) (view_in a.plan.now a.new.now) a.x a.search a.olds.now a.news.now a.q a.i c.in-FirstN.is)

pub part_tests-returns-in-Independent : goal.part_tests-returns-in-Independent
part_tests-returns-in-Independent t c =
    let a = c.args in
    rw c.part_verdicts-in-Independent.ensures
    (tests-independent (view_in a.plan.now a.old.now) (view_in a.plan.now a.new.now) a.x a.search a.olds.now a.news.now a.q a.i
    c.in-Independent.is)

-- ---- the turn of both
-- ---- a `?` that leaves hands on where the two part

pub part_landed-returns-in_err-w-clause-follows : goal.part_landed-returns-in_err-w-clause-follows
part_landed-returns-in_err-w-clause-follows t c =
    let a = c.args in
    let p = err_from_is_err_and c.from_residual.result c.from_residual.ensures.1 in
    rw (p.1, p.2)
    (follows-tested a.plan.now _ _ _ a.search _ _ a.s a.l c.in-Some.i c.in-Some.is (sym (rw c.plan.view_is at c.type_of.ensures) ∙ c.if-type_of-t.false)
    c.try_number-q.result c.try_number-q.ensures (Err c.in_err-w.field-0.0) c.in_err-w.ensures)

pub part_landed-returns-clause-follows : goal.part_landed-returns-clause-follows
part_landed-returns-clause-follows t c =
    let a = c.args in
    rw c.on_tried.ensures
    (follows-tested a.plan.now _ _ _ a.search _ _ a.s a.l c.in-Some.i c.in-Some.is (sym (rw c.plan.view_is at c.type_of.ensures) ∙ c.if-type_of-t.false)
    c.try_number-q.result c.try_number-q.ensures (Ok c.in_ok-w.w) c.in_ok-w.ensures)

pub part_landed-returns-clause-bounds : goal.part_landed-returns-clause-bounds
part_landed-returns-clause-bounds t c =
    let a = c.args in
    let p = c.requires.search_bounds in
    rw c.on_tried.ensures (trials-bounds a.search.start a.s a.l.bucket c.in-Some.i (Ok c.in_ok-w.w) p.0.0 p.2.0)

pub part_landed-part_tests-requires : goal.part_landed-part_tests-requires
part_landed-part_tests-requires t c =
    let a = c.args in
    let p = c.requires.search_bounds in (
      omega (arith, c.decreases),
      (
        p.0.1,
        p.0.4,
        (λ o. omega (arith, c.try_number-q.ensures, try-most a.search a.s p.0 p.1 o)),
        (p.2.1 c.in-Some.i c.in-Some.is, sym (rw c.plan.view_is at c.type_of.ensures) ∙ c.if-type_of-t.false),
      ),
    )

pub part_landed-on_tried-requires : goal.part_landed-on_tried-requires
part_landed-on_tried-requires t c =
    let a = c.args in (
      c.requires.search_bounds.1,
      tests-short (view_in a.plan.now a.old.now) (view_in a.plan.now a.new.now) a.x a.search a.olds.now a.news.now c.try_number-q.result
          c.in-Some.i (Ok c.in_ok-w.w) c.in_ok-w.ensures,
    )

pub part_rank-returns-in_err-i : goal.part_rank-returns-in_err-i
part_rank-returns-in_err-i t c =
    let a = c.args in
    let v = view_in a.plan.now a.old.now in
    let v' = view_in a.plan.now a.new.now in
    let l = c.loop-s in
    let p = err_from_is_err_and c.from_residual.result c.from_residual.ensures.1 in
    rw (p.1, p.2)
    (rank-parts v v' a.x a.search a.olds.now a.news.now (rank_at v a.x a.search a.olds.now a.f0) (rank_at v' a.x a.search a.news.now a.f0) l.s
    c.loop-s-test.true l.invariant.4 c.in_err-i.field-0.0 c.in_err-i.ensures.turns)

-- both places are filled, with at most 50 tries within
pub part_rank-rank_end-requires : goal.part_rank-rank_end-requires
part_rank-rank_end-requires t c =
    let a = c.args in
    let l = c.loop-s in (
      omega (arith, l.invariant.1, l.invariant.3),
      fill-adds (view_in a.plan.now a.old.now) a.x a.search a.olds.now l.s _ _ _ (c.in_ok-i.ensures.turns.1 ∙ c.in-Fill.is),
    )

pub part_rank-returns-in-Fill : goal.part_rank-returns-in-Fill
part_rank-returns-in-Fill t c =
    let a = c.args in
    let v = view_in a.plan.now a.old.now in
    let v' = view_in a.plan.now a.new.now in
    let l = c.loop-s in
    let said = c.in_ok-i.ensures.turns in
    rw c.rank_end.ensures
    (rank-filled v v' a.x a.search a.olds.now a.news.now (rank_at v a.x a.search a.olds.now a.f0) (rank_at v' a.x a.search a.news.now a.f0)
    l.s c.loop-s-test.true l.invariant.4 _ _ _ (said.0, said.1 ∙ c.in-Fill.is))

-- both go on after a failure
pub part_rank-loop-s-smaller : goal.part_rank-loop-s-smaller
part_rank-loop-s-smaller t c =
    let a = c.args in
    let more = turn-fails (view_in a.plan.now a.old.now) _ _ _ _ _ _ _ c.loop-s.s c.in-Fail.next (c.in_ok-i.ensures.turns.1 ∙ c.in-Fail.is) in
    omega (arith, more.0, c.loop-s-test.true)

pub part_rank-loop-s-preserved : goal.part_rank-loop-s-preserved
part_rank-loop-s-preserved t c =
    let a = c.args in
    let v = view_in a.plan.now a.old.now in
    let v' = view_in a.plan.now a.new.now in
    let l = c.loop-s in
    let said = c.in_ok-i.ensures.turns in
    let failed = said.1 ∙ c.in-Fail.is in
    let more = turn-fails v _ _ _ _ _ _ _ l.s c.in-Fail.next failed in
    let added = fail-adds v a.x a.search a.olds.now l.s _ failed in (
      c.in_ok-i.ensures.bounds c.in-Fail.next c.in-Fail.is,
      omega (arith, more.0, c.loop-s-test.true),
      omega (arith, more.0, more.1, l.invariant.2),
      omega (arith, more.0, added, l.invariant.3),
      rank-next v v' a.x a.search a.olds.now a.news.now (rank_at v a.x a.search a.olds.now a.f0) (rank_at v' a.x a.search a.news.now a.f0) l.s
          c.loop-s-test.true l.invariant.4 _ (said.0, failed),
    )

-- the inner walks made are the definition's
pub part_tests-found-requires : goal.part_tests-found-requires
part_tests-found-requires t c =
    let a = c.args in
    let v = view_in a.plan.now a.old.now in
    let v' = view_in a.plan.now a.new.now in
    let walked = subst (λ (k : Search). Ranks (Ok c.in_ok-k-in-Through.k) (rank_at v a.x k a.olds.now 0) (rank_at v' a.x k a.news.now 0))
    c.inner-beneath.ensures c.in_ok-k-in-Through.ensures in
    ranks-brief v v' a.x (inner_search a.search.wanted.n a.q a.i) a.olds.now a.news.now 0 (Ok c.in_ok-k-in-Through.k) walked

pub part_tests-returns-in_err-k-in-Through : goal.part_tests-returns-in_err-k-in-Through
part_tests-returns-in_err-k-in-Through t c =
    let a = c.args in
    let v = view_in a.plan.now a.old.now in
    let v' = view_in a.plan.now a.new.now in
    let p = err_from_is_err_and c.from_residual.result c.from_residual.ensures.1 in
    let walked = subst (λ (s : Search). Ranks (Err c.in_err-k-in-Through.field-0.0) (rank_at v a.x s a.olds.now 0) (rank_at v' a.x s a.news.now 0))
    c.inner-beneath.ensures c.in_err-k-in-Through.ensures in
    rw (p.1, p.2)
    (tests-sought v v' a.x a.search a.olds.now a.news.now a.q a.i c.in-Through.is
    (sym (ap₂ ◌||◌ c.holds-h.ensures c.holds-h2.ensures) ∙ c.if-h-h2.false) (Err c.in_err-k-in-Through.field-0.0) walked)

pub part_tests-returns-in_ok-k-in-Through : goal.part_tests-returns-in_ok-k-in-Through
part_tests-returns-in_ok-k-in-Through t c =
    let a = c.args in
    let v = view_in a.plan.now a.old.now in
    let v' = view_in a.plan.now a.new.now in
    let walked = subst (λ (s : Search). Ranks (Ok c.in_ok-k-in-Through.k) (rank_at v a.x s a.olds.now 0) (rank_at v' a.x s a.news.now 0))
    c.inner-beneath.ensures c.in_ok-k-in-Through.ensures in
    rw c.found.ensures
    (tests-sought v v' a.x a.search a.olds.now a.news.now a.q a.i c.in-Through.is
    (sym (ap₂ ◌||◌ c.holds-h.ensures c.holds-h2.ensures) ∙ c.if-h-h2.false) (Ok c.in_ok-k-in-Through.k) walked)

pub part_turn-returns-in_err-l-clause-turns : goal.part_turn-returns-in_err-l-clause-turns
part_turn-returns-in_err-l-clause-turns t c =
    let a = c.args in
    let p = err_from_is_err_and c.from_residual.result c.from_residual.ensures.1 in
    rw (p.1, p.2)
    (turns-apart a.plan.now a.old.now a.new.now a.x a.search a.olds.now a.news.now a.s _ _ c.meet.ensures.meets c.try_number-q.ensures _ c.in_err-l.was)

pub part_turn-returns-clause-turns : goal.part_turn-returns-clause-turns
part_turn-returns-clause-turns t c =
    let a = c.args in
    turns-landed a.plan.now a.old.now a.new.now a.x a.search a.olds.now a.news.now a.s _ _ c.meet.ensures.meets c.try_number-q.ensures _ _
    c.in_ok-l.was c.part_landed.ensures.follows
