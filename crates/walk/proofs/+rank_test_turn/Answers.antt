-- `walk::rank`, `turn` and `test` meet their contracts. Assumes nothing.
use Rattle.std.proofs.Common.{◌≡◌, ℕ, ◌*◌, ◌<◌, refl, sym, ap, ◌∙◌, subst, inl, inr, arith}
use mathlib.Core.Logic.{◌⊎◌}
use Rattle.definitions.specs.declared.Mode.{Mode}
use Rattle.definitions.specs.declared.Mode.TheVariants.{Independent, Through}
use Rattle.definitions.specs.Walk.{hole, rank_start, rank_by, rank_of}
use Rattle.definitions.specs.Load.{reaches}
use Rattle.hierarchy.specs.Arrays.{view_in}
use Rattle.laws.specs.Fuel.{turn-fails}
use Rattle.laws.specs.Tries.{test_short}
use Rattle.laws.specs.Walk.{turn-none, turn-other, turn-tested, comes-fill, comes-fail, comes-hole}
use Rattle.descent.specs.Descent.{typed-bucket, bucket-below}
use Rattle.walk.specs.declared.Search.{Search}
use Rattle.walk.specs.Searches.{inward, reached_by, rank_at}
use Rattle.walk.specs.Bounds.{Typed, try-most, fill-adds, fail-adds, failed-bounds, tried-bounds, end-bounds}
use Rattle.walk.specs.Tests.{told-plain, told-held, told-sought, told-dead}
use Rattle.walk.proofs.+rank_test_turn.Goals as goal

-- ---- rank

pub rank-loop-s-init : goal.rank-loop-s-init
unfolding rank_of rank_by rank_start
rank-loop-s-init t c = (c.requires.search_bounds.0.0, omega arith, omega arith, omega arith, refl)

-- a turn that fills the place makes at most 50 tries within
pub rank-rank_end-requires : goal.rank-rank_end-requires
rank-rank_end-requires t c =
    let a = c.args in
    let l = c.loop-s in (
      omega (arith, l.invariant.1, l.invariant.3),
      fill-adds (view_in a.plan.now a.values.now) a.x a.search a.held.now l.s _ _ _ (sym c.turn.ensures.value ∙ c.in-Fill.is),
    )

pub rank-returns-in-Fill : goal.rank-returns-in-Fill
rank-returns-in-Fill t c =
    let a = c.args in
    let v = view_in a.plan.now a.values.now in
    let l = c.loop-s in
    let below : l.s.fr < 50 = omega (arith, c.loop-s-test.true) in
    let turned = sym c.turn.ensures.value ∙ c.in-Fill.is in
    let filled = fill-adds v a.x a.search a.held.now l.s _ _ _ turned in
    record {
      value = c.rank_end.ensures ∙ comes-fill v _ _ _ _ _ _ _ _ l.s _ _ _ below l.invariant.4 turned;
      bounds =
          end-bounds a.plan.now _ a.f0 _ _ _ l.s l.invariant.1 l.invariant.2 (omega (arith, l.invariant.3, below, filled))
          (inr (c.turn.ensures.bounds.0 _ _ _ c.in-Fill.is)) _ c.rank_end.ensures;
    }

-- a turn that does not fill the place is one failure more, and makes at most 50 tries within
pub rank-loop-s-smaller : goal.rank-loop-s-smaller
rank-loop-s-smaller t c =
    let a = c.args in
    let v = view_in a.plan.now a.values.now in
    let rose = turn-fails v _ _ _ _ _ _ _ c.loop-s.s c.in-Fail.next (sym c.turn.ensures.value ∙ c.in-Fail.is) in
    omega (arith, rose.0, c.loop-s-test.true)

pub rank-loop-s-preserved : goal.rank-loop-s-preserved
rank-loop-s-preserved t c =
    let a = c.args in
    let v = view_in a.plan.now a.values.now in
    let l = c.loop-s in
    let turned = sym c.turn.ensures.value ∙ c.in-Fail.is in
    let rose = turn-fails v _ _ _ _ _ _ _ l.s c.in-Fail.next turned in
    let added = fail-adds v a.x a.search a.held.now l.s _ turned in (
      c.turn.ensures.bounds.1 _ c.in-Fail.is,
      omega (arith, rose.0, c.loop-s-test.true),
      omega (arith, rose.0, rose.1, l.invariant.2),
      omega (arith, rose.0, added, l.invariant.3),
      comes-fail v _ _ _ _ _ _ _ _ l.s c.in-Fail.next (omega (arith, c.loop-s-test.true)) l.invariant.4 turned,
    )

pub rank-returns : goal.rank-returns
rank-returns t c =
    let a = c.args in
    let l = c.loop-s in
    record {
      value = c.rank_end-2.ensures ∙ comes-hole (view_in a.plan.now a.values.now) _ _ _ _ _ _ _ _ l.s (omega (arith, c.loop-s-test.false)) l.invariant.4;
      bounds =
          end-bounds a.plan.now _ a.f0 _ _ _ l.s l.invariant.1 l.invariant.2 (omega (arith, l.invariant.1, l.invariant.3)) (inl refl) _
          c.rank_end-2.ensures;
    }

-- ---- test

two-below : (mode : Mode) → mode ≡ Through → 2 < 3 * inward mode
two-below mode e = rw e (omega arith)

not_through : ◌≡◌ {A = Mode} Independent Through → ⊥
not_through e = let z : ◌≡◌ {A = ℕ} 0 1 = cc in omega arith

pub test-returns-in-FirstN : goal.test-returns-in-FirstN
test-returns-in-FirstN t c =
    let a = c.args in
    let told = told-plain a.plan.now a.values.now a.x a.search a.held.now a.q a.i c.plain_test.result c.in-FirstN.is
    c.requires.testable.3 c.plain_test.ensures in
    record { value = told.0; bounds = told.1 }

pub test-returns-then-holds : goal.test-returns-then-holds
test-returns-then-holds t c =
    let a = c.args in
    let told = told-held a.plan.now a.values.now a.x a.search a.held.now a.q a.i c.plain.result c.in-Through.is
    (sym c.holds.ensures ∙ c.if-holds.true) c.plain.ensures in
    record { value = told.0; bounds = told.1 }

-- an item that is not held has a type above 0, so it is a bucket's
pub test-is_dead-requires : goal.test-is_dead-requires
test-is_dead-requires t c =
    let a = c.args in
    let p = c.requires.testable in
    (p.3.0, typed-bucket a.plan.now a.i 0 (omega (arith, p.3.1, p.1 c.in-Through.is)))

pub test-returns-then-is_dead : goal.test-returns-then-is_dead
test-returns-then-is_dead t c =
    let a = c.args in
    let p = c.requires.testable in
    let bucket = typed-bucket a.plan.now a.i 0 (omega (arith, p.3.1, p.1 c.in-Through.is)) in
    let told = told-dead a.plan.now a.values.now a.x a.search a.held.now a.q a.i c.given_up.result c.in-Through.is
    (sym c.holds.ensures ∙ c.if-holds.false) c.requires.flagged bucket (bucket-below a.i p.3.0 bucket)
    (sym c.is_dead.ensures ∙ c.if-is_dead.true) c.given_up.ensures in
    record { value = told.0; bounds = told.1 }

pub test-inner-beneath-requires : goal.test-inner-beneath-requires
test-inner-beneath-requires t c =
    let a = c.args in
    let p = c.requires.testable in
    typed-bucket a.plan.now a.i 0 (omega (arith, p.3.1, p.1 c.in-Through.is))

pub test-rank-k-requires : goal.test-rank-k-requires
test-rank-k-requires t c =
    let a = c.args in
    let p = c.requires.testable in
    let bucket = typed-bucket a.plan.now a.i 0 (omega (arith, p.3.1, p.1 c.in-Through.is)) in
    rw c.inner-beneath.ensures (
      omega (arith, c.decreases, two-below a.search.wanted.mode c.in-Through.is),
      (
        c.requires.flagged,
        ((bucket-below a.i p.3.0 bucket, p.0, p.2 c.in-Through.is, (λ q. absurd (not_through q)), λ q. absurd (not_through q)), omega arith),
      ),
    )

pub test-returns-else-is_dead : goal.test-returns-else-is_dead
unfolding reaches
test-returns-else-is_dead t c =
    let a = c.args in
    let told = told-sought a.plan.now a.values.now a.x a.search a.held.now a.q a.i c.found.result c.in-Through.is
    (sym c.holds.ensures ∙ c.if-holds.false) c.rank-k.result
    (c.rank-k.ensures.value
    ∙ ap (λ (k : Search). (rank_at (view_in a.plan.now a.values.now) a.x k a.held.now 0).ranked) c.inner-beneath.ensures)
    (subst (λ (k : Search). (c.rank-k.result.entry ≡ hole) ⊎ Typed a.plan.now (reached_by k) c.rank-k.result.entry) c.inner-beneath.ensures
    c.rank-k.ensures.bounds.3)
    c.found.ensures in
    record { value = told.0; bounds = told.1 }

-- ---- turn

pub turn-returns-in_default : goal.turn-returns-in_default
turn-returns-in_default t c =
    let a = c.args in
    record {
      value =
          turn-none (view_in a.plan.now a.values.now) _ _ _ _ _ _ _ a.s _ c.try_number-q.ensures _ c.descend-l.ensures.value
          c.in_default.is _ c.failed_to.ensures;
      bounds = failed-bounds a.plan.now _ a.search.start 0 a.s c.failed_to.result c.requires.search_bounds.0.0 c.failed_to.ensures;
    }

pub turn-returns-then-type_of-t : goal.turn-returns-then-type_of-t
turn-returns-then-type_of-t t c =
    let a = c.args in
    let f = c.failed_to-then-type_of-t in
    record {
      value =
          turn-other (view_in a.plan.now a.values.now) _ _ _ _ _ _ _ a.s _ c.try_number-q.ensures _ c.descend-l.ensures.value _
          c.in-Some.is (λ q. c.if-type_of-t.true ((rw c.plan.view_is at c.type_of.ensures) ∙ q)) _ f.ensures;
      bounds = failed-bounds a.plan.now _ a.search.start 0 a.s f.result c.requires.search_bounds.0.0 f.ensures;
    }

-- the item drawn is of the type wanted
pub turn-test-w-requires : goal.turn-test-w-requires
turn-test-w-requires t c =
    let a = c.args in
    let p = c.requires.search_bounds in (
      omega (arith, c.decreases),
      (
        c.requires.flagged,
        (
          p.0.1,
          p.0.4,
          (λ e. omega (arith, c.try_number-q.ensures, try-most a.search a.s p.0 p.2 e)),
          (c.descend-l.ensures.bounds.1 _ c.in-Some.is, sym (rw c.plan.view_is at c.type_of.ensures) ∙ c.if-type_of-t.false),
        ),
      ),
    )

pub turn-on_tried-requires : goal.turn-on_tried-requires
turn-on_tried-requires t c =
    let a = c.args in (
      c.requires.search_bounds.2,
      rw c.test-w.ensures.value
          (test_short (view_in a.plan.now a.values.now) a.x a.search.wanted.n a.held.now a.search.wanted.mode _ _),
    )

pub turn-returns : goal.turn-returns
turn-returns t c =
    let a = c.args in
    record {
      value =
          turn-tested (view_in a.plan.now a.values.now) _ _ _ _ _ _ _ a.s _ c.try_number-q.ensures _ c.descend-l.ensures.value _
          c.in-Some.is (sym (rw c.plan.view_is at c.type_of.ensures) ∙ c.if-type_of-t.false) _ c.test-w.ensures.value _ c.on_tried.ensures;
      bounds =
          tried-bounds a.plan.now _ a.search.start a.s _ _ _ c.requires.search_bounds.0.0 c.descend-l.ensures.bounds.0 c.test-w.ensures.bounds _
          c.on_tried.ensures;
    }
