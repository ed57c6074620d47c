-- `causes::ends::rank_ends` meets its contract. The invariant: in both runs what is left of the rank, from here, comes to the whole. Assumes
-- nothing.
use Rattle.std.proofs.Common.{refl, sym, ◌∙◌, arith}
use Rattle.definitions.specs.Walk.{rank_start, rank_by, rank_of}
use Rattle.hierarchy.specs.Arrays.{view_in}
use Rattle.laws.specs.Fuel.{turn-fails}
use Rattle.laws.specs.Walk.{comes-fill, comes-fail, comes-hole}
use Rattle.walk.specs.Bounds.{fill-adds, fail-adds}
use Rattle.causes.proofs.ends.rank_ends.Goals as goal

pub loop-s-init : goal.loop-s-init
unfolding rank_of rank_by rank_start
loop-s-init c = (c.requires.search_bounds.0.0, omega arith, omega arith, omega arith, refl, refl)

-- a turn that fills the place makes at most 50 tries within
pub rank_end-requires : goal.rank_end-requires
rank_end-requires c =
    let a = c.args in
    let l = c.loop-s in (
      omega (arith, l.invariant.1, l.invariant.3),
      fill-adds (view_in a.plan.now a.old.now) a.x a.search a.held.now l.s _ _ _ (sym c.in_ok-i.ensures.turn_ends.0 ∙ c.in-Fill.is),
    )

pub returns-in-Fill : goal.returns-in-Fill
returns-in-Fill c =
    let a = c.args in
    let l = c.loop-s in
    let t = c.in_ok-i.ensures.turn_ends in (
      c.rank_end.ensures
          ∙ comes-fill (view_in a.plan.now a.old.now) _ _ _ _ _ _ _ _ l.s _ _ _ (omega (arith, c.loop-s-test.true)) l.invariant.4
          (sym t.0 ∙ c.in-Fill.is),
      c.rank_end.ensures
          ∙ comes-fill (view_in a.plan.now a.new.now) _ _ _ _ _ _ _ _ l.s _ _ _ (omega (arith, c.loop-s-test.true)) l.invariant.5
          (sym t.1 ∙ c.in-Fill.is),
    )

-- a turn that does not fill the place is one failure more, and makes at most 50 tries within
pub loop-s-smaller : goal.loop-s-smaller
loop-s-smaller c =
    let a = c.args in
    let rose = turn-fails (view_in a.plan.now a.old.now) _ _ _ _ _ _ _ c.loop-s.s c.in-Fail.next (sym c.in_ok-i.ensures.turn_ends.0 ∙ c.in-Fail.is) in
    omega (arith, rose.0, c.loop-s-test.true)

pub loop-s-preserved : goal.loop-s-preserved
loop-s-preserved c =
    let a = c.args in
    let v = view_in a.plan.now a.old.now in
    let w = view_in a.plan.now a.new.now in
    let l = c.loop-s in
    let t = c.in_ok-i.ensures.turn_ends in
    let e = sym t.0 ∙ c.in-Fail.is in
    let rose = turn-fails v _ _ _ _ _ _ _ l.s c.in-Fail.next e in
    let added = fail-adds v a.x a.search a.held.now l.s _ e in (
      c.in_ok-i.ensures.bounds c.in-Fail.next c.in-Fail.is,
      omega (arith, rose.0, c.loop-s-test.true),
      omega (arith, rose.0, rose.1, l.invariant.2),
      omega (arith, rose.0, added, l.invariant.3),
      comes-fail v _ _ _ _ _ _ _ _ l.s c.in-Fail.next (omega (arith, c.loop-s-test.true)) l.invariant.4 e,
      comes-fail w _ _ _ _ _ _ _ _ l.s c.in-Fail.next (omega (arith, c.loop-s-test.true)) l.invariant.5 (sym t.1 ∙ c.in-Fail.is),
    )

pub returns : goal.returns
returns c =
    let a = c.args in
    let l = c.loop-s in (
      c.rank_end-2.ensures
          ∙ comes-hole (view_in a.plan.now a.old.now) _ _ _ _ _ _ _ _ l.s (omega (arith, c.loop-s-test.false)) l.invariant.4,
      c.rank_end-2.ensures
          ∙ comes-hole (view_in a.plan.now a.new.now) _ _ _ _ _ _ _ _ l.s (omega (arith, c.loop-s-test.false)) l.invariant.5,
    )
