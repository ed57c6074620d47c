-- `causes::ends::turn_ends` meets its contract: where both descents land, and what the tests there come to. Assumes nothing.
use Rattle.std.proofs.Common.{◌≡◌, sym, ap, ◌∙◌, Ok, arith}
use Rattle.definitions.specs.Walk.{Descent, descend}
use Rattle.hierarchy.specs.Arrays.{view_in}
use Rattle.laws.specs.Walk.{turn-none, turn-other}
use Rattle.walk.specs.Bounds.{try-most}
use Rattle.lockstep.specs.Rounds.{failed-below, trials-bounds}
use Rattle.causes.specs.Ends.{tests-brief, turns-end}
use Rattle.causes.proofs.ends.turn_ends.Goals as goal
use Rattle.causes.proofs.ends.turn_ends.Goals.{In_ok-l}

-- where both landed
landed : (c : In_ok-l)
    → let a = c.args in let q = c.try_number-q.result in let l = c.in_ok-l.l in
    (l ≡ (descend (view_in a.plan.now a.old.now) a.x a.search.wanted.t q a.s.at).landed)
    × (l ≡ (descend (view_in a.plan.now a.new.now) a.x a.search.wanted.t q a.s.at).landed)
landed c = let h = c.in_ok-l.ensures.meets in (sym h.1, sym h.1 ∙ ap (λ (d : Descent). d.landed) h.0)

pub returns-in_default : goal.returns-in_default
returns-in_default c =
    let a = c.args in
    let l = landed (goal.at.returns-in_default c).In_ok-l in
    let e = c.failed_to.ensures in
    record {
      turn_ends = (
        turn-none (view_in a.plan.now a.old.now) _ _ _ _ _ _ _ a.s _ c.try_number-q.ensures _ l.0 c.in_default.is _ e,
        turn-none (view_in a.plan.now a.new.now) _ _ _ _ _ _ _ a.s _ c.try_number-q.ensures _ l.1 c.in_default.is _ e,
      );
      bounds = rw e (failed-below a.search.start a.s c.requires.search_bounds.0.0);
    }

pub returns-then-type_of-t : goal.returns-then-type_of-t
returns-then-type_of-t c =
    let a = c.args in
    let l = landed (goal.at.returns-then-type_of-t c).In_ok-l in
    let e = c.failed_to-then-type_of-t.ensures in
    record {
      turn_ends = (
        turn-other (view_in a.plan.now a.old.now) _ _ _ _ _ _ _ a.s _ c.try_number-q.ensures _ l.0 _ c.in-Some.is
            (λ q. c.if-type_of-t.true ((rw c.plan.view_is at c.type_of.ensures) ∙ q)) _ e,
        turn-other (view_in a.plan.now a.new.now) _ _ _ _ _ _ _ a.s _ c.try_number-q.ensures _ l.1 _ c.in-Some.is
            (λ q. c.if-type_of-t.true ((rw c.plan.view_is at c.type_of.ensures) ∙ q)) _ e,
      );
      bounds = rw e (failed-below a.search.start a.s c.requires.search_bounds.0.0);
    }

pub test_ends-requires-clause-testable : goal.test_ends-requires-clause-testable
test_ends-requires-clause-testable c =
    let a = c.args in
    let p = c.requires.search_bounds in (
      p.0.1,
      p.0.4,
      (λ e. omega (arith, c.try_number-q.ensures, try-most a.search a.s p.0 p.2 e)),
      (c.in_ok-l.ensures.bounds.1 _ c.in-Some.is, sym (rw c.plan.view_is at c.type_of.ensures) ∙ c.if-type_of-t.false),
    )

pub on_tried-requires : goal.on_tried-requires
on_tried-requires c =
    let a = c.args in (
      c.requires.search_bounds.2,
      tests-brief (view_in a.plan.now a.old.now) (view_in a.plan.now a.new.now) a.x a.search a.held.now _ _ (Ok c.in_ok-w.w) c.in_ok-w.ensures,
    )

pub returns : goal.returns
returns c =
    let a = c.args in
    let l = landed (goal.at.returns c).In_ok-l in
    let h = sym (rw c.plan.view_is at c.type_of.ensures) ∙ c.if-type_of-t.false in
    record {
      turn_ends =
          rw c.on_tried.ensures
          (turns-end (view_in a.plan.now a.old.now) (view_in a.plan.now a.new.now) a.x a.search a.held.now _ _ a.s c.try_number-q.ensures
          c.in_ok-l.l l.0 l.1 c.in-Some.is h h (Ok c.in_ok-w.w) c.in_ok-w.ensures);
      bounds =
          rw c.on_tried.ensures
          (trials-bounds a.search.start a.s c.in_ok-l.l.bucket c.in-Some.i (Ok c.in_ok-w.w) c.requires.search_bounds.0.0 c.in_ok-l.ensures.bounds.0);
    }
