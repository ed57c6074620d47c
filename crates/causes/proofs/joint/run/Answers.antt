-- `causes::joint::run` meets its contract. The invariant: where the first steps lead both runs. Assumes nothing.
use Rattle.std.proofs.Common.{◌≡◌, sym, ◌∙◌, ◌≤◌, length, get_or, take, length-take-le, arith}
use borrow.Author.Rules.{rules}
use Rattle.definitions.specs.declared.Action.TheVariants.{Idle}
use Rattle.definitions.specs.Map.{action_of}
use Rattle.hierarchy.specs.Arrays.{view_in, actions_in}
use Rattle.laws.specs.Lists.{get_d-mapped}
use Rattle.placement.specs.Progress.{ran-more, doable, length-actions}
use Rattle.causes.proofs.joint.run.Goals as goal
use Rattle.causes.proofs.joint.run.Goals.{Start, After-action_of}

-- the rule's steps are in its array
within : (c : Start) → c.args.rule.len ≤ length c.args.rule.steps
within c = let w : length c.args.rule.steps ≡ 16 = search rules in omega (arith, w, c.requires.0)

-- what is done is the action of the step
told : (c : After-action_of) → c.action_of.result ≡ get_or (actions_in c.args.rule) c.loop-step.step-index Idle
told c = c.action_of.ensures ∙ sym (get_d-mapped action_of (take c.args.rule.len c.args.rule.steps) c.loop-step.step-index _ Idle c.loop-step-test.true)

pub loop-step-init : goal.loop-step-init
loop-step-init c = let e = c.start-p.ensures.0 in (e _ _ _, e _ _ _)

pub act-requires-clause-room : goal.act-requires-clause-room
act-requires-clause-room c =
    let a = c.args in
    let l = c.loop-step in
    let k = within (goal.at.act-requires-clause-room c).Start in
    let n = length-take-le a.rule.len a.rule.steps k in (
      omega (arith, l.invariant.0.tries, c.requires.0, n, c.loop-step-test.true),
      doable (rw c.plan.view_is at c.plan.invariant) c.requires.1 a.x l.step-index l.p c.action_of.result (omega (arith, length-actions a.rule k, n, c.loop-step-test.true)) (told c)
          l.invariant.0,
    )

pub loop-step-preserved : goal.loop-step-preserved
loop-step-preserved c =
    let t = told (goal.at.loop-step-preserved c).After-action_of in
    let a = c.args in
    let l = c.loop-step in
    let (o, n) = c.in_ok-p.ensures in (
      ran-more (view_in a.plan.now a.old.now) a.x (actions_in a.rule) l.step-index l.p c.in_ok-p.p c.action_of.result t l.invariant.0 o,
      ran-more (view_in a.plan.now a.new.now) a.x (actions_in a.rule) l.step-index l.p c.in_ok-p.p c.action_of.result t l.invariant.1 n,
    )
