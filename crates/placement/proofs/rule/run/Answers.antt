-- `placement::rule::run` meets its contract. The invariant: where the first k actions lead. Assumes nothing.
use Rattle.std.proofs.Common.{◌≡◌, ◌<◌, ◌≤◌, ◌∙◌, length, get_or, arith, rules}
use Rattle.definitions.specs.declared.Action.TheVariants.{Idle}
use Rattle.hierarchy.specs.Arrays.{view_in, actions_in}
use Rattle.placement.specs.Progress.{ran-more, doable, action-at, length-actions}
use Rattle.placement.proofs.rule.run.Goals as goal
use Rattle.placement.proofs.rule.run.Goals.{After-action_of-a}

-- the rule's steps are in its array
within : (c : After-action_of-a) → c.args.rule.len ≤ length c.args.rule.steps
within c =
    let w : length c.args.rule.steps ≡ 16 = search (rules, c.well_formed) in
    omega (arith, w, c.requires.0)

-- what is done is the action of step k
told : (c : After-action_of-a) → c.action_of-a.result ≡ get_or (actions_in c.args.rule) c.loop-k.k Idle
told c = c.action_of-a.ensures ∙ action-at c.args.rule c.loop-k.k _ (within c) c.loop-k-test.true

pub loop-k-init : goal.loop-k-init
loop-k-init c = c.start-p.ensures.0 _ _ _

pub act-p-requires-clause-room : goal.act-p-requires-clause-room
act-p-requires-clause-room c =
    let at = (goal.at.act-p-requires-clause-room c).After-action_of-a in
    let l = c.loop-k in
    let h : l.k < length (actions_in c.args.rule) = omega (arith, length-actions c.args.rule (within at), c.loop-k-test.true) in (
      omega (arith, l.invariant.tries, c.requires.0),
      doable (rw c.plan.view_is at c.plan.invariant) c.requires.1 c.args.x l.k l.p _ h (told at) l.invariant,
    )

pub loop-k-preserved : goal.loop-k-preserved
loop-k-preserved c =
    let a = c.args in
    ran-more (view_in a.plan.now a.values.now) a.x (actions_in a.rule) c.loop-k.k c.loop-k.p _ _
    (told (goal.at.loop-k-preserved c).After-action_of-a) c.loop-k.invariant c.act-p.ensures
