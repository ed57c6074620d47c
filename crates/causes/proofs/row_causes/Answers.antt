-- `causes::row_causes` meets its contract. The invariant: where the first steps lead both runs. Assumes nothing.
use Rattle.std.proofs.Common.{◌≡◌, sym, ◌∙◌, ◌≤◌, length, get_or, take, length-take-le, arith}
use borrow.Author.Rules.{rules}
use Rattle.definitions.specs.declared.Action.TheVariants.{Idle}
use Rattle.definitions.specs.Map.{action_of}
use Rattle.hierarchy.specs.Arrays.{view_in, actions_in}
use Rattle.laws.specs.Lists.{get_d-mapped}
use Rattle.placement.specs.Progress.{length-actions}
use Rattle.causes.specs.Beside.{reached-start, reached-more, reached-causes, able}
use Rattle.causes.proofs.row_causes.Goals as goal
use Rattle.causes.proofs.row_causes.Goals.{Start, After-action_of}

-- the rule's steps are in its array
within : (c : Start) → c.args.rule.len ≤ length c.args.rule.steps
within c = let w : length c.args.rule.steps ≡ 16 = search rules in omega (arith, w, c.requires.len_bound.0)

-- what is done is the action of the step
told : (c : After-action_of) → c.action_of.result ≡ get_or (actions_in c.args.rule) c.loop-step.step-index Idle
told c = c.action_of.ensures ∙ sym (get_d-mapped action_of (take c.args.rule.len c.args.rule.steps) c.loop-step.step-index _ Idle c.loop-step-test.true)

pub loop-step-init : goal.loop-step-init
loop-step-init c =
    let a = c.args in
    let e = c.start-start.ensures in
    reached-start (view_in a.plan.now a.old.now) (view_in a.plan.now a.new.now) a.x (actions_in a.rule) _ _ _ _ (e.0 _ _ _) (e.0 _ _ _) e.1 e.2

pub act-p-requires-clause-able : goal.act-p-requires-clause-able
act-p-requires-clause-able c =
    let a = c.args in
    let l = c.loop-step in
    let (r, r') = c.requires.ready in
    let at = goal.at.act-p-requires-clause-able c in
    let k = within at.Start in
    let n = length-take-le a.rule.len a.rule.steps k in
    able (rw c.plan.view_is at c.plan.invariant) r r' c.requires.len_bound.1 a.x l.step-index l.p c.action_of.result
    (omega (arith, length-actions a.rule k, n, c.loop-step-test.true)) (omega (arith, n, c.requires.len_bound.0)) (told c) l.invariant

pub loop-step-preserved : goal.loop-step-preserved
loop-step-preserved c =
    let a = c.args in
    let l = c.loop-step in
    reached-more (view_in a.plan.now a.old.now) (view_in a.plan.now a.new.now) a.x (actions_in a.rule) l.step-index l.p c.act-p.result
    c.action_of.result (told (goal.at.loop-step-preserved c).After-action_of) l.invariant c.act-p.ensures

pub returns : goal.returns
returns c =
    let a = c.args in
    let v = view_in a.plan.now a.old.now in
    let w = view_in a.plan.now a.new.now in
    let l = c.loop-step in
    let e : l.step-index ≡ a.rule.len = omega (arith, length-take-le a.rule.len a.rule.steps (within (goal.at.returns c).Start)) in
    reached-causes v w a.x (actions_in a.rule) a.rule.len l.p (rw e at l.invariant)
