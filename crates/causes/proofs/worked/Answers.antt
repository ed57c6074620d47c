-- `causes::worked` meets its contract: each arm is a case of the action. Assumes nothing.
use Rattle.std.proofs.Common.{◌≡◌, refl, length, arith}
use borrow.Author.Rules.{rules}
use Rattle.definitions.specs.declared.Action.TheVariants.{Select}
use Rattle.hierarchy.specs.Arrays.{view_in}
use Rattle.blocks.specs.Products.{product_after}
use Rattle.placement.specs.Progress.{Acted}
use Rattle.causes.specs.Beside.{Able, leaves-holes, workable-above, worked-take, worked-select, worked-emit, worked-idle}
use Rattle.causes.proofs.worked.Goals as goal
use Rattle.causes.proofs.worked.Goals.{In-Select}

-- the select at hand can be done
selects : (c : In-Select) → let s = c.in-Select in Able c.args.p (Select s.mode s.n1 s.t)
selects c = rw c.in-Select.is at c.requires.able

-- where it leads the two runs
leads-old : (c : In-Select) → let a = c.args in let s = c.in-Select in Acted (view_in a.plan.now a.old.now) a.x a.p.old (Select s.mode s.n1 s.t) a.o
leads-old c = rw c.in-Select.is at c.requires.acted.0

leads-new : (c : In-Select) → let a = c.args in let s = c.in-Select in Acted (view_in a.plan.now a.new.now) a.x a.p.new (Select s.mode s.n1 s.t) a.n
leads-new c = rw c.in-Select.is at c.requires.acted.1

pub causes_of-requires : goal.causes_of-requires
unfolding product_after
causes_of-requires c =
    let at = (goal.at.causes_of-requires c).In-Select in
    let p = c.args.p in
    let (f, g, i) = selects at in
    let d = f.1 in
    let o = leads-old at in
    let w : length p.old.working ≡ 16 = search rules in
    record { le_n = (d.0, d.1, d.4, workable-above p.old.working p.old.len _ c.args.o.len (omega (arith, w, p.old.len_bound)) d.3 o.1.len) }

pub returns-in-Take : goal.returns-in-Take
returns-in-Take c = rw c.in-Take.is (worked-take _ _ _ c.args.p _ _ refl)

pub returns-in-Select : goal.returns-in-Select
returns-in-Select c =
    let at = (goal.at.returns-in-Select c).In-Select in
    let a = c.args in
    let (f, g, i) = selects at in
    let o = leads-old at in
    let n = leads-new at in
    let lp : length a.p.old.working ≡ 16 = search rules in
    let lo : length a.o.working ≡ 16 = search rules in
    let ln : length a.n.working ≡ 16 = search rules in
    rw c.in-Select.is
    (worked-select (view_in a.plan.now a.old.now) (view_in a.plan.now a.new.now) a.x a.p _ _ _ a.o a.n c.causes_of.result (leaves-holes _ _ _ i)
    (omega (arith, lp, a.p.old.len_bound)) o n (omega (arith, lo, a.o.len_bound)) (omega (arith, ln, a.n.len_bound)) c.causes_of.ensures)

pub returns-in-Emit : goal.returns-in-Emit
returns-in-Emit c = rw c.in-Emit.is (worked-emit _ _ _ c.args.p)

pub returns-in-Idle : goal.returns-in-Idle
returns-in-Idle c = rw c.in-Idle.is (worked-idle _ _ _ c.args.p)
