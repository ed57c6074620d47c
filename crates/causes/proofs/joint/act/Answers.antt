-- `causes::joint::act` meets its contract: each arm is a case of the action. Assumes nothing.
use Rattle.hierarchy.specs.Arrays.{view_in}
use Rattle.placement.specs.Bare.{bare_act}
use Rattle.placement.specs.Progress.{run-idle}
use Rattle.causes.proofs.joint.act.Goals as goal

pub returns-in-Take : goal.returns-in-Take
unfolding bare_act
returns-in-Take c = let e = rw c.in-Take.is at c.act.ensures in rw c.in-Take.is (e, e)

pub returns-in-Emit : goal.returns-in-Emit
unfolding bare_act
returns-in-Emit c = let e = rw c.in-Emit.is at c.act-in-Emit.ensures in rw c.in-Emit.is (e, e)

pub returns-in-Idle : goal.returns-in-Idle
returns-in-Idle c =
    let a = c.args in
    rw c.in-Idle.is (run-idle (view_in a.plan.now a.old.now) a.x a.p, run-idle (view_in a.plan.now a.new.now) a.x a.p)
