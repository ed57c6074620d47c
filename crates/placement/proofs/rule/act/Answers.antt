-- `placement::rule::act` meets its contract: each arm is a case of the action. Assumes nothing.
use mathlib.Core.Path.{subst}
use Rattle.placement.specs.Progress.{Doable, run-idle}
use Rattle.placement.proofs.rule.act.Goals as goal

pub take_bucket-requires : goal.take_bucket-requires
take_bucket-requires c = subst (Doable c.args.p) c.in-Take.is c.requires.room.1

pub selected-requires-clause-room : goal.selected-requires-clause-room
selected-requires-clause-room c = (c.requires.room.0, subst (Doable c.args.p) c.in-Select.is c.requires.room.1)

pub emit-requires : goal.emit-requires
emit-requires c = subst (Doable c.args.p) c.in-Emit.is c.requires.room.1

pub returns-in-Take : goal.returns-in-Take
returns-in-Take c = let e = c.take_bucket.ensures in rw c.in-Take.is (e.0 _ _, e.1)

pub returns-in-Select : goal.returns-in-Select
returns-in-Select c = rw c.in-Select.is c.selected.ensures

pub returns-in-Emit : goal.returns-in-Emit
returns-in-Emit c = let e = c.emit.ensures in rw c.in-Emit.is (e.0 _ _, e.1)

pub returns-in-Idle : goal.returns-in-Idle
returns-in-Idle c = rw c.in-Idle.is (run-idle _ _ c.args.p)
