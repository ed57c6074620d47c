-- `placement::select::leaves_out` meets its contract: each arm is a case of `left_out`. Assumes nothing.
use Rattle.std.proofs.Common.{inl, inr}
use Rattle.placement.specs.Bare.{left_out}
use Rattle.placement.proofs.select.leaves_out.Goals as goal

pub returns-in-FirstN : goal.returns-in-FirstN
unfolding left_out
returns-in-FirstN c = simp c.in-FirstN.is

pub returns-in-Independent : goal.returns-in-Independent
unfolding left_out
returns-in-Independent c = elim c.in-Independent.is [ inl e ↦ simp e | inr e ↦ simp e ]
