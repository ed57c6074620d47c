-- `walk::try_number` meets its contract: each arm is a case of `try_number`. Assumes nothing.
use Rattle.std.proofs.Common.{inl, inr}
use Rattle.definitions.specs.Walk.{try_number}
use Rattle.walk.proofs.try_number.Goals as goal

pub returns-in-FirstN : goal.returns-in-FirstN
unfolding try_number
returns-in-FirstN c = simp c.in-FirstN.is

pub returns-in-Independent : goal.returns-in-Independent
unfolding try_number
returns-in-Independent c = elim c.in-Independent.is [ inl e ↦ simp e | inr e ↦ simp e ]
