-- `engine::asked::whole` meets its contract: any refusal of load's is one of question 14. Assumes nothing.
use Rattle.std.proofs.Common.{refl}
use Rattle.engine.specs.Rows.{refused-some}
use Rattle.engine.proofs.asked.whole.Goals as goal

pub returns-in-Err : goal.returns-in-Err
returns-in-Err c = (refl, λ e. refused-some _ _ c.in-Err.ensures e)
