-- `survey::rows::holds` meets its contract. Assumes nothing.
use Rattle.std.specs.Prelude.{eqb}
use Rattle.std.proofs.Common.{◌∙◌, rules}
use Rattle.std.proofs.lemmas.Iterator.{YieldsList-from_slice}
use Rattle.std.proofs.lemmas.Iterator.Search.{any_from_yields_List}
use borrow.Author.Tests.{tests}
use Rattle.laws.specs.Chains.{contains-has}
use Rattle.survey.proofs.rows.holds.Goals as goal

pub returns : goal.returns
returns c =
    let a = c.args in
    any_from_yields_List (λ x. eqb x a.d) _ _ _ c.any.ensures.ran (YieldsList-from_slice a.row.now cc) (λ x b q k. search (rules, tests))
    ∙ contains-has a.d a.row.now
