-- `survey::rows::count_row` meets its contract. Assumes nothing.
use Rattle.std.specs.Prelude.{◌≡◌, ℕ, not, eqb, length}
use Rattle.std.proofs.Common.{◌∙◌, arith, rules}
use Rattle.std.proofs.lemmas.Iterator.{YieldsList-from_slice, YieldsList-from_zip}
use Rattle.std.proofs.lemmas.Iterator.Consumers.{YieldsList-from_filter, count_from_yields_List}
use borrow.Author.Tests.{tests}
use Rattle.survey.specs.Rows.{differ_to, differ-counted, differ-small}
use Rattle.survey.proofs.rows.count_row.Goals as goal

pub returns : goal.returns
returns c =
    let a = c.args in
    let pairs = YieldsList-from_zip (YieldsList-from_slice a.old.now cc) (YieldsList-from_slice a.new.now cc) in
    let r : c.count.result ≡ differ_to a.old.now a.new.now (length a.old.now) =
    count_from_yields_List _ _ c.count.ensures.ran (YieldsList-from_filter _ (λ (p : ℕ × ℕ). not (eqb p.0 p.1)) pairs c.filter.ensures.closure (λ x b q k. search (rules, tests)))
    ∙ differ-counted a.old.now a.new.now c.requires.0 in
    (r, omega (arith, r, differ-small a.old.now a.new.now (length a.old.now), c.requires.1))
