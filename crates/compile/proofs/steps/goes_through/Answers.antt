-- `compile::steps::goes_through` meets its contract. Assumes nothing.
use Rattle.std.proofs.Common.{take, eqb, rules, tests, ◌∙◌}
use Rattle.std.proofs.lemmas.Iterator.{YieldsList-from_slice}
use Rattle.std.proofs.lemmas.Iterator.Search.{any_from_yields_List}
use Rattle.definitions.specs.declared.Step.{Step}
use Rattle.compile.specs.Reading.{any-some}
use Rattle.compile.proofs.steps.goes_through.Goals as goal

pub returns : goal.returns
returns c =
    let xs = take c.args.rule.len c.args.rule.steps in
    any_from_yields_List (λ (s : Step). eqb s.step 5) _ _ c.any.result c.any.ensures.ran (YieldsList-from_slice xs cc) (λ s b q k. search (rules, tests))
    ∙ any-some _ xs
