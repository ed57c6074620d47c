-- `compile::compile` meets its contract: the plan and the values are the edited map's, and together they give its view. Assumes nothing.
use Rattle.text.specs.Agreement.{loaded-map}
use Rattle.compile.proofs.compile.Goals as goal

pub plan_of-plan-requires : goal.plan_of-plan-requires
plan_of-plan-requires c = loaded-map _ c.requires.loads

pub rule_of-rule-requires : goal.rule_of-rule-requires
rule_of-rule-requires c = loaded-map _ c.requires.loads

pub goes_through-requires : goal.goes_through-requires
goes_through-requires c = c.rule_of-rule.ensures.2

pub weigh-weighed-requires : goal.weigh-weighed-requires
weigh-weighed-requires c = record { loadable = c.requires.loadable; planned = c.plan_of-plan.ensures }

pub returns : goal.returns
returns c =
    let v = c.weigh-weighed.ensures in
    record { values_value = v.values_value; planned = c.plan_of-plan.ensures; flagged = v.flagged; rule_value = c.rule_of-rule.ensures }
