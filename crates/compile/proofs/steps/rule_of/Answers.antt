-- `compile::steps::rule_of` meets its contract. Assumes nothing.
use Rattle.std.proofs.Common.{List, map, ap, arith}
use Rattle.definitions.specs.declared.Step.{Step}
use Rattle.definitions.specs.Map.{map_of, action_of, actions_of}
use Rattle.laws.specs.Loadable.{bounds}
use Rattle.compile.proofs.steps.rule_of.Goals as goal

pub returns : goal.returns
unfolding actions_of
returns c =
    let e = c.count.ensures in (
      ap (λ (xs : List Step). map action_of xs) (rw e c.steps_of.ensures),
      e,
      omega (arith, e, (bounds (map_of c.args.text.now) c.requires).steps),
    )
