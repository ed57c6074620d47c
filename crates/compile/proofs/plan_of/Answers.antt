-- `compile::plan_of` meets its contract: the arrays of the map, laid into the plan. Assumes nothing.
use Rattle.definitions.specs.Map.{map_of}
use Rattle.compile.specs.Compiled.{Planned, planned-of, sound-is}
use Rattle.compile.proofs.plan_of.Goals as goal
use Rattle.compile.proofs.plan_of.Goals.{After-plan_of-words}

-- the words are the plan of the map
planned : (c : After-plan_of-words) → Planned (map_of c.args.text.now) c.plan_of-words.result
planned c =
    let p = c.plan_of-words.ensures in
    let b = c.buckets_of-buckets.ensures in
    planned-of (map_of c.args.text.now) c.plan_of-words.result c.children_of-children.ensures b.tabled b.tabled_2 p.0 p.1 p.2 p.3 p.4 p.5

pub invariant_of-result : goal.invariant_of-result
invariant_of-result c = sound-is (map_of c.args.text.now) c.requires (planned (goal.at.invariant_of-result c).After-plan_of-words)

pub returns : goal.returns
returns c = planned (goal.at.returns c).After-plan_of-words
