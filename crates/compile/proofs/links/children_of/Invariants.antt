use Rattle.definitions.specs.Map.{map_of}
use Rattle.compile.specs.Links.{ArrangedFrom}
use Rattle.compile.proofs.links.children_of.Given as goal

abbrev pub invariant-loop-k : goal.invariant-loop-k
invariant-loop-k l = ArrangedFrom (map_of l.text).links l.first l.count l.items l.k
