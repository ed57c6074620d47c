use mathlib.Core.Path.{◌≡◌}
use lib.ListN.{drop}
use Rattle.definitions.specs.Map.{map_of}
use Rattle.members.specs.Once.{unseen, fresh}
use Rattle.members.proofs.once.once.Given as goal

abbrev pub invariant-loop-k : goal.invariant-loop-k
invariant-loop-k l = (fresh l.seen (drop l.k (map_of l.t).links) ≡ fresh unseen (map_of l.t).links)
