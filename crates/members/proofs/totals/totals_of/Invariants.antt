use lib.ListN.{take}
use Rattle.definitions.specs.Map.{map_of}
use Rattle.members.specs.Totals.{Totalled}
use Rattle.members.specs.Counts.{counted}
use Rattle.members.specs.Sums.{adds, most}
use Rattle.members.proofs.totals.totals_of.Given as goal

abbrev pub invariant-loop-k : goal.invariant-loop-k
invariant-loop-k l =
    Totalled counted 1 (take l.k (map_of l.t).links) l.counts × Totalled (adds (map_of l.t)) most (take l.k (map_of l.t).links) l.sums
