use mathlib.Core.Path.{◌≡◌}
use mathlib.Core.List.{map}
use Prim.Native.Nat.{◌+◌}
use lib.ListN.{drop}
use Rattle.definitions.specs.Lists.{sum}
use Rattle.weights.specs.Weights.{item_in}
use Rattle.weights.proofs.total.Given as goal

abbrev pub invariant-loop-i : goal.invariant-loop-i
invariant-loop-i l =
    l.n + sum (map (item_in l.devices l.loads) (drop l.i l.items)) ≡ sum (map (item_in l.devices l.loads) l.items)
