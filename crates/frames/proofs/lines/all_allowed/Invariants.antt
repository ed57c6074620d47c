use mathlib.Core.Path.{◌≡◌}
use mathlib.Core.Bool.{◌&&◌}
use lib.ListN.{drop}
use Rattle.definitions.specs.Lists.{every}
use Rattle.definitions.specs.Load.{allowed}
use Rattle.frames.proofs.lines.all_allowed.Given as goal

abbrev pub invariant-loop-b : goal.invariant-loop-b
invariant-loop-b l = l.all && every allowed (drop l.b-index l.t) ≡ every allowed l.t
