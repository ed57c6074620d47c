use mathlib.Core.Path.{◌≡◌}
use lib.ListN.{length}
use Rattle.definitions.specs.Map.{map_of}
use Rattle.text.specs.Edit.{Edited}
use Rattle.edit_frame.specs.Sums.{bearing_to}
use Rattle.edit_frame.proofs.put_sums.Given as goal

abbrev pub invariant-loop-k : goal.invariant-loop-k
invariant-loop-k l = (length l.t ≡ length l.initial.t) × Edited l.t (bearing_to l.sums (map_of l.initial.t) l.k)
