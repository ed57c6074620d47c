use mathlib.Core.Path.{◌≡◌}
use lib.ListN.{length, drop}
use Rattle.definitions.specs.Map.{map_of}
use Rattle.definitions.specs.States.{drives_in}
use Rattle.text.specs.Edit.{Edited}
use Rattle.states.specs.Values.{partly}
use Rattle.states.proofs.values.put_values.Given as goal

abbrev pub invariant-loop-i : goal.invariant-loop-i
invariant-loop-i l = (length l.t ≡ length l.initial.t) × Edited l.t (partly (map_of l.initial.t) (drives_in l.n (drop l.a l.s)) l.i)
