use Rattle.std.specs.Prelude.{◌≡◌, ◌++◌, length, take, drop}
use Rattle.placement.specs.Bare.{filled_up}
use Rattle.placement.proofs.rule.write_row.Given as goal

abbrev pub invariant-loop-i : goal.invariant-loop-i
invariant-loop-i l = l.row ≡ take l.i (filled_up (length l.initial.row) l.list) ++ drop l.i l.initial.row
