use Rattle.std.specs.Prelude.{◌≡◌, ◌++◌, ◌*◌, drop}
use Rattle.hierarchy.specs.Arrays.{view_in, actions_in}
use Rattle.table.specs.Rows.{rows_to}
use Rattle.table.proofs.fill_rows.Given as goal

abbrev pub invariant-loop-g : goal.invariant-loop-g
invariant-loop-g l = l.table ≡ rows_to (view_in l.plan l.values) (actions_in l.rule) l.rule.len l.w l.g ++ drop (l.g * l.w) l.initial.table
