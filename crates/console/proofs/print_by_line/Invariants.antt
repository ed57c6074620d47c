-- The rows of the groups before this one stand behind what was written. Assumes nothing.
use Rattle.std.specs.Io.KnownBytes.{Appends}
use Rattle.protocol.specs.Lines.{row_lines}
use Rattle.console.proofs.print_by_line.Given as goal

abbrev pub invariant-loop-g : goal.invariant-loop-g
invariant-loop-g g l = Appends (g.W.Write.contents l.initial.stdout) (g.W.Write.contents l.stdout) (row_lines l.g 0 l.w l.table)
