-- A write that failed wrote nothing. Assumes nothing.
use Rattle.std.specs.Io.KnownBytes.{Keeps}
use Rattle.console.proofs.system.write_some.Given as goal

abbrev pub invariant-loop : goal.invariant-loop
invariant-loop g l = Keeps (g.W.Write.contents l.initial.stdout) (g.W.Write.contents l.stdout)
