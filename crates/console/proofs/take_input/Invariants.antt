-- Map, table and line are what the bytes read led to. Assumes nothing.
use Rattle.std.proofs.Common.{List, ℕ}
use Rattle.std.specs.Io.KnownBytes.{Consumes}
use Rattle.report.specs.Edits.{site_of, session, bytes_of}
use Rattle.report.specs.Kept.{Keeps}
use Rattle.report.specs.Reads.{Led}
use Rattle.console.proofs.take_input.Given as goal

abbrev pub invariant-loop : goal.invariant-loop
invariant-loop g l = (xs : List ℕ) → Keeps l.initial.line xs → (bs : List ℕ) × Consumes (g.R.Read.remaining l.initial.stdin) (g.R.Read.remaining l.stdin) bs
    × Led l.line (site_of l.map l.table l.states) (bytes_of l.p l.initial.space (session (site_of l.initial.map l.initial.table l.initial.states) xs) bs)
