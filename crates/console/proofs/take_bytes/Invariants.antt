-- Map, table and line are what the bytes before the rest led to. Assumes nothing.
use Rattle.std.proofs.Common.{◌≡◌, List, ℕ, ◌++◌, length}
use Rattle.report.specs.Edits.{site_of, session, bytes_of}
use Rattle.report.specs.Kept.{Keeps}
use Rattle.report.specs.Reads.{Led}
use Rattle.console.proofs.take_bytes.Given as goal

abbrev pub invariant-loop-rest : goal.invariant-loop-rest
invariant-loop-rest g l = (done : List ℕ) × (done ++ l.rest ≡ l.read)
    × ((xs : List ℕ) → Keeps l.initial.line xs → Led l.line (site_of l.map l.table l.states)
    (bytes_of l.p l.initial.space (session (site_of l.initial.map l.initial.table l.initial.states) xs) done))

abbrev pub decreases-loop-rest : goal.decreases-loop-rest
decreases-loop-rest g l = length l.rest
