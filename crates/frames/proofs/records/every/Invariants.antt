use Rattle.std.proofs.Common.{Bool}
use Rattle.definitions.specs.Map.{map_of}
use Rattle.frames.specs.Each.{Answers}
use Rattle.frames.proofs.Each.{Tested}
use Rattle.frames.proofs.records.every.Given as goal

abbrev pub invariant-loop-k : goal.invariant-loop-k
invariant-loop-k g l =
    let xs = g.R.Record.listed (map_of l.text) in
    (p : g.row.R.Denot → Bool) → Answers (λ x b. g.F.Fn.post l.test (x, tt) b) xs g.R.Record.none p → Tested p xs l.k
