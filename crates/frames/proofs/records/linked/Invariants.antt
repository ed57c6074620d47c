use Rattle.std.proofs.Common.{◌≡◌, Bool, ◌-◌, get_or}
use Rattle.definitions.specs.Map.{map_of}
use Rattle.frames.specs.Each.{AnswersPairs}
use Rattle.frames.proofs.Each.{Chained}
use Rattle.frames.proofs.records.linked.Given as goal

abbrev pub invariant-loop-k : goal.invariant-loop-k
invariant-loop-k g l =
    let xs = g.R.Record.listed (map_of l.text) in
    (l.last ≡ get_or xs (l.k - 1) g.R.Record.none)
    × ((p : g.row.R.Denot → g.row.R.Denot → Bool) → AnswersPairs (λ x y b. g.F.Fn.post l.test (x, (y, tt)) b) xs g.R.Record.none p
    → Chained p xs g.R.Record.none l.k l.last)
