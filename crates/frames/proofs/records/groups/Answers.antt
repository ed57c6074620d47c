-- `frames::records::groups` meets its contract: the count stands in the first line, which is within the text. Assumes nothing.
use mathlib.Core.Path.{◌∙◌}
use native.Mathlib.Omega.{arith}
use Rattle.text.specs.Records.{groups-at}
use Rattle.frames.specs.Words.{digits_in}
use Rattle.frames.proofs.records.groups.Goals as goal

pub read_eight-requires : goal.read_eight-requires
read_eight-requires c =
    let g = groups-at c.args.t.now c.requires in
    (omega (arith, g.1), digits_in c.args.t.now 0 2 8 _ g.2 (omega arith))

pub returns : goal.returns
returns c = c.read_eight.ensures ∙ (groups-at c.args.t.now c.requires).0
