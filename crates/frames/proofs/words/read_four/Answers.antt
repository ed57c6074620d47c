-- `frames::words::read_four` meets its contract: the digits' values, spread and packed. Assumes nothing.
use mathlib.Core.Path.{◌∙◌}
use native.Mathlib.Omega.{arith}
use lib.ListN.{drop}
use Rattle.frames.specs.Words.{ones, spread-room, read-four}
use Rattle.frames.proofs.words.read_four.Goals as goal

pub spread-requires : goal.spread-requires
unfolding ones
spread-requires c =
    (omega arith, rw c.four.ensures.0 (spread-room 4 (drop c.args.at c.args.s.now) c.requires.1))

pub returns : goal.returns
unfolding ones
returns c =
    c.packed.ensures ∙ rw (c.spread.ensures, c.four.ensures.0) (read-four (drop c.args.at c.args.s.now) c.requires.1)
