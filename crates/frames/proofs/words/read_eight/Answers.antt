-- `frames::words::read_eight` meets its contract: the digits' values, spread and packed. Assumes nothing.
use mathlib.Core.Path.{◌∙◌}
use native.Mathlib.Omega.{arith}
use lib.ListN.{drop}
use Rattle.frames.specs.Words.{ones, spread-room, spread-lt, read-eight}
use Rattle.frames.proofs.words.read_eight.Goals as goal

pub spread-requires : goal.spread-requires
unfolding ones
spread-requires c =
    (omega arith, rw c.eight.ensures (spread-room 8 (drop c.args.at c.args.s.now) c.requires.1))

pub packed-requires : goal.packed-requires
unfolding ones
packed-requires c =
    rw (c.spread.ensures, c.eight.ensures) (spread-lt 8 (drop c.args.at c.args.s.now) c.requires.1 (omega arith))

pub returns : goal.returns
unfolding ones
returns c =
    c.packed.ensures ∙ rw (c.spread.ensures, c.eight.ensures) (read-eight (drop c.args.at c.args.s.now) c.requires.1)
