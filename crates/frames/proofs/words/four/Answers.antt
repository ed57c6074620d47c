-- `frames::words::four` meets its contract: the four bytes, each in its place, make the word. Assumes nothing.
use Rattle.std.proofs.Common.{arith}
use Rattle.frames.specs.Words.{word-four}
use Rattle.frames.proofs.words.four.Goals as goal

pub returns : goal.returns
returns c = (omega (arith, word-four c.args.s.now c.args.at, c.from_be_bytes.ensures, c.from.ensures), omega (arith, c.from_be_bytes.ensures, c.from.ensures))
