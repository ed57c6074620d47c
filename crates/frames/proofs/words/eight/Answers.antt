-- `frames::words::eight` meets its contract: two words of four bytes. Assumes nothing.
use Rattle.frames.specs.Words.{word-eight}
use Rattle.frames.proofs.words.eight.Goals as goal

pub returns : goal.returns
returns c =
    rw (c.four.ensures.0, c.four-2.ensures.0) (word-eight c.args.s.now c.args.at)
