-- `frames::digits::char_of` meets its contract: below 10 a decimal digit, from 10 on a letter. Assumes nothing.
use mathlib.Core.Path.{sym}
use Rattle.text.specs.Digits.{byte_small, byte-large}
use Rattle.frames.proofs.digits.char_of.Goals as goal

pub returns-then-v-lt10 : goal.returns-then-v-lt10
returns-then-v-lt10 c = sym (byte_small _ c.if-v-lt10.true)

pub returns : goal.returns
returns c = sym (byte-large _ c.if-v-lt10.false)
