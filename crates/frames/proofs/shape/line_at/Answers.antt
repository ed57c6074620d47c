-- `frames::shape::line_at` meets its contract: the kind that is read gives the line's length. Assumes nothing.
use mathlib.Core.Path.{sym}
use native.Mathlib.Omega.{arith}
use borrow.Author.Rules.{rules}
use Rattle.text.specs.Frames.{length-least, Known, known}
use Rattle.frames.proofs.shape.line_at.Goals as goal
use Rattle.frames.proofs.shape.line_at.Lts as lts
use Rattle.frames.proofs.shape.line_at.Reads as reads
use Rattle.frames.proofs.shape.line_at.Tie as tie

-- what is known at these places of the code
abbrev After-field : Type 0
After-field = lts.After-field tie.the-claims reads.Pre reads.Post

-- what is known of the line, at the kind that was read
here : (c : After-field) → let a = c.args in Known a.t.now a.at c.field-kind.result
here c =
    rw c.field-kind.ensures (known c.args.t.now c.args.at c.requires.0 c.requires.1 c.requires.2)

pub field-kind-requires : goal.field-kind-requires
field-kind-requires c = ((known c.args.t.now c.args.at c.requires.0 c.requires.1 c.requires.2).two, search rules)

pub bounds-kind : goal.bounds-kind
bounds-kind c = (here c.before.before).small

pub overflow_add-next : goal.overflow_add-next
overflow_add-next c = omega (arith, (here c.before.before.before).room)

pub returns : goal.returns
returns c = let k = here c.before.before.before in (omega (arith, length-least c.field-kind.result k.small), k.room, sym k.kind, k.frames, k.rest)
