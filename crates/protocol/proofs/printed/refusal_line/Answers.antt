-- `protocol::printed::refusal_line` meets its contract: field by field, what is written so far is the front of the line. Assumes nothing.
use mathlib.Core.Path.{sym, ap, ◌∙◌}
use lib.ListN.{length}
use Rattle.text.specs.Front.{front-none, front-field}
use Rattle.protocol.specs.Written.{refusal-end, length-refusal}
use borrow.Author.Rules.{rules}
use Rattle.protocol.proofs.printed.refusal_line.Goals as goal

pub returns : goal.returns
returns c =
    let f1 = front-field 2 _ 31 _ (front-none c.args.out.now) (search rules) c.put_field.ensures in
    let f2 = front-field 2 _ c.args.number _ f1 (search rules) c.put_field-2.ensures in
    refusal-end c.args.number f2 c.requires

pub shape_of-out : goal.shape_of-out
shape_of-out c = ap length (returns c) ∙ length-refusal _ ∙ sym (search rules)
