-- Six digits, and the two fields at their places. Assumes nothing.
use Rattle.std.proofs.Common.{◌≡◌, arith, rules, sym, ◌∙◌, drop}
use Rattle.text.specs.Digits.{value-lt}
use Rattle.protocol.specs.Asked.{named_by, named_of}
use Rattle.protocol.specs.Forms.{not-six, not-digits, by_kind, no_kind}
use Rattle.protocol.proofs.asked.named.Goals as goal

pub returns-then-line-ne6 : goal.returns-then-line-ne6
returns-then-line-ne6 c = sym (not-six _ c.if-line-ne6.true)

pub returns-then-not-all_digits : goal.returns-then-not-all_digits
returns-then-not-all_digits c = sym (not-digits _ c.if-line-ne6.false (sym c.all_digits.ensures ∙ c.if-not-all_digits.true))

pub overflow_cast-name : goal.overflow_cast-name
overflow_cast-name c = let v = value-lt 4 (drop 2 c.args.line.now) in search (rules, v)

pub returns-in_default : goal.returns-in_default
returns-in_default c =
    let here : named_of c.args.line.now ≡ named_by c.field-kind.result c.field-name.result =
    by_kind c.args.line.now _ _ c.if-line-ne6.false (sym c.all_digits.ensures ∙ c.if-not-all_digits.false) c.field-kind.ensures c.field-name.ensures in
    sym (here ∙ no_kind _ _ (omega arith) (omega arith))
