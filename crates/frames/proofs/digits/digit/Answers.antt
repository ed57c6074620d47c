-- `frames::digits::digit` meets its contract: each return is one of the five ranges of a byte. Assumes nothing.
use Rattle.std.proofs.Common.{◌≡◌, ◌+◌, ◌-◌, ◌≤◌, sym, ◌∙◌, arith}
use Rattle.text.specs.Digits.{low, decimal, between, letter, above}
use Rattle.frames.proofs.digits.digit.Goals as goal

pub returns-in_default : goal.returns-in_default
returns-in_default c = (sym (low c.args.b (omega arith)).1, omega arith)

pub returns-in-48-to-57 : goal.returns-in-48-to-57
returns-in-48-to-57 c = (sym (decimal c.args.b (omega arith) (omega arith)).1, omega arith)

pub returns-in-97-to-102 : goal.returns-in-97-to-102
returns-in-97-to-102 c =
    let h : 97 ≤ c.args.b = omega arith in
    let e : c.args.b - 97 + 10 ≡ c.args.b - 87 = omega arith in
    (e ∙ sym (letter c.args.b (omega arith) (omega arith)).1, omega arith)

pub returns-in_default-2 : goal.returns-in_default-2
returns-in_default-2 c = (sym (between c.args.b (omega arith) (omega arith)).1, omega arith)

pub returns-in_default-3 : goal.returns-in_default-3
returns-in_default-3 c = (sym (above c.args.b (omega arith)).1, omega arith)
