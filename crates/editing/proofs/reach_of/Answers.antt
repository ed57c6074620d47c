-- `editing::reach_of` meets its contract. Assumes nothing.
use mathlib.Core.Path.{refl}
use borrow.Author.Tests.{le-leb, lt-leb}
use Rattle.editing.proofs.reach_of.Goals as goal

pub returns-then-after-before : goal.returns-then-after-before
returns-then-after-before c = let a = c.args in rw (le-leb a.after a.before c.if-after-before.true) refl

pub returns : goal.returns
returns c = let a = c.args in rw (lt-leb a.after a.before c.if-after-before.false) refl
