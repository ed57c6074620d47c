-- `descent::draw_again` meets its contract. Assumes nothing.
use mathlib.Core.Path.{◌∙◌}
use Rattle.descent.specs.Descent.{draw-alike}
use Rattle.descent.proofs.draw_again.Goals as goal

pub returns-then-alike : goal.returns-then-alike
returns-then-alike c =
    let a = c.args in
    c.requires.1 ∙ draw-alike a.plan.now a.old.now a.new.now a.x a.r a.b (c.alike.ensures c.if-alike.true)
