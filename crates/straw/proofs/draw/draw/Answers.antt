-- `straw::draw::draw` meets its contract: without a guard all weights are 0; a guard that is alone wins; and else the contest ends with the
-- winner. Assumes nothing.
use Rattle.std.proofs.Common.{sym, ◌∙◌, arith}
use Rattle.definitions.specs.Straw.{drawn_of}
use Rattle.laws.specs.Draw.{none-exactly}
use Rattle.straw.specs.Guard.{ahead-alone, ahead-all}
use Rattle.straw.proofs.draw.draw.Goals as goal

pub returns-in_err-g : goal.returns-in_err-g
returns-in_err-g c =
    let a = c.args in
    c.from_residual.ensures
    ∙ sym ((none-exactly a.seed a.x a.r a.items.now a.weights.now).1 (λ n h. c.in_err-g.ensures n (omega arith)))

pub returns-then-alone : goal.returns-then-alone
unfolding drawn_of
returns-then-alone c =
    let a = c.args in
    let items = a.items.now in
    let ws = a.weights.now in
    let g = c.in_ok-g.g in
    ahead-all a.seed a.x a.r items ws g _
    (ahead-alone a.seed a.x a.r items ws c.hash_children-hashes.result g c.hash_children-hashes.ensures c.requires.1 c.in_ok-g.ensures
    (c.alone.ensures c.if-alone.true))
