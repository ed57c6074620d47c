-- `states::words::place_from` meets its contract. The invariant: none of the states so far has the name. Assumes nothing.
use Rattle.std.proofs.Common.{◌≡◌, refl, sym, ◌∙◌, arith}
use Rattle.states.specs.Words.{place-next, place_here, place_end}
use Rattle.states.proofs.words.place_from.Goals as goal

pub loop-j-init : goal.loop-j-init
loop-j-init c = refl

pub returns-then-s-j : goal.returns-then-s-j
returns-then-s-j c =
    let a = c.args in
    place_here a.s.now a.n a.c c.loop-j.j a.x c.loop-j-test.true c.if-s-j.true ∙ c.loop-j.invariant

pub loop-j-preserved : goal.loop-j-preserved
loop-j-preserved c =
    let a = c.args in
    place-next a.s.now a.n a.c c.loop-j.j a.x c.loop-j-test.true c.if-s-j.false ∙ c.loop-j.invariant

pub returns : goal.returns
returns c =
    let a = c.args in
    let end : c.loop-j.j ≡ a.c = omega arith in
    sym end ∙ place_end a.s.now a.n a.c c.loop-j.j a.x c.loop-j-test.false ∙ c.loop-j.invariant
