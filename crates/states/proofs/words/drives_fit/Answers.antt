-- `states::words::drives_fit` meets its contract. The invariant: all fit if those left do. Assumes nothing.
use Rattle.std.proofs.Common.{refl, sym, ◌∙◌}
use Rattle.states.specs.Words.{number-stop, weight-stop, acceptance-stop, fit_next, fit-end}
use Rattle.states.proofs.words.drives_fit.Goals as goal

pub loop-i-init : goal.loop-i-init
loop-i-init c = refl

pub returns-then-own-i : goal.returns-then-own-i
returns-then-own-i c =
    let a = c.args in
    sym (sym c.loop-i.invariant ∙ number-stop a.own.now a.s.now a.a c.loop-i.i c.loop-i-test.true c.if-own-i.true)

pub returns-then-s-w-gt65535 : goal.returns-then-s-w-gt65535
returns-then-s-w-gt65535 c =
    let a = c.args in
    sym (sym c.loop-i.invariant ∙ weight-stop a.own.now a.s.now a.a c.loop-i.i c.loop-i-test.true c.if-s-w-gt65535.true)

pub returns-then-s-w-gt65536 : goal.returns-then-s-w-gt65536
returns-then-s-w-gt65536 c =
    let a = c.args in
    sym (sym c.loop-i.invariant ∙ acceptance-stop a.own.now a.s.now a.a c.loop-i.i c.loop-i-test.true c.if-s-w-gt65536.true)

pub loop-i-preserved : goal.loop-i-preserved
loop-i-preserved c =
    let a = c.args in
    fit_next a.own.now a.s.now a.a c.loop-i.i c.loop-i-test.true c.requires.2 c.if-own-i.false c.if-s-w-gt65535.false c.if-s-w-gt65536.false
    ∙ c.loop-i.invariant

pub returns : goal.returns
returns c =
    let a = c.args in
    sym (sym c.loop-i.invariant ∙ fit-end a.own.now a.s.now a.a c.loop-i.i c.loop-i-test.false)
