-- `causes::listed` meets its contract: each arm is a case of the action. Assumes nothing.
use Rattle.std.proofs.Common.{◌≡◌, length, arith}
use borrow.Author.Rules.{rules}
use Rattle.causes.specs.Beside.{listed-take, listed-select, listed-emit, listed-idle}
use Rattle.causes.proofs.listed.Goals as goal

pub returns-in-Take : goal.returns-in-Take
returns-in-Take c = rw c.in-Take.is (λ v w x. listed-take v w x c.args.p _)

pub returns-in-Select : goal.returns-in-Select
returns-in-Select c = λ v w x. listed-select v w x c.args.p _ _ _ _ c.in-Select.is

pub returns-in-Emit : goal.returns-in-Emit
returns-in-Emit c =
    let p = c.args.p in
    let wc : length p.causes ≡ 16 = search rules in
    let wl : length p.list ≡ 32 = search rules in
    rw c.in-Emit.is (λ v w x. listed-emit v w x p _ (omega (arith, wc, p.old.len_bound)) (omega (arith, wl, p.old.emitted_bound)) c.append.ensures)

pub returns-in-Idle : goal.returns-in-Idle
returns-in-Idle c = rw c.in-Idle.is (λ v w x. listed-idle v w x c.args.p)
