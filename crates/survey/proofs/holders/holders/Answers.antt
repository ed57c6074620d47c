-- `survey::holders::holders` meets its contract. The invariant: how many of the first g rows hold the device. Assumes nothing.
use Rattle.std.specs.Prelude.{◌≡◌, cond, ℕ, Bool}
use Rattle.std.proofs.Common.{ap, ◌∙◌, arith, sym}
use native.Mathlib.Nat.{add-sub_cancel_left}
use Rattle.ceiling.specs.Rows.{holding-none, holding-more}
use Rattle.survey.proofs.holders.holders.Goals as goal
use Rattle.survey.proofs.holders.holders.Goals.{then-holds, else-holds}

pub loop-g-init : goal.loop-g-init
loop-g-init c = (holding-none c.args.w c.args.d c.args.table.now, omega arith)

pub loop-g-preserved : goal.loop-g-preserved
loop-g-preserved c =
    let a = c.args in
    let more = λ (k : ℕ) (p : k ≡ cond c.holds.result 1 0). holding-more a.w a.d a.table.now c.loop-g.g c.loop-g.r k _ c.loop-g.invariant.0
    (add-sub_cancel_left _ _) (p ∙ ap (λ (b : Bool). cond b 1 0) c.holds.ensures) in
    elim c.if-holds.branch [
      | then-holds m ↦ rw m.r-is (more 1 (ap (λ (b : Bool). cond b 1 0) (sym m.if-holds.true)), omega arith)
      | else-holds m ↦ rw m.r-is (sym (omega arith) ∙ more 0 (ap (λ (b : Bool). cond b 1 0) (sym m.if-holds.false)), omega arith)
    ]
