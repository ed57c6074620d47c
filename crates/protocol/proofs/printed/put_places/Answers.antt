-- What is written so far are the places before `i`. Assumes nothing.
use Rattle.std.proofs.Common.{◌≡◌, ◌+◌, ◌*◌, refl, arith, rules}
use native.Mathlib.Nat.{add-sub_cancel_left}
use Rattle.definitions.specs.Lists.{joined}
use Rattle.text.specs.Front.{front-none}
use Rattle.protocol.specs.Written.{front-place}
use Rattle.protocol.proofs.printed.put_places.Goals as goal

pub loop-i-init : goal.loop-i-init
unfolding joined
loop-i-init c = (refl, front-none _)

pub loop-i-preserved : goal.loop-i-preserved
loop-i-preserved c =
    let i = c.loop-i.i in
    let next : 4 * (i + 1) ≡ 4 * i + 4 = omega arith in (
      search rules,
      rw next (front-place c.args.row.now i _ _ _ _ (omega arith) (add-sub_cancel_left (4 * i) 4) (search rules) c.from.ensures c.put_field.ensures c.loop-i.invariant.1),
    )
