-- `straw::logarithm::log` meets its contract. The invariant: the digits that are left, from here, come to the twenty of the start. Assumes nothing.
use mathlib.Core.Path.{◌≡◌, ◌∙◌, refl, ap}
use Prim.Native.Nat.{◌+◌, ◌*◌, ◌%◌, ◌^◌}
use native.Mathlib.Nat.{lt_of_lt_of_le}
use lib.Pow.{pow_mono}
use Rattle.definitions.specs.declared.Digits.{Digits}
use native.Mathlib.Omega.{arith}
use borrow.Author.Rules.{rules}
use Rattle.definitions.specs.Straw.{digits, mantissa, L}
use Rattle.laws.specs.Logarithm.{mantissa-m, digit-m, digit-d, one_more, log-le}
use Rattle.straw.proofs.logarithm.log.Goals as goal

pub loop-i-init : goal.loop-i-init
unfolding mantissa
loop-i-init c =
    let u = c.args.u in
    let q : (u * 2 ^ 31) % 2 ^ 64 ≡ u * 2 ^ 31 = omega arith in
    rw (q, c.floor_log-e.ensures.0) (mantissa-m u c.requires.0 c.requires.1, search rules, refl)

pub next_digit-s-requires : goal.next_digit-s-requires
next_digit-s-requires c = (search rules, lt_of_lt_of_le c.loop-i.invariant.1 (pow_mono {j = 32} (omega arith)))

pub loop-i-preserved : goal.loop-i-preserved
loop-i-preserved c =
    let l = c.loop-i in
    rw c.next_digit-s.ensures (
      digit-m l.s l.invariant.0,
      digit-d l.s l.i l.invariant.1,
      one_more l.i l.s (omega arith) ∙ l.invariant.2,
    )

pub overflow_add-result : goal.overflow_add-result
overflow_add-result c = omega (arith, lt_of_lt_of_le c.loop-i.invariant.1 (pow_mono {j = 20} (omega arith)))

pub returns : goal.returns
unfolding L digits
returns c =
    let l = c.loop-i in
    let u = c.args.u in
    let e : l.i ≡ 20 = omega arith in
    let f : l.s.d ≡ (digits 20 (mantissa u)).d = ap (λ (x : Digits). x.d) (rw e at l.invariant.2) in
    let r = c.from.result in
    let is : (r * 2 ^ 20) % 2 ^ 64 + l.s.d ≡ L u = omega (arith, f) in
    (is, omega (arith, is, log-le u (search rules) (search rules)))
