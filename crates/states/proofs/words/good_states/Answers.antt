-- `states::words::good_states` meets its contract. The invariant: all are good if those left are. Assumes nothing.
use mathlib.Core.Path.{refl, sym, ◌∙◌}
use Prim.Native.Nat.{◌+◌, ◌*◌, ◌≤◌}
use native.Mathlib.Omega.{arith}
use native.Mathlib.Nat.{mul-le-mul_right}
use lib.ListN.{length, get_or}
use Rattle.states.specs.Words.{slot_at, good-next, state-stop, again-stop, good-end, later-yes, later-no}
use Rattle.states.proofs.words.good_states.Goals as goal

pub loop-k-init : goal.loop-k-init
loop-k-init c = refl

pub overflow_mul-a : goal.overflow_mul-a
overflow_mul-a c =
    let drives = length c.args.own.now in
    let inside : slot_at drives c.loop-k.k + (1 + 3 * drives) ≤ length c.args.s.now = omega (arith, c.requires.0, mul-le-mul_right (1 + 3 * drives) c.loop-k-test.true) in
    omega (arith, inside, c.requires.1)

pub overflow_add-a : goal.overflow_add-a
overflow_add-a c =
    let drives = length c.args.own.now in
    let inside : slot_at drives c.loop-k.k + (1 + 3 * drives) ≤ length c.args.s.now = omega (arith, c.requires.0, mul-le-mul_right (1 + 3 * drives) c.loop-k-test.true) in
    omega (arith, inside, c.requires.1)

pub overflow_mul-a-in-loop-k : goal.overflow_mul-a-in-loop-k
overflow_mul-a-in-loop-k c =
    let drives = length c.args.own.now in
    let inside : slot_at drives c.loop-k.k + (1 + 3 * drives) ≤ length c.args.s.now = omega (arith, c.requires.0, mul-le-mul_right (1 + 3 * drives) c.loop-k-test.true) in
    omega (arith, inside, c.requires.1)

pub overflow_add-a-in-loop-k : goal.overflow_add-a-in-loop-k
overflow_add-a-in-loop-k c =
    let drives = length c.args.own.now in
    let inside : slot_at drives c.loop-k.k + (1 + 3 * drives) ≤ length c.args.s.now = omega (arith, c.requires.0, mul-le-mul_right (1 + 3 * drives) c.loop-k-test.true) in
    omega (arith, inside, c.requires.1)

pub state_fits-requires : goal.state_fits-requires
state_fits-requires c =
    let drives = length c.args.own.now in
    let inside : slot_at drives c.loop-k.k + (1 + 3 * drives) ≤ length c.args.s.now = omega (arith, c.requires.0, mul-le-mul_right (1 + 3 * drives) c.loop-k-test.true) in
    let p = c.requires in (omega (arith, inside), p.1, p.2)

pub returns-then-not-state_fits : goal.returns-then-not-state_fits
returns-then-not-state_fits c =
    let drives = length c.args.own.now in
    let a = c.args in
    sym (sym c.loop-k.invariant
    ∙ state-stop a.own.now a.s.now drives a.c c.loop-k.k c.loop-k-test.true (sym c.state_fits.ensures ∙ c.if-not-state_fits.true))

pub offset_bounds-s-a : goal.offset_bounds-s-a
offset_bounds-s-a c =
    let drives = length c.args.own.now in
    let inside : slot_at drives c.loop-k.k + (1 + 3 * drives) ≤ length c.args.s.now = omega (arith, c.requires.0, mul-le-mul_right (1 + 3 * drives) c.loop-k-test.true) in
    omega (arith, inside, c.requires.1)

pub bounds-s-a : goal.bounds-s-a
bounds-s-a c =
    let drives = length c.args.own.now in
    let inside : slot_at drives c.loop-k.k + (1 + 3 * drives) ≤ length c.args.s.now = omega (arith, c.requires.0, mul-le-mul_right (1 + 3 * drives) c.loop-k-test.true) in
    omega (arith, inside, c.requires.1)

pub place_from-later-requires : goal.place_from-later-requires
place_from-later-requires c =
    let p = c.requires in
    (p.0, p.1, omega (arith, c.loop-k-test.true))

pub returns-then-later-c : goal.returns-then-later-c
returns-then-later-c c =
    let drives = length c.args.own.now in
    let a = c.args in
    sym (sym c.loop-k.invariant
    ∙ again-stop a.own.now a.s.now drives a.c c.loop-k.k c.loop-k-test.true
    (later-yes a.s.now drives a.c c.loop-k.k (get_or a.s.now (slot_at drives c.loop-k.k) 0) _ c.place_from-later.ensures c.if-later-c.true))

pub loop-k-preserved : goal.loop-k-preserved
loop-k-preserved c =
    let drives = length c.args.own.now in
    let a = c.args in
    good-next a.own.now a.s.now drives a.c c.loop-k.k c.loop-k-test.true (sym c.state_fits.ensures ∙ c.if-not-state_fits.false)
    (later-no a.s.now drives a.c c.loop-k.k (get_or a.s.now (slot_at drives c.loop-k.k) 0) _ c.place_from-later.ensures c.if-later-c.false)
    ∙ c.loop-k.invariant

pub returns : goal.returns
returns c =
    let drives = length c.args.own.now in
    let a = c.args in
    sym (sym c.loop-k.invariant ∙ good-end a.own.now a.s.now drives a.c c.loop-k.k c.loop-k-test.false)
