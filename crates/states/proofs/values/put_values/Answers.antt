-- `states::values::put_values` meets its contract. The invariant: the drives so far have their values. Assumes nothing.
use mathlib.Core.Path.{◌≡◌, refl, ap}
use Prim.Native.Nat.{◌<◌}
use native.Mathlib.Omega.{arith}
use lib.ListN.{length, drop}
use borrow.Author.Rules.{rules}
use Rattle.definitions.specs.Map.{Map, map_of}
use Rattle.definitions.specs.States.{drives_in}
use Rattle.states.specs.Values.{values-none, partly-length, weighed-length, values-more, values-all, given-length, given-at}
use Rattle.states.proofs.values.put_values.Goals as goal

pub loop-i-init : goal.loop-i-init
loop-i-init c = (refl, values-none c.args.t.now (drives_in c.args.n (drop c.args.a c.args.s.now)) c.requires.framed.0)

pub put_weight-requires : goal.put_weight-requires
put_weight-requires c =
    let m = map_of c.args.t.now in
    let given = drives_in c.args.n (drop c.args.a c.args.s.now) in
    let as_many : length given ≡ length m.devices = given-length c.args.t.now c.args.s.now c.args.n c.args.a c.requires.s_value in
    let at : c.loop-i.i < length m.devices = omega (arith, c.loop-i-test.true, c.requires.framed.1) in
    let here : c.loop-i.i < length (map_of c.loop-i.t).devices = omega (arith, at, partly-length m given as_many c.loop-i.i (omega (arith, at)), ap (λ (n : Map). length n.devices) c.loop-i.invariant.1.holds) in
    (c.loop-i.invariant.1.framed, here)

pub put_acceptance-requires : goal.put_acceptance-requires
put_acceptance-requires c =
    let m = map_of c.args.t.now in
    let given = drives_in c.args.n (drop c.args.a c.args.s.now) in
    let as_many : length given ≡ length m.devices = given-length c.args.t.now c.args.s.now c.args.n c.args.a c.requires.s_value in
    let at : c.loop-i.i < length m.devices = omega (arith, c.loop-i-test.true, c.requires.framed.1) in
    let here : c.loop-i.i < length (map_of c.loop-i.t).devices = omega (arith, at, partly-length m given as_many c.loop-i.i (omega (arith, at)), ap (λ (n : Map). length n.devices) c.loop-i.invariant.1.holds) in
    let F = c.put_weight.ensures in
    (F.framed, omega (arith, here, weighed-length c.loop-i.t _ c.loop-i.i _ F))

pub loop-i-preserved : goal.loop-i-preserved
loop-i-preserved c =
    let m = map_of c.args.t.now in
    let given = drives_in c.args.n (drop c.args.a c.args.s.now) in
    let as_many : length given ≡ length m.devices = given-length c.args.t.now c.args.s.now c.args.n c.args.a c.requires.s_value in
    let at : c.loop-i.i < length m.devices = omega (arith, c.loop-i-test.true, c.requires.framed.1) in (
      search rules,
      values-more m given as_many c.loop-i.i at c.loop-i.t _ _ _ _ c.loop-i.invariant.1 c.put_weight.ensures c.put_acceptance.ensures
          (given-at c.args.t.now c.args.s.now c.args.n c.args.a c.requires.s_value c.loop-i.i c.loop-i-test.true),
    )

pub shape_of-t : goal.shape_of-t
shape_of-t c = c.loop-i.invariant.0

pub returns : goal.returns
returns c =
    let m = map_of c.args.t.now in
    let given = drives_in c.args.n (drop c.args.a c.args.s.now) in
    let as_many : length given ≡ length m.devices = given-length c.args.t.now c.args.s.now c.args.n c.args.a c.requires.s_value in
    values-all m given as_many c.loop-i.i c.loop-i.t (omega (arith, c.loop-i-test.false, c.requires.framed.1)) c.loop-i.invariant.1
