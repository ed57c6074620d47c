-- `engine::back::questions` meets its contract: 14 of the map and of the states, 16, 17 and 24. Assumes nothing.
use Rattle.std.proofs.Common.{◌≡◌, ◌≤◌, true, false, length, refl, sym, ◌∙◌, arith, rules, ltb-true, ltb-false}
use Rattle.definitions.specs.Map.{map_of}
use Rattle.laws.specs.Loadable.{ranged-is, bounds}
use Rattle.text.specs.Loading.{loaded}
use Rattle.text.specs.Agreement.{loaded-map}
use Rattle.engine.specs.Stores.{whole-map-no, whole-states}
use Rattle.engine.specs.Returns.{state-missing, state-there, state-drives, state-inside, state-spelt, return-14, return-16, return-17, return-24}
use Rattle.engine.specs.Rows.{stopped, room-of}
use Rattle.engine.proofs.back.questions.Goals as goal

pub states_good-requires-clause-few : goal.states_good-requires-clause-few
states_good-requires-clause-few c =
    let T = c.in_ok-text.ensures in
    rw T.1 (bounds _ (loaded-map _ T.0)).devices

pub states_good-requires-clause-ranged : goal.states_good-requires-clause-ranged
states_good-requires-clause-ranged c =
    let T = c.in_ok-text.ensures in
    rw T.1 (ranged-is _ (loaded _ T.0).ranged).devices

pub find-k-requires-clause-n_bound : goal.find-k-requires-clause-n_bound
find-k-requires-clause-n_bound c =
    let T = c.in_ok-text.ensures in
    let n = rw T.1 at c.count-n.ensures in
    omega (arith, n, (bounds _ (loaded-map _ T.0)).devices)

pub returns-in_err-text : goal.returns-in_err-text
returns-in_err-text c =
    let h = c.in_err-text.ensures in
    stopped _ _ _ _ c.from_residual.result c.from_residual.ensures.1 h.0 (λ s. return-14 _ _ _ _ _ (whole-map-no _ _ h.1))

pub returns-in_err-ask : goal.returns-in_err-ask
returns-in_err-ask c =
    let T = c.in_ok-text.ensures in
    let h = c.in_err-ask.ensures in
    stopped _ _ _ _ c.from_residual-in_err-ask.result c.from_residual-in_err-ask.ensures.1 h.1 (λ s. return-14 _ _ _ _ _ (whole-states _ _ T.0 false (rw T.1 at (sym c.states_good.ensures ∙ h.0))))

pub returns-in_err-rows : goal.returns-in_err-rows
returns-in_err-rows c =
    let T = c.in_ok-text.ensures in
    let good = rw T.1 at (sym c.states_good.ensures ∙ c.in_ok-ask.ensures) in
    let h = rw T.1 at c.in_err-rows.ensures in
    stopped _ _ _ _ c.from_residual-in_err-rows.result c.from_residual-in_err-rows.ensures.1 h.0 (λ s. return-16 _ _ _ _ _ (whole-states _ _ T.0 true good) h.1)

pub returns-in_err-ask-2 : goal.returns-in_err-ask-2
returns-in_err-ask-2 c =
    let T = c.in_ok-text.ensures in
    let good = rw T.1 at (sym c.states_good.ensures ∙ c.in_ok-ask.ensures) in
    let R = rw T.1 at c.in_ok-rows.ensures in
    let h = c.in_err-ask-2.ensures in
    stopped _ _ _ _ c.from_residual-in_err-ask-2.result c.from_residual-in_err-ask-2.ensures.1 h.1 (λ s. return-17 _ _ _ _ _ (whole-states _ _ T.0 true good) (room-of _ _ _ R.0 R.1) (rw T.1 at (sym c.independent.ensures ∙ h.0)))

pub returns-in_err-ask-3 : goal.returns-in_err-ask-3
returns-in_err-ask-3 c =
    let T = c.in_ok-text.ensures in
    let good = rw T.1 at (sym c.states_good.ensures ∙ c.in_ok-ask.ensures) in
    let R = rw T.1 at c.in_ok-rows.ensures in
    let n = rw T.1 at c.count-n.ensures in
    let h = c.in_err-ask-3.ensures in
    stopped _ _ _ _ c.from_residual-in_err-ask-3.result c.from_residual-in_err-ask-3.ensures.1 h.1 (λ s. return-24 _ _ _ _ _ (whole-states _ _ T.0 true good) (room-of _ _ _ R.0 R.1) (rw T.1 at (sym c.independent.ensures ∙ c.in_ok-ask-2.ensures)) (state-missing _ _ _ _ _ good n c.find-k.ensures (ltb-false _ _ h.0)))

pub overflow_mul-result : goal.overflow_mul-result
overflow_mul-result c =
    let T = c.in_ok-text.ensures in
    let n = rw T.1 at c.count-n.ensures in
    omega (arith, n, (bounds _ (loaded-map _ T.0)).devices)

pub overflow_add-result : goal.overflow_add-result
overflow_add-result c =
    let T = c.in_ok-text.ensures in
    let n = rw T.1 at c.count-n.ensures in
    omega (arith, n, (bounds _ (loaded-map _ T.0)).devices)

pub overflow_mul-result-2 : goal.overflow_mul-result-2
overflow_mul-result-2 c =
    let T = c.in_ok-text.ensures in
    let good = rw T.1 at (sym c.states_good.ensures ∙ c.in_ok-ask.ensures) in
    let n = rw T.1 at c.count-n.ensures in
    let few : c.count-n.result ≤ 1024 = omega (arith, n, (bounds _ (loaded-map _ T.0)).devices) in
    omega (arith, state-inside (map_of c.args.map.now) c.args.states.now c.args.name _ _ good n c.find-k.ensures (ltb-true _ _ c.in_ok-ask-3.ensures) _ refl few)

pub overflow_add-result-2 : goal.overflow_add-result-2
overflow_add-result-2 c =
    let T = c.in_ok-text.ensures in
    let good = rw T.1 at (sym c.states_good.ensures ∙ c.in_ok-ask.ensures) in
    let n = rw T.1 at c.count-n.ensures in
    let few : c.count-n.result ≤ 1024 = omega (arith, n, (bounds _ (loaded-map _ T.0)).devices) in
    omega (arith, state-inside (map_of c.args.map.now) c.args.states.now c.args.name _ _ good n c.find-k.ensures (ltb-true _ _ c.in_ok-ask-3.ensures) _ refl few)

pub returns : goal.returns
returns c =
    let T = c.in_ok-text.ensures in
    let good = rw T.1 at (sym c.states_good.ensures ∙ c.in_ok-ask.ensures) in
    let R = rw T.1 at c.in_ok-rows.ensures in
    let n = rw T.1 at c.count-n.ensures in
    let few : c.count-n.result ≤ 1024 = omega (arith, n, (bounds _ (loaded-map _ T.0)).devices) in
    let size : length c.args.states.now ≡ 24586 = search rules in
    record {
      loads = T.0;
      shape = rw (c.text.view_is, T.1) at c.text.invariant.1;
      only = rw T.1 at (sym c.independent.ensures ∙ c.in_ok-ask-2.ensures);
      whole = whole-states _ _ T.0 true good;
      there = state-there (map_of c.args.map.now) c.args.states.now c.args.name _ _ good n c.find-k.ensures (ltb-true _ _ c.in_ok-ask-3.ensures) _ refl;
      drives = state-drives (map_of c.args.map.now) c.args.states.now c.args.name _ _ good n c.find-k.ensures (ltb-true _ _ c.in_ok-ask-3.ensures) _ refl;
      spelt = state-spelt (map_of c.args.map.now) c.args.states.now c.args.name _ _ good n c.find-k.ensures (ltb-true _ _ c.in_ok-ask-3.ensures) _ refl few size;
      rows = R.0;
      room = R.1;
    }
