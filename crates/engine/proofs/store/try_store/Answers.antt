-- `engine::store::try_store` meets its contract: 14 of the map and of the states, 25, then the state. Assumes nothing.
use Rattle.std.proofs.Common.{true, false, sym, ap, ◌∙◌, ltb, arith}
use Rattle.laws.specs.Loadable.{ranged-is, bounds}
use Rattle.text.specs.Loading.{loaded}
use Rattle.text.specs.Agreement.{loaded-map}
use Rattle.keeping.specs.States.{stated-is}
use Rattle.states.specs.Words.{room-place}
use Rattle.engine.specs.Stores.{whole-map-no, whole-states, store-14, store-25, store-0}
use Rattle.engine.specs.Rows.{stopped}
use Rattle.engine.proofs.store.try_store.Goals as goal

pub states_good-requires-clause-few : goal.states_good-requires-clause-few
states_good-requires-clause-few c =
    let T = c.in_ok-text.ensures in
    rw T.1 (bounds _ (loaded-map _ T.0)).devices

pub states_good-requires-clause-ranged : goal.states_good-requires-clause-ranged
states_good-requires-clause-ranged c =
    let T = c.in_ok-text.ensures in
    rw T.1 (ranged-is _ (loaded _ T.0).ranged).devices

pub store-requires-clause-few : goal.store-requires-clause-few
store-requires-clause-few c =
    let T = c.in_ok-text.ensures in
    rw T.1 (bounds _ (loaded-map _ T.0)).devices

pub find-k-requires-clause-n_bound : goal.find-k-requires-clause-n_bound
find-k-requires-clause-n_bound c =
    let T = c.in_ok-text.ensures in
    let n = rw T.1 at c.count.ensures in
    omega (arith, n, (bounds _ (loaded-map _ T.0)).devices)

pub returns-in_err-text : goal.returns-in_err-text
returns-in_err-text c =
    let h = c.in_err-text.ensures in
    stopped _ _ _ _ c.from_residual.result c.from_residual.ensures.1 h.0 (store-14 _ _ _ (whole-map-no _ _ h.1))

pub returns-in_err-ask : goal.returns-in_err-ask
returns-in_err-ask c =
    let T = c.in_ok-text.ensures in
    let h = c.in_err-ask.ensures in
    stopped _ _ _ _ c.from_residual-in_err-ask.result c.from_residual-in_err-ask.ensures.1 h.1 (store-14 _ _ _ (whole-states _ _ T.0 false (rw T.1 at (sym c.states_good.ensures ∙ h.0))))

pub returns-in_err-ask-2 : goal.returns-in_err-ask-2
returns-in_err-ask-2 c =
    let T = c.in_ok-text.ensures in
    let good = rw T.1 at (sym c.states_good.ensures ∙ c.in_ok-ask.ensures) in
    let room = room-place _ _ (stated-is _ _ good).few ∙ ap (λ k. ltb k 8) (sym c.find-k.ensures) in
    let h = c.in_err-ask-2.ensures in
    stopped _ _ _ _ c.from_residual-in_err-ask-2.result c.from_residual-in_err-ask-2.ensures.1 h.1 (store-25 _ _ _ (whole-states _ _ T.0 true good) (room ∙ h.0))

pub returns : goal.returns
returns c =
    let T = c.in_ok-text.ensures in
    let good = rw T.1 at (sym c.states_good.ensures ∙ c.in_ok-ask.ensures) in
    let room = room-place _ _ (stated-is _ _ good).few ∙ ap (λ k. ltb k 8) (sym c.find-k.ensures) in
    store-0 _ _ _ (whole-states _ _ T.0 true good) (room ∙ c.in_ok-ask-2.ensures) _ (rw T.1 at c.store.ensures)
