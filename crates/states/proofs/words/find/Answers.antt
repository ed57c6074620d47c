-- `states::words::find` meets its contract. Assumes nothing.
use mathlib.Core.Path.{◌≡◌, sym, ap, ◌∙◌}
use mathlib.Core.List.{List}
use Prim.Native.Nat.{ℕ, ◌+◌, ◌*◌, ◌≤◌}
use native.Mathlib.Omega.{arith}
use native.Mathlib.Nat.{mul-le-mul_right, zero-add}
use lib.ListN.{length, get_or, drop}
use borrow.Author.Rules.{rules}
use Rattle.definitions.specs.States.{NamedState, states_in, states_of, names_of}
use Rattle.keeping.specs.States.{Stated, stated-is}
use Rattle.states.specs.Words.{place_of, few-states, states-are}
use Rattle.states.proofs.words.find.Goals as goal

pub overflow_cast-c : goal.overflow_cast-c
overflow_cast-c c =
    let asked : Stated c.requires.devices_len.0 c.args.states.now = stated-is c.requires.devices_len.0 c.args.states.now c.requires.devices_len.2 in
    let few : get_or c.args.states.now 0 0 ≤ 8 = few-states c.requires.devices_len.0 c.args.states.now asked in
    omega (arith, few)

pub place_from-requires : goal.place_from-requires
place_from-requires c =
    let asked : Stated c.requires.devices_len.0 c.args.states.now = stated-is c.requires.devices_len.0 c.args.states.now c.requires.devices_len.2 in
    let few : get_or c.args.states.now 0 0 ≤ 8 = few-states c.requires.devices_len.0 c.args.states.now asked in
    let w : length c.args.states.now ≡ 24586 = search rules in
    (omega (arith, w, mul-le-mul_right (1 + 3 * c.args.n) few, c.requires.n_bound), omega (arith, w), omega arith)

pub returns : goal.returns
returns c =
    let asked : Stated c.requires.devices_len.0 c.args.states.now = stated-is c.requires.devices_len.0 c.args.states.now c.requires.devices_len.2 in
    let these : states_in c.args.n (get_or c.args.states.now 0 0) (drop 2 c.args.states.now) ≡ states_of c.args.states.now = let ws = c.args.states.now in
    sym (states-are c.requires.devices_len.0 ws asked ∙ ap (λ (n : ℕ). states_in n (get_or ws 0 0) (drop 2 ws)) c.requires.devices_len.1) in
    let placed : (r : ℕ)
    → r ≡ 0 + place_of c.args.name (names_of (states_in c.args.n (get_or c.args.states.now 0 0) (drop 2 c.args.states.now)))
    → r ≡ place_of c.args.name (names_of (states_of c.args.states.now)) = λ r e. e ∙ zero-add _ ∙ ap (λ (ss : List NamedState). place_of c.args.name (names_of ss)) these in
    placed _ c.place_from.ensures
