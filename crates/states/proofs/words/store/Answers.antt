-- `states::words::store` meets its contract. Assumes nothing.
use mathlib.Core.Path.{◌≡◌}
use Prim.Native.Nat.{◌+◌, ◌*◌, ◌≤◌}
use native.Mathlib.Omega.{arith}
use native.Mathlib.Nat.{mul-le-mul_right}
use lib.ListN.{length, get_or}
use borrow.Author.Rules.{rules}
use Rattle.definitions.specs.Map.{map_of}
use Rattle.keeping.specs.States.{Stated, stated-is}
use Rattle.states.specs.Words.{slot_at, few-states}
use Rattle.states.specs.Stored.{stored-new, stored_same}
use Rattle.states.proofs.words.store.Goals as goal

pub overflow_mul-k : goal.overflow_mul-k
overflow_mul-k c =
    let inside : slot_at c.count-n.result c.args.k + (1 + 3 * c.count-n.result) ≤ 24586 = omega (arith, mul-le-mul_right (1 + 3 * c.count-n.result) c.requires.states_value.2, c.requires.few) in
    omega (arith, inside)

pub overflow_add-k : goal.overflow_add-k
overflow_add-k c =
    let inside : slot_at c.count-n.result c.args.k + (1 + 3 * c.count-n.result) ≤ 24586 = omega (arith, mul-le-mul_right (1 + 3 * c.count-n.result) c.requires.states_value.2, c.requires.few) in
    omega (arith, inside)

pub put_state-requires : goal.put_state-requires
put_state-requires c =
    let inside : slot_at c.count-n.result c.args.k + (1 + 3 * c.count-n.result) ≤ 24586 = omega (arith, mul-le-mul_right (1 + 3 * c.count-n.result) c.requires.states_value.2, c.requires.few) in
    let long : length c.args.states.now ≡ 24586 = search rules in
    (omega (arith, inside, long, c.count-n.ensures), omega (arith, long))

pub overflow_cast-c : goal.overflow_cast-c
overflow_cast-c c =
    let the_map = map_of c.args.text.now in
    let asked : Stated the_map c.args.states.now = stated-is the_map c.args.states.now c.requires.states_value.0 in
    let count : get_or c.args.states.now 0 0 ≤ 8 = few-states the_map c.args.states.now asked in
    omega (arith, count)

pub overflow_add-states : goal.overflow_add-states
overflow_add-states c =
    let the_map = map_of c.args.text.now in
    let asked : Stated the_map c.args.states.now = stated-is the_map c.args.states.now c.requires.states_value.0 in
    let count : get_or c.args.states.now 0 0 ≤ 8 = few-states the_map c.args.states.now asked in
    omega (arith, count)

pub returns-then-k-c : goal.returns-then-k-c
returns-then-k-c c =
    let the_map = map_of c.args.text.now in
    let ws = c.args.states.now in
    let asked : Stated the_map ws = stated-is the_map ws c.requires.states_value.0 in
    let long : length ws ≡ 24586 = search rules in
    rw (c.put_state.ensures, c.count-n.ensures)
    (stored-new the_map c.args.name c.args.k ws long c.requires.few asked c.requires.states_value.1 c.requires.states_value.2 c.if-k-c.true)

pub returns-else-k-c : goal.returns-else-k-c
returns-else-k-c c =
    let the_map = map_of c.args.text.now in
    let ws = c.args.states.now in
    let asked : Stated the_map ws = stated-is the_map ws c.requires.states_value.0 in
    let long : length ws ≡ 24586 = search rules in
    rw (c.put_state.ensures, c.count-n.ensures)
    (stored_same the_map c.args.name c.args.k ws long c.requires.few asked c.requires.states_value.1 c.requires.states_value.2 c.if-k-c.false)
