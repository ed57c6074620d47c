-- `states::words::states_good` meets its contract. Assumes nothing.
use mathlib.Core.Path.{◌≡◌, sym, ap, ◌∙◌}
use mathlib.Core.List.{List}
use Prim.Native.Nat.{ℕ, ◌+◌, ◌*◌}
use native.Mathlib.Omega.{arith}
use native.Mathlib.Nat.{mul-le-mul_right}
use lib.Dec.{leb}
use lib.ListN.{length, get_or, take, drop, length-map}
use borrow.Author.Rules.{rules}
use Rattle.definitions.specs.declared.Device.{Device}
use Rattle.definitions.specs.Lists.{every}
use Rattle.definitions.specs.Map.{map_of}
use Rattle.definitions.specs.States.{numbers_of, states_in}
use Rattle.states.specs.Words.{good_states, numbers-ranged, stated-many, stated-none, stated-other, stated-good}
use Rattle.states.proofs.words.states_good.Goals as goal

pub returns-then-c-gt8 : goal.returns-then-c-gt8
returns-then-c-gt8 c = let a = c.args in sym (stated-many (map_of a.text.now) a.states.now c.if-c-gt8.true)

pub returns-then-c-eq0 : goal.returns-then-c-eq0
returns-then-c-eq0 c = let a = c.args in sym (stated-none (map_of a.text.now) a.states.now c.if-c-eq0.true)

pub returns-then-states-n : goal.returns-then-states-n
returns-then-states-n c = sym (stated-other (map_of c.args.text.now) c.args.states.now (omega (arith, c.if-c-eq0.false)) (λ e. c.if-states-n.true (e ∙ sym c.count-n.ensures)))

pub slice_bounds-good_states-end : goal.slice_bounds-good_states-end
slice_bounds-good_states-end c =
    let numbers = numbers_of (map_of c.args.text.now).devices in
    let count : c.count-n.result ≡ length numbers = c.count-n.ensures ∙ sym (length-map (map_of c.args.text.now).devices (λ (d : Device). d.number)) in
    let taken : take c.count-n.result c.numbers_of-own.result ≡ numbers = rw c.count-n.ensures c.numbers_of-own.ensures in
    count ∙ ap length (sym taken)

pub good_states-requires : goal.good_states-requires
good_states-requires c =
    let numbers = numbers_of (map_of c.args.text.now).devices in
    let count : c.count-n.result ≡ length numbers = c.count-n.ensures ∙ sym (length-map (map_of c.args.text.now).devices (λ (d : Device). d.number)) in
    let taken : take c.count-n.result c.numbers_of-own.result ≡ numbers = rw c.count-n.ensures c.numbers_of-own.ensures in
    let w : length c.args.states.now ≡ 24586 = search rules in
    let e : length (take c.count-n.result c.numbers_of-own.result) ≡ c.count-n.result = ap length taken ∙ sym count in
    let r = numbers-ranged (map_of c.args.text.now).devices c.requires.ranged in (
      omega (arith, w, e, mul-le-mul_right (1 + 3 * length (take c.count-n.result c.numbers_of-own.result)) c.if-c-gt8.false, c.requires.few),
      omega (arith, w),
      ap (every (λ (x : ℕ). leb x 1023)) taken ∙ r,
    )

pub returns : goal.returns
returns c =
    let numbers = numbers_of (map_of c.args.text.now).devices in
    let count : c.count-n.result ≡ length numbers = c.count-n.ensures ∙ sym (length-map (map_of c.args.text.now).devices (λ (d : Device). d.number)) in
    let taken : take c.count-n.result c.numbers_of-own.result ≡ numbers = rw c.count-n.ensures c.numbers_of-own.ensures in
    let ws = c.args.states.now in
    c.good_states.ensures
    ∙ ap (λ (ns : List ℕ). good_states ns (states_in (length ns) (get_or ws 0 0) (drop 2 ws))) taken
    ∙ stated-good (map_of c.args.text.now) ws (length numbers) (omega (arith, c.if-c-eq0.false)) c.if-c-gt8.false (c.if-states-n.false ∙ count)
    (sym count ∙ c.count-n.ensures)
