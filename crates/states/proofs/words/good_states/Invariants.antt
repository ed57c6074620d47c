use Rattle.std.proofs.Common.{◌≡◌, length, drop}
use Rattle.definitions.specs.States.{states_in}
use Rattle.states.specs.Words.{good_states}
use Rattle.states.proofs.words.good_states.Given as goal

abbrev pub invariant-loop-k : goal.invariant-loop-k
invariant-loop-k l =
    let ss = states_in (length l.own) l.c (drop 2 l.s) in
    good_states l.own (drop l.k ss) ≡ good_states l.own ss
