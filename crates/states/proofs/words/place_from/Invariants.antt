use Rattle.std.proofs.Common.{◌≡◌, ◌+◌, drop}
use Rattle.definitions.specs.States.{states_in, names_of}
use Rattle.states.specs.Words.{place_of}
use Rattle.states.proofs.words.place_from.Given as goal

abbrev pub invariant-loop-j : goal.invariant-loop-j
invariant-loop-j l =
    let ss = states_in l.n l.c (drop 2 l.s) in
    l.j + place_of l.x (names_of (drop l.j ss)) ≡ l.k + place_of l.x (names_of (drop l.k ss))
