use Rattle.std.proofs.Common.{◌≡◌, length, drop}
use Rattle.definitions.specs.States.{drives_in}
use Rattle.states.specs.Words.{drives_fit}
use Rattle.states.proofs.words.drives_fit.Given as goal

abbrev pub invariant-loop-i : goal.invariant-loop-i
invariant-loop-i l =
    let es = drives_in (length l.own) (drop l.a l.s) in
    drives_fit (drop l.i l.own) (drop l.i es) ≡ drives_fit l.own es
