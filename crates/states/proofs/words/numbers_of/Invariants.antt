use Rattle.std.proofs.Common.{◌≡◌, length, take}
use Rattle.definitions.specs.Map.{map_of}
use Rattle.definitions.specs.States.{numbers_of}
use Rattle.states.proofs.words.numbers_of.Given as goal

abbrev pub invariant-loop-i : goal.invariant-loop-i
invariant-loop-i l = (length l.own ≡ 1024) × (take l.i l.own ≡ take l.i (numbers_of (map_of l.text).devices))
