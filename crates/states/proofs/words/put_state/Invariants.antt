use Rattle.std.proofs.Common.{◌≡◌, ◌+◌, ◌*◌}
use Rattle.std.proofs.Math.Seq.{paste}
use Rattle.definitions.specs.Map.{map_of}
use Rattle.definitions.specs.States.{drive_words}
use Rattle.states.proofs.words.put_state.Given as goal

abbrev pub invariant-loop-i : goal.invariant-loop-i
invariant-loop-i l = l.s ≡ paste l.initial.s (l.a + 1) (drive_words (map_of l.text).devices) (3 * l.i)
