use Rattle.definitions.specs.Edit.{moves_bytes}
use Rattle.moves.specs.Changes.{changes_to, Written}
use Rattle.moves.proofs.row.write_moves.Given as goal

abbrev pub invariant-loop-i : goal.invariant-loop-i
invariant-loop-i l = Written l.initial.space l.space l.at l.r (moves_bytes (changes_to l.g l.old l.new l.causes l.i))
