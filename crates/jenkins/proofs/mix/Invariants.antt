use Rattle.std.proofs.Common.{◌≡◌, drop}
use Rattle.definitions.specs.Hash.{rows, mix_steps}
use Rattle.jenkins.proofs.mix.Given as goal

abbrev pub invariant-loop-i : goal.invariant-loop-i
invariant-loop-i l = mix_steps (drop l.i rows) l.n ≡ mix_steps rows l.initial.n
