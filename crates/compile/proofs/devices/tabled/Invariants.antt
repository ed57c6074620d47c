use Rattle.std.proofs.Common.{◌≡◌, true, List}
use Rattle.definitions.specs.declared.Device.{Device}
use Rattle.definitions.specs.Lists.{every}
use Rattle.definitions.specs.Load.{device_ranged}
use Rattle.compile.specs.Reading.{Gives, WeightsFrom, AcceptancesFrom}
use Rattle.compile.proofs.devices.tabled.Given as goal

abbrev pub invariant-loop-k : goal.invariant-loop-k
invariant-loop-k g l =
    (ds : List Device) → Gives (λ k d. g.F.Fn.post l.device (k, tt) d) l.n ds → every device_ranged ds ≡ true
    → WeightsFrom ds l.weights l.k × AcceptancesFrom ds l.acceptances l.k
