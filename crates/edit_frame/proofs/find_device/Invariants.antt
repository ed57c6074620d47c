use Rattle.std.proofs.Common.{◌≡◌, drop, eqb}
use Rattle.definitions.specs.declared.Device.{Device}
use Rattle.definitions.specs.Lists.{some_of}
use Rattle.definitions.specs.Map.{map_of}
use Rattle.definitions.specs.Load.{has_device}
use Rattle.edit_frame.proofs.find_device.Given as goal

abbrev pub invariant-loop-k : goal.invariant-loop-k
invariant-loop-k l =
    let m = map_of l.text in
    some_of (λ (e : Device). eqb e.number l.d) (drop l.k m.devices) ≡ has_device m l.d
