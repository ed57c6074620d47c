use mathlib.Core.Path.{◌≡◌}
use Rattle.definitions.specs.Map.{map_of}
use Rattle.members.specs.Levels.{device_level, device_own, devices_to}
use Rattle.members.proofs.levels.put_devices.Given as goal

abbrev pub invariant-loop-k : goal.invariant-loop-k
invariant-loop-k l =
    (l.levels ≡ devices_to device_level (map_of l.t) l.k) × (l.weights ≡ devices_to device_own (map_of l.t) l.k)
