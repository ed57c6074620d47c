-- Document 02, change 8: the plan of a map with the drives of a state is that of the map. Assumes nothing.
use Rattle.std.specs.Prelude.{◌≡◌, true, List, ℕ}
use Rattle.definitions.specs.declared.Device.{Device}
use Rattle.definitions.specs.Lists.{every}
use Rattle.definitions.specs.Map.{Map}
use Rattle.definitions.specs.Load.{device_ranged}
use Rattle.definitions.specs.States.{put_state}
use Rattle.laws.specs.Loadable.{Loadable, ranged-is}
use Rattle.keeping.specs.Returned.{state-children, state-bucket-type, state-kind-number, state-devices}
use Rattle.compile.specs.Compiled.{Planned, same-planned}

module _ (m : Map) (ds : List Device) where
  pub state-planned : {plan : List ℕ} → Planned m plan → Planned (put_state m ds) plan
  state-planned = same-planned m (put_state m ds) (state-children m ds) (state-bucket-type m ds) (state-kind-number m ds)

  -- where load takes the map, it takes these drives
  pub state-ranged : Loadable (put_state m ds) → every device_ranged ds ≡ true
  state-ranged l = rw (← state-devices m ds) (ranged-is (put_state m ds) l.ranged).devices
