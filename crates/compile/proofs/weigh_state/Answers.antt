-- `compile::weigh_state` meets its contract: the devices are the state's drives, and the plan is that of the map with them. Assumes nothing.
use mathlib.Core.List.{List}
use Prim.Native.Nat.{ℕ}
use lib.ListN.{drop}
use Rattle.definitions.specs.declared.Device.{Device}
use Rattle.definitions.specs.Map.{Map}
use Rattle.definitions.specs.View.{device_weight}
use Rattle.definitions.specs.States.{drives_in, put_state}
use Rattle.laws.specs.Loadable.{Loadable}
use Rattle.keeping.specs.Returned.{state-devices}
use Rattle.hierarchy.specs.Tables.{Tabled}
use Rattle.compile.specs.Compiled.{Planned, Weighs}
use Rattle.compile.specs.Returned.{state-planned, state-ranged}
use Rattle.compile.proofs.weigh_state.Goals as goal

-- of a map with the drives of the state: its plan, and the weights of its devices
weighs : (m : Map) (ds : List Device) {plan own : List ℕ} → Planned m plan → Loadable (put_state m ds)
    → Tabled own 1024 (device_weight (put_state m ds)) → Weighs (put_state m ds) plan own
weighs m ds k l w = record { loadable = l; planned = state-planned m ds k; owned = w }

pub devices_in-devices-requires : goal.devices_in-devices-requires
devices_in-devices-requires c =
    let (m, k, l) = c.requires.planned in
    record { n_in_bounds = c.requires.n_in_bounds; states_value = state-ranged m (drives_in c.args.n (drop c.args.a c.args.states.now)) l }

pub weigh_by-requires : goal.weigh_by-requires
weigh_by-requires c =
    let (m, k, l) = c.requires.planned in
    let ds = drives_in c.args.n (drop c.args.a c.args.states.now) in
    let d = c.devices_in-devices.ensures _ (state-devices m ds) in
    (_, weighs m ds k l d.0, d.1)

pub returns : goal.returns
returns c m k l =
    let ds = drives_in c.args.n (drop c.args.a c.args.states.now) in
    let d = c.devices_in-devices.ensures _ (state-devices m ds) in
    c.weigh_by.ensures _ (weighs m ds k l d.0) d.1
