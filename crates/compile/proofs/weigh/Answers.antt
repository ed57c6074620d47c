-- `compile::weigh` meets its contract: the devices are the edited map's, of which the plan is the same. Assumes nothing.
use Rattle.std.specs.Prelude.{Option}
use mathlib.Core.List.{List}
use Prim.Native.Nat.{ℕ}
use Rattle.definitions.specs.declared.Change.{Change}
use Rattle.definitions.specs.Map.{Map, map_of}
use Rattle.definitions.specs.View.{device_weight}
use Rattle.definitions.specs.Edit.{put}
use Rattle.laws.specs.Loadable.{Loadable}
use Rattle.hierarchy.specs.Tables.{Tabled}
use Rattle.compile.specs.Compiled.{Planned, Weighs, put-planned}
use Rattle.compile.proofs.weigh.Goals as goal

-- the edited map's plan and the weights of its devices
weighs : (m : Map) (c : Option Change) {plan own : List ℕ} → Loadable (put m c) → Planned m plan → Tabled own 1024 (device_weight (put m c))
    → Weighs (put m c) plan own
weighs m c l k w = record { loadable = l; planned = put-planned m c k; owned = w }

pub weigh_by-requires : goal.weigh_by-requires
weigh_by-requires c =
    let d = c.devices_of-devices.ensures in
    (_, weighs (map_of c.args.text.now) c.args.c c.requires.loadable c.requires.planned d.tabled, d.tabled_2)

pub returns : goal.returns
returns c =
    let d = c.devices_of-devices.ensures in
    let r = c.weigh_by.ensures _ (weighs (map_of c.args.text.now) c.args.c c.requires.loadable c.requires.planned d.tabled) d.tabled_2 in
    record { values_value = r.0; tabled = r.1; flagged = r.2 }
