-- `members::levels::put_devices` meets its contract: after k turns the tables are those of the first k devices, and each device's number is a slot.
-- Assumes nothing.
use Rattle.std.proofs.Common.{◌≡◌, sym, ap, ◌∙◌, inl, ◌<◌, length, arith}
use Rattle.definitions.specs.Map.{map_of}
use Rattle.members.specs.Tables.{blank}
use Rattle.members.specs.Levels.{slot_of, slot-device, device-in, device_level, device_own, devices_to, devices-none, devices-more}
use Rattle.members.proofs.levels.put_devices.Goals as goal

pub loop-k-init : goal.loop-k-init
unfolding blank
loop-k-init c = (devices-none (map_of c.args.t.now) device_level, devices-none (map_of c.args.t.now) device_own)

pub device-requires : goal.device-requires
device-requires c =
    let at : c.loop-k.k < length (map_of c.args.t.now).devices = omega (arith, c.count-k-end.ensures) in
    omega (arith, (device-in (map_of c.args.t.now) c.requires c.loop-k.k c.read-d.result at c.read-d.ensures).number)

pub slot-i-requires : goal.slot-i-requires
slot-i-requires c =
    let at : c.loop-k.k < length (map_of c.args.t.now).devices = omega (arith, c.count-k-end.ensures) in
    inl (omega (arith, c.device.ensures, (device-in (map_of c.args.t.now) c.requires c.loop-k.k c.read-d.result at c.read-d.ensures).number))

pub loop-k-preserved : goal.loop-k-preserved
loop-k-preserved c =
    let m = map_of c.args.t.now in
    let at : c.loop-k.k < length m.devices = omega (arith, c.count-k-end.ensures) in
    let here = device-in m c.requires c.loop-k.k c.read-d.result at c.read-d.ensures in
    let slot : c.slot-i.result ≡ c.read-d.result.number = c.slot-i.ensures.0 ∙ ap slot_of c.device.ensures ∙ sym (slot-device c.read-d.result.number (omega (arith, here.number))) in
    rw slot
    (devices-more m device_level c.loop-k.k c.loop-k.levels c.read-d.result c.loop-k.invariant.0 c.read-d.ensures, devices-more m device_own c.loop-k.k c.loop-k.weights c.read-d.result c.loop-k.invariant.1 c.read-d.ensures)

pub returns : goal.returns
returns c =
    let m = map_of c.args.t.now in
    let e : c.loop-k.k ≡ length m.devices = omega (arith, c.count-k-end.ensures) in
    record { levels_value = c.loop-k.invariant.0 ∙ ap (devices_to device_level m) e; weights_value = c.loop-k.invariant.1 ∙ ap (devices_to device_own m) e }
