-- `compile::devices::device_with` meets its contract: the device as it is read, and with the edit's value where it is the edit's device.
-- Assumes nothing.
use Rattle.std.proofs.Common.{ap, ◌∙◌, Some}
use Rattle.definitions.specs.Map.{map_of}
use Rattle.compile.specs.Reading.{accepted, not-accepted, weighed, not-weighed, unedited}
use Rattle.compile.proofs.devices.device_with.Goals as goal

pub returns-then-d-n : goal.returns-then-d-n
returns-then-d-n c =
    accepted (map_of c.args.text.now) c.read-d.result c.args.k c.requires c.read-d.ensures c.args.c _ _ (c.in-Some.is ∙ ap Some c.in-Acceptance.is) c.if-d-n.true

pub returns-else-d-n : goal.returns-else-d-n
returns-else-d-n c =
    not-accepted (map_of c.args.text.now) c.read-d.result c.args.k c.requires c.read-d.ensures c.args.c _ _ (c.in-Some.is ∙ ap Some c.in-Acceptance.is) c.if-d-n.false

pub returns-then-d-n-2 : goal.returns-then-d-n-2
returns-then-d-n-2 c =
    weighed (map_of c.args.text.now) c.read-d.result c.args.k c.requires c.read-d.ensures c.args.c _ _ (c.in-Some.is ∙ ap Some c.in-Weight.is) c.if-d-n-2.true

pub returns-else-d-n-2 : goal.returns-else-d-n-2
returns-else-d-n-2 c =
    not-weighed (map_of c.args.text.now) c.read-d.result c.args.k c.requires c.read-d.ensures c.args.c _ _ (c.in-Some.is ∙ ap Some c.in-Weight.is) c.if-d-n-2.false

pub returns-in_default : goal.returns-in_default
returns-in_default c =
    unedited (map_of c.args.text.now) c.read-d.result c.args.k c.requires c.read-d.ensures c.args.c c.in_default.is
