-- `editing::fitting` meets its contract: the value in range, and the device found. Assumes nothing.
use Rattle.std.proofs.Common.{ap, ◌∙◌, Some}
use Rattle.definitions.specs.Map.{map_of}
use Rattle.editing.specs.Fitting.{accepts-found, weighs-found, accepts-none, weighs-none, no-change-none}
use Rattle.editing.proofs.fitting.Goals as goal

pub returns-then-v-gt65536 : goal.returns-then-v-gt65536
returns-then-v-gt65536 c = accepts-none (map_of c.args.text.now) c.args.c _ _ (c.in-Some.is ∙ ap Some c.in-Acceptance.is) c.if-v-gt65536.true

pub returns-then-v-gt65535 : goal.returns-then-v-gt65535
returns-then-v-gt65535 c = weighs-none (map_of c.args.text.now) c.args.c _ _ (c.in-Some.is ∙ ap Some c.in-Weight.is) c.if-v-gt65535.true

pub returns-else-v-gt65536 : goal.returns-else-v-gt65536
returns-else-v-gt65536 c =
    accepts-found (map_of c.args.text.now) c.args.c _ _ c.find_device.result (c.in-Some.is ∙ ap Some c.in-Acceptance.is) c.if-v-gt65536.false c.find_device.ensures

pub returns-else-v-gt65535 : goal.returns-else-v-gt65535
returns-else-v-gt65535 c =
    weighs-found (map_of c.args.text.now) c.args.c _ _ c.find_device-in-Weight.result (c.in-Some.is ∙ ap Some c.in-Weight.is) c.if-v-gt65535.false c.find_device-in-Weight.ensures

pub returns-in_default : goal.returns-in_default
returns-in_default c = no-change-none (map_of c.args.text.now) c.args.c c.in_default.is
