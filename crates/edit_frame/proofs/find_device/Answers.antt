-- `edit_frame::find_device` meets its contract. The loop's invariant: a device with the number is among those from `k` on just
-- where there is one at all. Assumes nothing.
use Rattle.std.proofs.Common.{◌∙◌, refl, sym, ap, arith, eqb, ne_eqb}
use Rattle.definitions.specs.declared.Device.{Device}
use Rattle.definitions.specs.Map.{map_of}
use Rattle.definitions.specs.Load.{has_device}
use Rattle.text.specs.Records.{no_device}
use Rattle.edit_frame.specs.Found.{FoundIs, some_next, some_end}
use Rattle.edit_frame.proofs.find_device.Goals as goal

pub loop-k-init : goal.loop-k-init
unfolding has_device
loop-k-init c = refl

pub returns-then-read-d : goal.returns-then-read-d
unfolding FoundIs
returns-then-read-d c = (omega (arith, c.count-k-end.ensures), ap (λ (e : Device). e.number) (sym c.read.ensures) ∙ c.if-read-d.true)

pub loop-k-preserved : goal.loop-k-preserved
loop-k-preserved c =
    let test = λ (e : Device). eqb e.number c.args.d in
    some_next test (map_of c.args.text.now).devices c.loop-k.k no_device (omega (arith, c.count-k-end.ensures))
    (ap test (sym c.read.ensures) ∙ ne_eqb _ _ c.if-read-d.false)
    ∙ c.loop-k.invariant

pub returns : goal.returns
unfolding FoundIs
returns c =
    let test = λ (e : Device). eqb e.number c.args.d in
    sym c.loop-k.invariant ∙ some_end test (map_of c.args.text.now).devices c.loop-k.k (omega (arith, c.count-k-end.ensures, c.loop-k-test.false))
