-- `frames::records::device` meets its contract: the three fields stand where they are read, and the line is within the text. Assumes nothing.
use mathlib.Core.Path.{◌≡◌, ◌∙◌}
use Prim.Native.Nat.{ℕ}
use native.Mathlib.Omega.{arith}
use Rattle.definitions.specs.declared.Device.{Device}
use Rattle.text.specs.Rows.{device_start, weight_at, acceptance_at}
use Rattle.text.specs.Records.{device-at}
use Rattle.frames.specs.Words.{digits_in}
use Rattle.frames.proofs.records.device.Goals as goal

-- three fields are a device
same : (d : Device) (a b c : ℕ) → a ≡ d.number → b ≡ d.weight → c ≡ d.acceptance
    → ◌≡◌ {A = Device} (record { number = a; weight = b; acceptance = c }) d
same d a b c p q r = rw (p, q, r)

pub overflow_mul-at : goal.overflow_mul-at
overflow_mul-at c = omega (arith, (device-at c.args.t.now c.requires.0 c.args.k c.requires.1).room, c.well_formed.0)

pub overflow_add-at : goal.overflow_add-at
overflow_add-at c = omega (arith, (device-at c.args.t.now c.requires.0 c.args.k c.requires.1).room, c.well_formed.0)

pub overflow_add-at-2 : goal.overflow_add-at-2
overflow_add-at-2 c = omega (arith, (device-at c.args.t.now c.requires.0 c.args.k c.requires.1).room, c.well_formed.0)

pub read_four-requires : goal.read_four-requires
read_four-requires c =
    (omega (arith, (device-at c.args.t.now c.requires.0 c.args.k c.requires.1).room), digits_in c.args.t.now (device_start c.args.k) 2 4 _ (device-at c.args.t.now c.requires.0 c.args.k c.requires.1).digits (omega arith))

pub overflow_add-at-3 : goal.overflow_add-at-3
overflow_add-at-3 c = omega (arith, (device-at c.args.t.now c.requires.0 c.args.k c.requires.1).room, c.well_formed.0)

pub read_eight-requires : goal.read_eight-requires
read_eight-requires c =
    (omega (arith, (device-at c.args.t.now c.requires.0 c.args.k c.requires.1).room), digits_in c.args.t.now (device_start c.args.k) weight_at 8 _ (device-at c.args.t.now c.requires.0 c.args.k c.requires.1).digits (omega arith))

pub overflow_add-at-4 : goal.overflow_add-at-4
overflow_add-at-4 c = omega (arith, (device-at c.args.t.now c.requires.0 c.args.k c.requires.1).room, c.well_formed.0)

pub read_eight-requires-2 : goal.read_eight-requires-2
read_eight-requires-2 c =
    (omega (arith, (device-at c.args.t.now c.requires.0 c.args.k c.requires.1).room), digits_in c.args.t.now (device_start c.args.k) acceptance_at 8 _ (device-at c.args.t.now c.requires.0 c.args.k c.requires.1).digits (omega arith))

pub returns : goal.returns
returns c =
    let h = device-at c.args.t.now c.requires.0 c.args.k c.requires.1 in
    same _ _ _ _ (c.read_four.ensures ∙ h.number) (c.read_eight.ensures ∙ h.weight) (c.read_eight-2.ensures ∙ h.acceptance)
