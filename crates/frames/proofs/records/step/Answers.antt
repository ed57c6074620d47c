-- `frames::records::step` meets its contract: the four fields stand where they are read, and the line is within the text. Assumes nothing.
use mathlib.Core.Path.{◌≡◌, ◌∙◌}
use Prim.Native.Nat.{ℕ, ◌+◌, ◌*◌}
use native.Mathlib.Omega.{arith}
use Rattle.definitions.specs.declared.Step.{Step}
use Rattle.text.specs.Frames.{line_bytes}
use Rattle.text.specs.Rows.{steps_start}
use Rattle.text.specs.Records.{step-at}
use Rattle.frames.specs.Words.{digits_in}
use Rattle.frames.proofs.records.step.Goals as goal

-- four fields are a step
same : (d : Step) (a b c e : ℕ) → a ≡ d.step → b ≡ d.count → c ≡ d.ty → e ≡ d.bucket
    → ◌≡◌ {A = Step} (record { step = a; count = b; ty = c; bucket = e }) d
same d a b c e p q r u = rw (p, q, r, u)

pub overflow_mul-at : goal.overflow_mul-at
overflow_mul-at c = omega (arith, (step-at c.args.t.now c.requires.0 c.args.s c.requires.1 c.args.k c.requires.2).room, c.well_formed.0)

pub overflow_add-at : goal.overflow_add-at
overflow_add-at c = omega (arith, (step-at c.args.t.now c.requires.0 c.args.s c.requires.1 c.args.k c.requires.2).room, c.well_formed.0)

pub overflow_mul-at-2 : goal.overflow_mul-at-2
overflow_mul-at-2 c = omega (arith, (step-at c.args.t.now c.requires.0 c.args.s c.requires.1 c.args.k c.requires.2).room, c.well_formed.0)

pub overflow_add-at-2 : goal.overflow_add-at-2
overflow_add-at-2 c = omega (arith, (step-at c.args.t.now c.requires.0 c.args.s c.requires.1 c.args.k c.requires.2).room, c.well_formed.0)

pub overflow_mul-at-3 : goal.overflow_mul-at-3
overflow_mul-at-3 c = omega (arith, (step-at c.args.t.now c.requires.0 c.args.s c.requires.1 c.args.k c.requires.2).room, c.well_formed.0)

pub overflow_add-at-3 : goal.overflow_add-at-3
overflow_add-at-3 c = omega (arith, (step-at c.args.t.now c.requires.0 c.args.s c.requires.1 c.args.k c.requires.2).room, c.well_formed.0)

pub overflow_mul-at-4 : goal.overflow_mul-at-4
overflow_mul-at-4 c = omega (arith, (step-at c.args.t.now c.requires.0 c.args.s c.requires.1 c.args.k c.requires.2).room, c.well_formed.0)

pub overflow_add-at-4 : goal.overflow_add-at-4
overflow_add-at-4 c = omega (arith, (step-at c.args.t.now c.requires.0 c.args.s c.requires.1 c.args.k c.requires.2).room, c.well_formed.0)

pub overflow_add-at-5 : goal.overflow_add-at-5
overflow_add-at-5 c = omega (arith, (step-at c.args.t.now c.requires.0 c.args.s c.requires.1 c.args.k c.requires.2).room, c.well_formed.0)

pub field-requires : goal.field-requires
field-requires c = omega (arith, (step-at c.args.t.now c.requires.0 c.args.s c.requires.1 c.args.k c.requires.2).room)

pub overflow_add-at-6 : goal.overflow_add-at-6
overflow_add-at-6 c = omega (arith, (step-at c.args.t.now c.requires.0 c.args.s c.requires.1 c.args.k c.requires.2).room, c.well_formed.0)

pub field-requires-2 : goal.field-requires-2
field-requires-2 c = omega (arith, (step-at c.args.t.now c.requires.0 c.args.s c.requires.1 c.args.k c.requires.2).room)

pub overflow_add-at-7 : goal.overflow_add-at-7
overflow_add-at-7 c = omega (arith, (step-at c.args.t.now c.requires.0 c.args.s c.requires.1 c.args.k c.requires.2).room, c.well_formed.0)

pub field-requires-3 : goal.field-requires-3
field-requires-3 c = omega (arith, (step-at c.args.t.now c.requires.0 c.args.s c.requires.1 c.args.k c.requires.2).room)

pub overflow_add-at-8 : goal.overflow_add-at-8
overflow_add-at-8 c = omega (arith, (step-at c.args.t.now c.requires.0 c.args.s c.requires.1 c.args.k c.requires.2).room, c.well_formed.0)

pub read_four-requires : goal.read_four-requires
read_four-requires c =
    (omega (arith, (step-at c.args.t.now c.requires.0 c.args.s c.requires.1 c.args.k c.requires.2).room), digits_in c.args.t.now (steps_start c.args.s + c.args.k * line_bytes 4) 8 4 _ (step-at c.args.t.now c.requires.0 c.args.s c.requires.1 c.args.k c.requires.2).digits (omega arith))

pub returns : goal.returns
returns c =
    let h = step-at c.args.t.now c.requires.0 c.args.s c.requires.1 c.args.k c.requires.2 in
    same _ _ _ _ _ (c.field.ensures ∙ h.step) (c.field-2.ensures ∙ h.count) (c.field-3.ensures ∙ h.ty) (c.read_four.ensures ∙ h.bucket)
