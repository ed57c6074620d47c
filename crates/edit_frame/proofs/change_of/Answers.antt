-- `edit_frame::change_of` meets its contract: fourteen digits, and the three fields at their places. Assumes nothing.
use Rattle.std.specs.Prelude.{None, Some}
use mathlib.Core.Path.{◌≡◌, sym, ◌∙◌}
use mathlib.Core.Bool.{true, false}
use mathlib.Core.List.{List, [], ◌∷◌}
use Prim.Native.Nat.{ℕ}
use lib.ListN.{length, drop}
use lib.Seq.{drop-drop}
use borrow.Author.Tests.{eq-eqb, ne_eqb}
use Rattle.definitions.specs.declared.Change.TheVariants.{Acceptance, Weight}
use Rattle.definitions.specs.Lists.{every}
use Rattle.definitions.specs.Frames.{is_digit, value, fields_of}
use Rattle.definitions.specs.Edit.{edit_layout, change_by, change_of}
use Rattle.edit_frame.proofs.change_of.Goals as goal

-- not fourteen bytes
not-long : (f : List ℕ) → (length f ≡ 14 → ⊥) → change_of f ≡ None
unfolding change_of
not-long f n = rw (ne_eqb (length f) 14 n)

-- not all digits
not-digits : (f : List ℕ) → length f ≡ 14 → every is_digit f ≡ false → change_of f ≡ None
unfolding change_of
not-digits f l e = rw (eq-eqb (length f) 14 l, e)

-- fourteen digits, by what their fields hold
by-fields : (f : List ℕ) (k d v : ℕ) → length f ≡ 14 → every is_digit f ≡ true → k ≡ value 2 f → d ≡ value 4 (drop 2 f) → v ≡ value 8 (drop 6 f)
    → change_of f ≡ change_by k (d ∷ v ∷ [])
unfolding change_of fields_of edit_layout
by-fields f k d v l e p q r = rw (eq-eqb (length f) 14 l, e, p, q, r, drop-drop 4 2 f)

-- by their kind
acceptance : (k d v : ℕ) → k ≡ 33 → change_by k (d ∷ v ∷ []) ≡ Some (Acceptance d v)
unfolding change_by
acceptance k d v e = rw (eq-eqb k 33 e)

weight : (k d v : ℕ) → (k ≡ 33 → ⊥) → k ≡ 34 → change_by k (d ∷ v ∷ []) ≡ Some (Weight d v)
unfolding change_by
weight k d v n e = rw (ne_eqb k 33 n, eq-eqb k 34 e)

neither : (k d v : ℕ) → (k ≡ 33 → ⊥) → (k ≡ 34 → ⊥) → change_by k (d ∷ v ∷ []) ≡ None
unfolding change_by
neither k d v n m = rw (ne_eqb k 33 n, ne_eqb k 34 m)

pub returns-then-f-ne14 : goal.returns-then-f-ne14
returns-then-f-ne14 c = sym (not-long _ c.if-f-ne14.true)

pub returns-then-not-all_digits : goal.returns-then-not-all_digits
returns-then-not-all_digits c = sym (not-digits _ c.if-f-ne14.false (sym c.all_digits.ensures ∙ c.if-not-all_digits.true))

pub returns-then-kind-eq33 : goal.returns-then-kind-eq33
returns-then-kind-eq33 c =
    let here : change_of c.args.f.now ≡ change_by c.field-kind.result (c.field-device.result ∷ c.field-value.result ∷ []) = by-fields c.args.f.now _ _ _ c.if-f-ne14.false
    (sym c.all_digits.ensures ∙ c.if-not-all_digits.false)
    c.field-kind.ensures c.field-device.ensures c.field-value.ensures in
    sym (here ∙ acceptance _ _ _ c.if-kind-eq33.true)

pub returns-then-kind-eq34 : goal.returns-then-kind-eq34
returns-then-kind-eq34 c =
    let here : change_of c.args.f.now ≡ change_by c.field-kind.result (c.field-device.result ∷ c.field-value.result ∷ []) = by-fields c.args.f.now _ _ _ c.if-f-ne14.false
    (sym c.all_digits.ensures ∙ c.if-not-all_digits.false)
    c.field-kind.ensures c.field-device.ensures c.field-value.ensures in
    sym (here ∙ weight _ _ _ c.if-kind-eq33.false c.if-kind-eq34.true)

pub returns : goal.returns
returns c =
    let here : change_of c.args.f.now ≡ change_by c.field-kind.result (c.field-device.result ∷ c.field-value.result ∷ []) = by-fields c.args.f.now _ _ _ c.if-f-ne14.false
    (sym c.all_digits.ensures ∙ c.if-not-all_digits.false)
    c.field-kind.ensures c.field-device.ensures c.field-value.ensures in
    sym (here ∙ neither _ _ _ c.if-kind-eq33.false c.if-kind-eq34.false)
