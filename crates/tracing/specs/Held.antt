-- Document 02, "One drive, one place": where an item that is held is found. "Cause 03 .. looks for a device at all earlier places of the list,
-- and for a bucket, as before, at those of its own select." Assumes nothing.
use Rattle.std.specs.Prelude.{◌≡◌, Bool, ℕ, suc, ◌<◌}
use Rattle.std.proofs.Math.Bool.{true, false}
use Rattle.definitions.specs.Map.{Map, is_bucket}
use Rattle.definitions.specs.Select.{Place}
use Rattle.tracing.specs.Listed.{Emitted}

-- place q of the working list after l steps is one where item i, tested for place p of the select that is step k, is looked for: a place of that
-- select before p; for a device also a place that an earlier step has emitted
pub data Before (m : Map) (x k p i : ℕ) : ℕ → ℕ → Type 0 where
  own : {q : ℕ} → q < p → Before m x k p i (suc k) q
  listed : {j l q : ℕ} → is_bucket i ≡ false → l < k → Emitted m x j l q → Before m x k p i l q

-- what a place holds against a bucket (true), its item, and against a device, its entry
abbrev pub held_of : Bool → Place → ℕ
held_of true a = a.item
held_of false a = a.entry

module _ (m : Map) (x : ℕ) (run : ℕ → ℕ → Place) (k p i : ℕ) where
  -- in this run item i, tested for place p of the select that is step k, is held by place q after l steps, and by no other where it is looked for
  pub record OnlyAt (l q : ℕ) : Type 0 where
    pub before : Before m x k p i l q
    pub holds : held_of (is_bucket i) (run l q) ≡ i
    pub only : (o s : ℕ) → Before m x k p i o s → held_of (is_bucket i) (run o s) ≡ i → (o ≡ l) × (s ≡ q)

  -- and by none
  abbrev pub Nowhere : Type 0
  Nowhere = (o s : ℕ) → Before m x k p i o s → held_of (is_bucket i) (run o s) ≡ i → ⊥
