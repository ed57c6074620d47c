-- What two descents in one plan come to with two lists of values: the steps that the descent of both takes. Assumes nothing.
use Rattle.std.specs.Prelude.{◌≡◌, refl, false, List, ℕ, ◌<◌, ◌≤◌, Option, None, Some, Result, Ok, Err, IfOk}
use Rattle.std.proofs.Common.{subst, arith}
use Rattle.definitions.specs.declared.Landed.{Landed}
use Rattle.definitions.specs.declared.Parting.{Parting}
use Rattle.definitions.specs.declared.Parting.TheVariants.{Draw}
use Rattle.definitions.specs.Map.{bucket_number}
use Rattle.definitions.specs.Walk.{draw_at, descend}
use Rattle.definitions.specs.Edit.{same_drawn}
use Rattle.hierarchy.specs.Arrays.{type_in, view_in, ItemRange, Sound}
use Rattle.descent.specs.Descent.{LandedBounds, sound-sinks}
use Rattle.lockstep.specs.Lockstep.{Descents, meet-apart, meet-none, meet-stop, meet-down}

-- m is what the descents from bucket b come to by the one list of values and by the other
abbrev pub Meets : List ℕ → List ℕ → List ℕ → ℕ → ℕ → ℕ → ℕ → Result Landed Parting → Type 0
Meets plan old new x t r b m = Descents m (descend (view_in plan old) x t r b) (descend (view_in plan new) x t r b)

-- descents that land together land in the map
abbrev pub MeetingBounds : Result Landed Parting → Type 0
MeetingBounds m = IfOk m LandedBounds

-- a draw of none, and a draw of an item in range
pub none-bounds : (b : ℕ) → b < 256 → MeetingBounds (Ok (record { bucket = b; drawn = None }))
none-bounds b h = (h, λ i q. absurd (let z : ◌≡◌ {A = ℕ} 0 1 = cc in omega arith))

pub winner-bounds : (b i : ℕ) → b < 256 → ItemRange i → MeetingBounds (Ok (record { bucket = b; drawn = Some i }))
winner-bounds b i h g = (h, λ j q. let e : i ≡ j = cc in subst ItemRange e g)

module _ {plan : List ℕ} (sound : Sound plan) (old new : List ℕ) (x t r b : ℕ) where
  abbrev drawn : List ℕ → Option ℕ
  drawn vs = draw_at (view_in plan vs) x r b

  abbrev Met : ℕ → Result Landed Parting → Type 0
  Met = Meets plan old new x t r

  pub meets-apart : (d d' : Option ℕ) → drawn old ≡ d → drawn new ≡ d' → same_drawn d d' ≡ false → Met b (Err (Draw d d'))
  meets-apart d d' e e' h = meet-apart _ _ (λ i. refl) (sound-sinks sound old) (sound-sinks sound new) x t r b d d' e e' h

  pub meets-none : drawn old ≡ None → drawn new ≡ None → Met b (Ok (record { bucket = b; drawn = None }))
  meets-none e e' = meet-none _ _ (λ i. refl) (sound-sinks sound old) (sound-sinks sound new) x t r b e e'

  module _ (i : ℕ) (e : drawn old ≡ Some i) (e' : drawn new ≡ Some i) where
    pub meets-stop : type_in plan i ≤ t → Met b (Ok (record { bucket = b; drawn = Some i }))
    meets-stop l = meet-stop _ _ (λ i. refl) (sound-sinks sound old) (sound-sinks sound new) x t r b i e e' l

    pub meets-down : (m : Result Landed Parting) → t < type_in plan i → Met (bucket_number i) m → Met b m
    meets-down m l rest = meet-down _ _ (λ i. refl) (sound-sinks sound old) (sound-sinks sound new) x t r b i m e e' l rest
