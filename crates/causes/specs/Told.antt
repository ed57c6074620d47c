-- The cause of a place between two runs: 0 where it is one place, with one walk, and else what follows from where its walks part.
-- Assumes nothing.
use Rattle.std.specs.Prelude.{◌≡◌, Bool, true, false, cond, ◌||◌, List, ◌⊎◌, ℕ, ◌<◌, length, get_or, Some}
use Rattle.std.proofs.Common.{sym, ap, ◌∙◌, inl, inr, arith}
use Rattle.definitions.specs.declared.Parting.{Parting}
use Rattle.definitions.specs.declared.Parting.TheVariants.{Draw, Test}
use Rattle.definitions.specs.Select.{Place, place_under, nowhere}
use Rattle.definitions.specs.Walk.{RankEvents}
use Rattle.definitions.specs.Edit.{is_held, cause_of, parting}
use Rattle.lockstep.specs.Parts.{PartsTo, parting-self, parts-to, parts-before}

-- the walks part, and c is the cause that follows
abbrev pub Parted : ℕ → Place → Place → Type 0
Parted c a b = (q : Parting) × PartsTo a.walk b.walk q × (c ≡ cause_of (Some q))

-- c is the cause of a place that is a in the old run and b in the new
abbrev pub Told : ℕ → Place → Place → Type 0
Told c a b = ((a ≡ b) × (c ≡ 0)) ⊎ Parted c a b

-- a parting has a cause
has-cause : (q : Parting) → cause_of (Some q) ≡ 0 → ⊥
unfolding cause_of
has-cause (Draw d f) e = omega (arith, e)
has-cause (Test v w) e = go (is_held v || is_held w) e
  where
    go : (b : Bool) → ◌≡◌ {A = ℕ} (cond b 3 1) 0 → ⊥
    go true h = omega (arith, h)
    go false h = omega (arith, h)

pub told_is : (c : ℕ) (a b : Place) → Told c a b → c ≡ cause_of (parting a.walk b.walk)
unfolding cause_of
told_is c a b (inl (e, z)) = z ∙ sym (ap cause_of (ap (λ (p : Place). parting a.walk p.walk) (sym e) ∙ parting-self a.walk))
told_is c a b (inr (q, h, z)) = z ∙ sym (ap cause_of (parts-to h))

-- cause 0: it is one place
pub told_same : (c : ℕ) (a b : Place) → Told c a b → c ≡ 0 → a ≡ b
told_same c a b (inl (e, z)) h = e
told_same c a b (inr (q, k, z)) h = absurd (has-cause q (sym z ∙ h))

-- another cause stands under the place too, whatever comes behind
pub told_under : (c : ℕ) (a b : Place) (k k' : RankEvents) → Told c a b → (c ≡ 0 → ⊥) → Told c (place_under a k) (place_under b k')
unfolding place_under
told_under c a b k k' (inl (e, z)) h = absurd (h z)
told_under c a b k k' (inr (q, p, z)) h = inr (q, parts-before k.events k'.events p, z)

-- the causes of the places of two lists, as the first of cs
pub record Causes (cs : List ℕ) (ps qs : List Place) : Type 0 where
  pub same : length qs ≡ length ps
  pub each : (i : ℕ) → i < length ps → Told (get_or cs i 0) (get_or ps i nowhere) (get_or qs i nowhere)
