-- In which groups an edit of an acceptance can move places, by the values that the code runs by: the ceiling's law. Assumes nothing.
use Rattle.std.specs.Prelude.{◌≡◌, refl, Bool, true, false, cond, List, ℕ, ◌<◌, leb, get_or, Option, Some}
use Rattle.std.proofs.Math.Path.{sym, ap}
use Rattle.std.proofs.Common.{◌∙◌, subst, arith, leb-true, leb-false}
use Rattle.definitions.specs.declared.Change.{Change}
use Rattle.definitions.specs.declared.Change.TheVariants.{Acceptance}
use Rattle.definitions.specs.Map.{Map}
use Rattle.definitions.specs.View.{View, view_of, acceptance_of}
use Rattle.definitions.specs.Load.{has_device}
use Rattle.definitions.specs.Edit.{put}
use Rattle.definitions.specs.Calls.{fits}
use Rattle.laws.specs.Lists.{both}
use Rattle.laws.specs.Found.{device-number}
use Rattle.ceiling.specs.Ceiling.{lowered, raised}
use Rattle.hierarchy.specs.declared.Rule.{Rule}
use Rattle.hierarchy.specs.Sections.{section-front}
use Rattle.survey.specs.declared.looks.Reach.{Reach}
use Rattle.survey.specs.declared.looks.Reach.TheVariants.{Before, After}
use Rattle.survey.specs.Places.{Within}
use Rattle.survey.specs.Between.{Between}
use Rattle.survey.specs.Held.{held-before, held_after}
use Rattle.editing.specs.declared.Pair.{Pair}
use Rattle.editing.specs.Paired.{Paired, Asked, between}

-- lowering is judged by the rows before it, raising by those after it
abbrev pub reach_of : ℕ → ℕ → ℕ → Reach
reach_of d before after = cond (leb after before) (Before d) (After d)

-- an edit of an acceptance keeps to its reach
abbrev pub Reaches : List ℕ → List ℕ → List ℕ → Rule → ℕ → ℕ → Option Change → Type 0
Reaches plan old new rule groups w c =
    (d v : ℕ) → c ≡ Some (Acceptance d v) → (d < 1024) × ((g : ℕ) → g < groups → Within (reach_of d (get_or old d 0) v) plan old new rule w g)

module _ (m : Map) (d v k w : ℕ) (p : Pair) (P : Paired m (put m (Some (Acceptance d v))) p) (A : Asked m (put m (Some (Acceptance d v))) k w)
    (fit : fits m (Some (Acceptance d v)) ≡ true) where
  small : d < 1024
  unfolding fits
  small = device-number m A.loadable d (both (has_device m d) (leb v 65536) fit).0

  old-is : get_or p.old d 0 ≡ acceptance_of m d
  unfolding view_of
  old-is = sym (section-front 1024 d p.old small) ∙ ap (λ (o : View). o.acceptance d) P.old.view

  B : Between p.plan p.old p.new p.rule k w m (put m (Some (Acceptance d v)))
  B = between m (put m (Some (Acceptance d v))) k w p P A

  within : (g : ℕ) → g < k → Within (reach_of d (get_or p.old d 0) v) p.plan p.old p.new p.rule w g
  within = go (leb v (get_or p.old d 0)) refl
    where
      go : (b : Bool) → leb v (get_or p.old d 0) ≡ b → (g : ℕ) → g < k → Within (cond b (Before d) (After d)) p.plan p.old p.new p.rule w g
      go true e = held-before m _ B d (lowered m d v A.loadable A.only fit (omega (arith, leb-true v (get_or p.old d 0) e, old-is)))
      go false e = held_after m _ B d (raised m d v A.loadable A.only fit (omega (arith, leb-false v (get_or p.old d 0) e, old-is)))

pub reaches : (m : Map) (c : Option Change) (k w : ℕ) (p : Pair) → Paired m (put m c) p → Asked m (put m c) k w → fits m c ≡ true
    → Reaches p.plan p.old p.new p.rule k w c
reaches m c k w p P A f d v e =
    let P' = subst (λ (x : Option Change). Paired m (put m x) p) e P in
    let A' = subst (λ (x : Option Change). Asked m (put m x) k w) e A in
    let f' = subst (λ (x : Option Change). fits m x ≡ true) e f in
    (small m d v k w p P' A' f', within m d v k w p P' A' f')
