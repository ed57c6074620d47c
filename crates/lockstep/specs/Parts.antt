-- Where two lists of events part: at an event whose ends differ, whatever comes behind it. Assumes nothing.
use Rattle.std.specs.Prelude.{◌≡◌, refl, true, false, List, [], ◌∷◌, ◌++◌, ℕ, Option, None, Some}
use Rattle.std.proofs.Common.{ap, ◌∙◌, append-nil, append_assoc, eq-eqb, eqb-true}
use Rattle.std.proofs.lemmas.Bool.{false≢true}
use Rattle.definitions.specs.declared.Verdict.{Verdict}
use Rattle.definitions.specs.declared.Verdict.TheVariants.{Held, Rejected, Passed}
use Rattle.definitions.specs.declared.Event.{Event}
use Rattle.definitions.specs.declared.Event.TheVariants.{Drew, Tested}
use Rattle.definitions.specs.declared.Parting.{Parting}
use Rattle.definitions.specs.declared.Parting.TheVariants.{Draw, Test}
use Rattle.definitions.specs.Edit.{same_drawn, same_verdict, ends_of, or_else, parting}

-- ---- ends that are the same

drawn-self : (d : Option ℕ) → same_drawn d d ≡ true
unfolding same_drawn
drawn-self (Some i) = eq-eqb i i refl
drawn-self None = refl

verdict-self : (w : Verdict) → same_verdict w w ≡ true
unfolding same_verdict
verdict-self Held = refl
verdict-self Rejected = refl
verdict-self Passed = refl

pub drawn-eq : (d e : Option ℕ) → same_drawn d e ≡ true → d ≡ e
unfolding same_drawn
drawn-eq (Some i) (Some j) h = ap Some (eqb-true i j h)
drawn-eq (Some i) None h = absurd (false≢true h)
drawn-eq None (Some j) h = absurd (false≢true h)
drawn-eq None None h = refl

pub verdict-eq : (u w : Verdict) → same_verdict u w ≡ true → u ≡ w
unfolding same_verdict
verdict-eq Held Held h = refl
verdict-eq Held Rejected h = absurd (false≢true h)
verdict-eq Held Passed h = absurd (false≢true h)
verdict-eq Rejected Held h = absurd (false≢true h)
verdict-eq Rejected Rejected h = refl
verdict-eq Rejected Passed h = absurd (false≢true h)
verdict-eq Passed Held h = absurd (false≢true h)
verdict-eq Passed Rejected h = absurd (false≢true h)
verdict-eq Passed Passed h = refl

ends-self : (e : Event) → ends_of e e ≡ None
unfolding ends_of
ends-self (Drew b r d) = simp (drawn-self d)
ends-self (Tested i w) = simp (verdict-self w)

-- ---- partings

-- walks with one beginning part where the rest of them parts
pub parting-front : (es fs gs : List Event) → parting (es ++ fs) (es ++ gs) ≡ parting fs gs
unfolding parting or_else
parting-front [] fs gs = refl
parting-front (e ∷ es) fs gs = simp (ends-self e, parting-front es fs gs)

pub parting-self : (es : List Event) → parting es es ≡ None
unfolding parting or_else
parting-self [] = refl
parting-self (e ∷ es) = simp (ends-self e, parting-self es)

-- the events es and fs part, and the ends there are p: no event behind them is reached
pub record PartsTo (es fs : List Event) (p : Parting) : Type 0 where
  pub ends : (xs ys : List Event) → parting (es ++ xs) (fs ++ ys) ≡ Some p

pub parts-to : {es fs : List Event} {p : Parting} → PartsTo es fs p → parting es fs ≡ Some p
parts-to {es} {fs} k = rw (← append-nil es, ← append-nil fs) (k.ends [] [])

-- behind one beginning
pub parts-after : (es : List Event) {fs gs : List Event} {p : Parting} → PartsTo fs gs p → PartsTo (es ++ fs) (es ++ gs) p
parts-after es {fs} {gs} k =
    record {
      ends = λ xs ys. rw (append_assoc es fs xs, append_assoc es gs ys) (parting-front es (fs ++ xs) (gs ++ ys) ∙ k.ends xs ys);
    }

-- with more behind them
pub parts-before : (xs ys : List Event) {es fs : List Event} {p : Parting} → PartsTo es fs p → PartsTo (es ++ xs) (fs ++ ys) p
parts-before xs ys {es} {fs} k =
    record {
      ends = λ us ws. rw (append_assoc es xs us, append_assoc fs ys ws) (k.ends (xs ++ us) (ys ++ ws));
    }

-- two draws that end differently
pub draws-part : (b r : ℕ) (d e : Option ℕ) (es fs : List Event) → same_drawn d e ≡ false
    → PartsTo (Drew b r d ∷ es) (Drew b r e ∷ fs) (Draw d e)
unfolding parting ends_of or_else
draws-part b r d e es fs h =
    record { ends = λ xs ys. simp h }

-- two tests that end differently
pub tests-part : (i : ℕ) (u w : Verdict) (es fs : List Event) → same_verdict u w ≡ false
    → PartsTo (Tested i u ∷ es) (Tested i w ∷ fs) (Test u w)
unfolding parting ends_of or_else
tests-part i u w es fs h =
    record { ends = λ xs ys. simp h }
