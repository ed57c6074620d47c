-- The actions of a map's steps: what question 5 says of each. Assumes nothing.
use Rattle.std.specs.Prelude.{◌≡◌, refl, Bool, ◌&&◌, ◌||◌, ◌⊎◌, List, [], ◌∷◌, map, ℕ, zero, suc, ◌<◌, ◌≤◌, length, get_or}
use Rattle.std.proofs.Math.Bool.{true, false}
use Rattle.std.proofs.Common.{inl, inr, arith}
use Rattle.std.proofs.Math.Dec.{leb, eqb}
use borrow.Author.Tests.{leb-true, eqb-true, eqb-false, eq-eqb, ne_eqb}
use Rattle.definitions.specs.declared.Step.{Step}
use Rattle.definitions.specs.declared.Mode.TheVariants.{FirstN, Independent, Through}
use Rattle.definitions.specs.declared.Action.{Action}
use Rattle.definitions.specs.declared.Action.TheVariants.{Take, Select, Emit, Idle}
use Rattle.definitions.specs.Lists.{every}
use Rattle.definitions.specs.Map.{Map, action_of, actions_of}
use Rattle.definitions.specs.Load.{within, take_ranged, select_ranged, emit_ranged, step_ranged, ranged}
use Rattle.laws.specs.Lists.{both, every-head, every-tail, get_d-mapped}
use Rattle.laws.specs.Loadable.{ranged-is}
use Rattle.laws.specs.Blocks.{length-actions}
use Rattle.text.specs.Records.{no_step}

-- an action whose numbers are in range
abbrev pub ActionRanged : Action → Type 0
ActionRanged (Take b) = b < 256
ActionRanged (Select mode n t) = (1 ≤ n) × (n ≤ 16) × (t ≤ 254)
ActionRanged Emit = Unit {0}
ActionRanged Idle = ⊥

-- each of a list
unfoldable pub AllRanged : List Action → Type 0
AllRanged [] = Unit {0}
AllRanged (a ∷ rest) = ActionRanged a × AllRanged rest

either : (a b : Bool) → a || b ≡ true → (a ≡ true) ⊎ (b ≡ true)
either true b e = inl refl
either false b e = inr e

-- the step's own number decides
module _ (s : Step) where
  pub action-take : s.step ≡ 1 → action_of s ≡ Take s.bucket
  unfolding action_of
  action-take e = rw (eq-eqb s.step 1 e)

  pub action-first : s.step ≡ 2 → action_of s ≡ Select FirstN s.count s.ty
  unfolding action_of
  action-first e = rw (ne_eqb s.step 1 (λ f. omega arith), eq-eqb s.step 2 e)

  pub action-independent : s.step ≡ 3 → action_of s ≡ Select Independent s.count s.ty
  unfolding action_of
  action-independent e = rw (ne_eqb s.step 1 (λ f. omega arith), ne_eqb s.step 2 (λ f. omega arith), eq-eqb s.step 3 e)

  pub action-emit : s.step ≡ 4 → action_of s ≡ Emit
  unfolding action_of
  action-emit e =
      rw (ne_eqb s.step 1 (λ f. omega arith), ne_eqb s.step 2 (λ f. omega arith), ne_eqb s.step 3 (λ f. omega arith), eq-eqb s.step 4 e)

  pub action-through : s.step ≡ 5 → action_of s ≡ Select Through s.count s.ty
  unfolding action_of
  action-through e =
      rw (
        ne_eqb s.step 1 (λ f. omega arith),
        ne_eqb s.step 2 (λ f. omega arith),
        ne_eqb s.step 3 (λ f. omega arith),
        ne_eqb s.step 4 (λ f. omega arith),
        eq-eqb s.step 5 e,
      )

  pub action-idle : (s.step ≡ 1 → ⊥) → (s.step ≡ 2 → ⊥) → (s.step ≡ 3 → ⊥) → (s.step ≡ 4 → ⊥) → (s.step ≡ 5 → ⊥) → action_of s ≡ Idle
  unfolding action_of
  action-idle a b c d e = rw (ne_eqb s.step 1 a, ne_eqb s.step 2 b, ne_eqb s.step 3 c, ne_eqb s.step 4 d, ne_eqb s.step 5 e)

  -- in range, by the three forms of a step
  take-ranged : take_ranged s ≡ true → ActionRanged (action_of s)
  unfolding take_ranged
  take-ranged e =
      let q2 = both (eqb s.step 1 && eqb s.count 0 && eqb s.ty 0) (leb s.bucket 255) e in
      let q1 = both (eqb s.step 1 && eqb s.count 0) (eqb s.ty 0) q2.0 in
      let q0 = both (eqb s.step 1) (eqb s.count 0) q1.0 in
      let h : s.bucket ≤ 255 = leb-true _ _ q2.1 in
      rw (action-take (eqb-true _ _ q0.0)) (omega arith)

  -- a select is of one of the three modes
  select-ranged : select_ranged s ≡ true → ActionRanged (action_of s)
  unfolding select_ranged
  select-ranged e =
      let step = within 2 3 s.step || eqb s.step 5 in
      let q2 = both (step && within 1 16 s.count && leb s.ty 254) (eqb s.bucket 0) e in
      let q1 = both (step && within 1 16 s.count) (leb s.ty 254) q2.0 in
      let q0 = both step (within 1 16 s.count) q1.0 in
      let n = both (leb 1 s.count) (leb s.count 16) q0.1 in
      go (leb-true _ _ n.0, leb-true _ _ n.1, leb-true _ _ q1.1) (either (within 2 3 s.step) (eqb s.step 5) q0.0)
    where
      plain : (1 ≤ s.count) × (s.count ≤ 16) × (s.ty ≤ 254) → 2 ≤ s.step → s.step ≤ 3
          → (b : Bool) → eqb s.step 2 ≡ b → ActionRanged (action_of s)
      plain r h k true q = rw (action-first (eqb-true _ _ q)) r
      plain r h k false q = rw (action-independent (omega (arith, eqb-false s.step 2 q))) r

      go : (1 ≤ s.count) × (s.count ≤ 16) × (s.ty ≤ 254) → (within 2 3 s.step ≡ true) ⊎ (eqb s.step 5 ≡ true) → ActionRanged (action_of s)
      go r (inl h) = let k = both (leb 2 s.step) (leb s.step 3) h in plain r (leb-true _ _ k.0) (leb-true _ _ k.1) (eqb s.step 2) refl
      go r (inr h) = rw (action-through (eqb-true _ _ h)) r

  emit-ranged : emit_ranged s ≡ true → ActionRanged (action_of s)
  unfolding emit_ranged
  emit-ranged e =
      let q2 = both (eqb s.step 4 && eqb s.count 0 && eqb s.ty 0) (eqb s.bucket 0) e in
      let q1 = both (eqb s.step 4 && eqb s.count 0) (eqb s.ty 0) q2.0 in
      let q0 = both (eqb s.step 4) (eqb s.count 0) q1.0 in
      rw (action-emit (eqb-true _ _ q0.0)) tt

  pub step-ranged : step_ranged s ≡ true → ActionRanged (action_of s)
  unfolding step_ranged
  step-ranged e = go (either (take_ranged s || select_ranged s) (emit_ranged s) e)
    where
      first : (take_ranged s ≡ true) ⊎ (select_ranged s ≡ true) → ActionRanged (action_of s)
      first (inl h) = take-ranged h
      first (inr h) = select-ranged h

      go : (take_ranged s || select_ranged s ≡ true) ⊎ (emit_ranged s ≡ true) → ActionRanged (action_of s)
      go (inl h) = first (either (take_ranged s) (select_ranged s) h)
      go (inr h) = emit-ranged h

map-ranged : (ss : List Step) → every step_ranged ss ≡ true → AllRanged (map action_of ss)
unfolding AllRanged
map-ranged [] e = tt
map-ranged (s ∷ ss) e = (step-ranged s (every-head step_ranged s ss e), map-ranged ss (every-tail step_ranged s ss e))

-- one of them
pub ranged-at : (xs : List Action) (k : ℕ) → AllRanged xs → k < length xs → ActionRanged (get_or xs k Idle)
unfolding AllRanged
ranged-at [] k r h = absurd (omega arith)
ranged-at (a ∷ xs) zero r h = r.0
ranged-at (a ∷ xs) (suc k) r h = ranged-at xs k r.1 (omega arith)

module _ (m : Map) where
  -- the action of step k
  pub action-at : (k : ℕ) → k < length m.steps → get_or (actions_of m) k Idle ≡ action_of (get_or m.steps k no_step)
  unfolding actions_of
  action-at k h = get_d-mapped action_of m.steps k no_step Idle h

  -- question 5 holds of each action
  pub actions-ranged : ranged m ≡ true → AllRanged (actions_of m)
  unfolding actions_of
  actions-ranged e = map-ranged m.steps (ranged-is m e).steps

  pub action-ranged : (k : ℕ) (a : Action) → ranged m ≡ true → k < length m.steps → a ≡ get_or (actions_of m) k Idle → ActionRanged a
  action-ranged k a e h q = rw q (ranged-at (actions_of m) k (actions-ranged e) (omega (arith, length-actions m)))
