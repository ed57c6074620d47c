-- Document 01, question 11: in a map of blocks each step is a take outside a block, a select of a smaller type inside one, or an emit at
-- type 0; so inside a block the rule stands at the type reached, and behind a select that puts out devices comes an emit. Assumes nothing.
use Rattle.std.proofs.Math.Path.{◌≡◌, refl}
use Rattle.std.proofs.Common.{sym, ap, ◌∙◌, subst, ⊎_elim, eq-or-lt_of_le, arith, ltb-true, ne_eqb}
use Rattle.std.specs.Prelude.{Bool, true, false, cond, List, ltb}
use Rattle.std.proofs.Math.Bool.{false≢true}
use Prim.Native.Nat.{ℕ, zero, suc, ◌<◌, ◌≤◌}
use Rattle.std.proofs.Math.Decide.{dec_lt}
use Rattle.std.proofs.Math.ListN.{length, get_or, get_or-eq_default}
use Rattle.std.proofs.lemmas.List.{length-map}
use Rattle.definitions.specs.declared.Mode.{Mode}
use Rattle.definitions.specs.declared.Action.{Action}
use Rattle.definitions.specs.declared.Action.TheVariants.{Take, Select, Emit, Idle}
use Rattle.definitions.specs.declared.Standing.{Standing}
use Rattle.definitions.specs.declared.Standing.TheVariants.{Outside, Inside, Broken}
use Rattle.definitions.specs.Map.{Map, action_of, actions_of}
use Rattle.definitions.specs.View.{bucket_type}
use Rattle.definitions.specs.Load.{reaches, stand, standing, is_outside, in_blocks}
use Rattle.laws.specs.Loadable.{in_blocks_lem}

-- ---- a step

-- a step that keeps to the order, between where the rule stands before it and behind it
pub data InOrder (m : Map) : Standing → Action → Standing → Type 0 where
  takes : {b : ℕ} → InOrder m Outside (Take b) (Inside (bucket_type m b))
  selects : {u n t : ℕ} {mode : Mode} → t < u → InOrder m (Inside u) (Select mode n t) (Inside (reaches mode t))
  emits : InOrder m (Inside 0) Emit Outside

in_order : (m : Map) (st : Standing) (a : Action) → (stand m st a ≡ Broken → ⊥) → InOrder m st a (stand m st a)
unfolding stand
in_order m Outside (Take b) f = takes
in_order m Outside (Select mode n t) f = absurd (f refl)
in_order m Outside Emit f = absurd (f refl)
in_order m Outside Idle f = absurd (f refl)
in_order m (Inside u) (Take b) f = absurd (f refl)
in_order m (Inside u) (Select mode n t) f = go (ltb t u) refl f
  where
    go : (b : Bool) → ltb t u ≡ b → (cond b (Inside (reaches mode t)) Broken ≡ Broken → ⊥)
        → InOrder m (Inside u) (Select mode n t) (cond b (Inside (reaches mode t)) Broken)
    go true q g = selects (ltb-true t u q)
    go false q g = absurd (g refl)
in_order m (Inside zero) Emit f = emits
in_order m (Inside (suc u)) Emit f = absurd (f (rw (ne_eqb (suc u) 0 (λ e. omega arith))))
in_order m (Inside u) Idle f = absurd (f refl)
in_order m Broken a f = absurd (f refl)

-- a step that is not idle is one of the rule's
pub step-inside : (actions : List Action) (k : ℕ) → (get_or actions k Idle ≡ Idle → ⊥) → k < length actions
step-inside actions k f = go (dec_lt k (length actions))
  where
    go : Dec (k < length actions) → k < length actions
    go (yes h) = h
    go (no h) = absurd (f (get_or-eq_default actions Idle {n = k} (omega arith)))

-- ---- the steps of a map

pub length-actions : (m : Map) → length (actions_of m) ≡ length m.steps
unfolding actions_of
length-actions m = length-map m.steps action_of

-- what is broken stays so
broken-on : (m : Map) (l k : ℕ) → k ≤ l → standing m k ≡ Broken → standing m l ≡ Broken
unfolding standing stand
broken-on m zero k h e = let z : k ≡ 0 = omega arith in subst (λ (i : ℕ). standing m i ≡ Broken) z e
broken-on m (suc l) k h e =
    ⊎_elim (λ (q : k ≡ suc l). subst (λ (i : ℕ). standing m i ≡ Broken) q e) (λ (g : k < suc l). rw (broken-on m l k (omega arith) e)) (eq-or-lt_of_le h)

module _ (m : Map) (b : in_blocks m ≡ true) where
  -- the rule ends outside a block
  pub ends-outside : is_outside (standing m (length (actions_of m))) ≡ true
  ends-outside = ap (λ (k : ℕ). is_outside (standing m k)) (length-actions m) ∙ (in_blocks_lem m b).outside

  -- no step breaks the order
  pub never-broken : (k : ℕ) → k ≤ length (actions_of m) → standing m k ≡ Broken → ⊥
  unfolding is_outside
  never-broken k h e = false≢true (sym (ap is_outside (broken-on m (length (actions_of m)) k h e)) ∙ ends-outside)

  -- each step keeps to it
  pub step-in-order : (k : ℕ) → k < length (actions_of m) → InOrder m (standing m k) (get_or (actions_of m) k Idle) (standing m (suc k))
  unfolding standing
  step-in-order k h = in_order m (standing m k) (get_or (actions_of m) k Idle) (never-broken (suc k) h)

-- ---- the type reached

-- the type reached, u before it, after one action more: types gives those of the buckets
unfoldable pub reached_by : (ℕ → ℕ) → ℕ → Action → ℕ
reached_by types u (Take b) = types b
reached_by types u (Select mode n t) = reaches mode t
reached_by types u Emit = u
reached_by types u Idle = u

-- after the first k actions
unfoldable pub reached : (ℕ → ℕ) → List Action → ℕ → ℕ
reached types actions zero = 0
reached types actions (suc k) = reached_by types (reached types actions k) (get_or actions k Idle)

module _ (m : Map) (b : in_blocks m ≡ true) where
  -- inside a block the rule stands at the type reached
  pub reached-inside : (types : ℕ → ℕ) → ((k i : ℕ) → k < length (actions_of m) → get_or (actions_of m) k Idle ≡ Take i → types i ≡ bucket_type m i)
      → (k u : ℕ) → k ≤ length (actions_of m) → standing m k ≡ Inside u → reached types (actions_of m) k ≡ u
  unfolding reached reached_by standing
  reached-inside types same zero u h e = absurd (let z : ◌≡◌ {A = ℕ} 0 1 = cc in omega arith)
  reached-inside types same (suc k) u h e = go (step-in-order m b k h) refl e
    where
      go : {st st' : Standing} {a : Action} → InOrder m st a st' → get_or (actions_of m) k Idle ≡ a → st' ≡ Inside u
          → reached_by types (reached types (actions_of m) k) a ≡ u
      go (takes {b = i}) q f = same k i h q ∙ (let z : bucket_type m i ≡ u = cc in z)
      go (selects {t} {mode} l) q f = let z : reaches mode t ≡ u = cc in z
      go emits q f = absurd (let z : ◌≡◌ {A = ℕ} 0 1 = cc in omega arith)

  -- and an emit comes where that is 0
  pub emit-inside : (k : ℕ) → k < length (actions_of m) → get_or (actions_of m) k Idle ≡ Emit → standing m k ≡ Inside 0
  emit-inside k h e = go (step-in-order m b k h) e
    where
      go : {st st' : Standing} {a : Action} → InOrder m st a st' → a ≡ Emit → st ≡ Inside 0
      go takes q = absurd (let z : ◌≡◌ {A = ℕ} 0 1 = cc in omega arith)
      go (selects l) q = absurd (let z : ◌≡◌ {A = ℕ} 0 1 = cc in omega arith)
      go emits q = refl

  -- a select that puts out devices is the last of its block: an emit follows
  pub emit-next : (k n t : ℕ) (mode : Mode) → get_or (actions_of m) k Idle ≡ Select mode n t → reaches mode t ≡ 0
      → get_or (actions_of m) (suc k) Idle ≡ Emit
  unfolding is_outside
  emit-next k n t mode e devices = go (dec_lt (suc k) (length (actions_of m)))
    where
      inside : k < length (actions_of m)
      inside = step-inside (actions_of m) k (λ q. let z : ◌≡◌ {A = ℕ} 0 1 = cc in omega arith)

      at_zero : {st st' : Standing} {a : Action} → InOrder m st a st' → a ≡ Select mode n t → st' ≡ Inside 0
      at_zero takes q = absurd (let z : ◌≡◌ {A = ℕ} 0 1 = cc in omega arith)
      at_zero (selects {t = s} {mode = o} l) q = let z : reaches o s ≡ reaches mode t = cc in ap Inside (z ∙ devices)
      at_zero emits q = absurd (let z : ◌≡◌ {A = ℕ} 0 1 = cc in omega arith)

      emits-there : {st st' : Standing} {a : Action} → InOrder m st a st' → st ≡ Inside 0 → a ≡ Emit
      emits-there takes q = absurd (let z : ◌≡◌ {A = ℕ} 0 1 = cc in omega arith)
      emits-there (selects {u} l) q = absurd (let z : u ≡ 0 = cc in omega arith)
      emits-there emits q = refl

      stands : standing m (suc k) ≡ Inside 0
      stands = at_zero (step-in-order m b k inside) e

      go : Dec (suc k < length (actions_of m)) → get_or (actions_of m) (suc k) Idle ≡ Emit
      go (yes h) = emits-there (step-in-order m b (suc k) h) stands
      go (no f) =
          let z : suc k ≡ length (actions_of m) = omega (arith, inside) in
          absurd (false≢true (sym (ap is_outside (ap (standing m) (sym z) ∙ stands)) ∙ ends-outside m b))
