-- What the code keeps of a run, as the run without its walks. Assumes nothing.
use Rattle.std.specs.Prelude.{◌≡◌, refl, ℕ, ◌+◌, ◌*◌, ◌<◌, ◌≤◌, length, get_or, set}
use Rattle.std.proofs.Common.{sym, ◌∙◌, add-one, get_or-take, length-take-le}
use Rattle.std.proofs.Math.Path.{ap}
use mathlib.Core.List.{List}
use native.Mathlib.Omega.{arith}
use Rattle.std.proofs.Math.Nat.{mul-le-mul_right}
use Rattle.std.proofs.Math.ListN.{take}
use Rattle.std.proofs.lemmas.List.{length-map}
use Rattle.std.proofs.Math.Seq.{paste, take-paste, take-suc-set}
use Rattle.definitions.specs.declared.Action.{Action}
use Rattle.definitions.specs.declared.Action.TheVariants.{Take, Select, Emit, Idle}
use Rattle.definitions.specs.declared.Mode.{Mode}
use Rattle.definitions.specs.declared.Step.{Step}
use Rattle.definitions.specs.Map.{bucket_item, action_of}
use Rattle.definitions.specs.View.{View}
use Rattle.hierarchy.specs.declared.Rule.{Rule}
use Rattle.hierarchy.specs.Arrays.{view_in, Sound, actions_in}
use Rattle.laws.specs.Lists.{get_d-mapped}
use Rattle.laws.specs.Members.{Each}
use Rattle.walk.specs.Searches.{Inward}
use Rattle.blocks.specs.Products.{product_after, added_by, product_to, emitted_to}
use Rattle.placement.specs.declared.progress.Progress.{Progress}
use Rattle.placement.specs.Bare.{Bare, BareRun, bare_select, bare_selected, bare_act, bare_run_to}
use Rattle.placement.specs.Ruled.{Keeps, Ready, reached_to}
use Rattle.placement.specs.Working.{Workable, working-workable}

-- the lists are the first of the arrays
abbrev pub run_in : Progress → BareRun
run_in p = record { items = take p.len p.items; working = take p.len p.working; list = take p.emitted p.list; tries = p.tries }

-- there is room for what action a does, and it can be done
abbrev pub Doable : Progress → Action → Type 0
Doable p (Take b) = b < 256
Doable p (Select mode n t) = (1 ≤ n) × (n ≤ 16) × (p.len * n ≤ 16) × Each Workable (take p.len p.working) × Inward mode t
Doable p Emit = p.emitted + p.len ≤ 32
Doable p Idle = Unit {0}

-- how far action a leads at most
pub record Stepped (p : Progress) (a : Action) (q : Progress) : Type 0 where
  pub len : q.len ≤ product_after p.len a
  pub emitted : q.emitted ≤ p.emitted + added_by p.len a
  pub tries : q.tries ≤ p.tries + 40800

-- q is what action a makes of p
abbrev pub Acted : View → ℕ → Progress → Action → Progress → Type 0
Acted v x p a q = (run_in q ≡ bare_act v x (run_in p) a) × Stepped p a q

-- ---- what an action makes of the arrays

module _ (v : View) (x : ℕ) (p : Progress) where
  pub run_take : (b i : ℕ) → 0 < length p.items → 0 < length p.working → i ≡ bucket_item b
      → record { items = take 1 (set p.items 0 i); working = take 1 (set p.working 0 i); list = take p.emitted p.list; tries = p.tries } ≡ bare_act v x (run_in p) (Take b)
  unfolding bare_act
  run_take b i g h e = rw (take-suc-set p.items 0 i g, take-suc-set p.working 0 i h, e)

  pub run-select : (mode : Mode) (n t : ℕ) (k : Bare) → k ≡ bare_select v x mode n t (take p.emitted p.list) (take p.len p.working)
      → record { items = k.items; working = k.entries; list = take p.emitted p.list; tries = p.tries + k.tries } ≡ bare_act v x (run_in p) (Select mode n t)
  unfolding bare_act bare_selected
  run-select mode n t k e = ap (λ (b : Bare). record { items = b.items; working = b.entries; list = take p.emitted p.list; tries = p.tries + b.tries }) e

  pub run-emit : (list : List ℕ) (j : ℕ) → j ≡ p.len → p.len ≤ length p.working → p.emitted ≤ length p.list
      → list ≡ paste p.list p.emitted p.working j
      → record { items = take p.len p.items; working = take p.len p.working; list = take (p.emitted + p.len) list; tries = p.tries } ≡ bare_act v x (run_in p) Emit
  unfolding bare_act
  run-emit list j e h g q =
      ap (λ (l : List ℕ). record { items = take p.len p.items; working = take p.len p.working; list = l; tries = p.tries })
      (ap (take (p.emitted + p.len)) (q ∙ ap (λ (k : ℕ). paste p.list p.emitted p.working k) e)
      ∙ take-paste p.list p.emitted p.working p.len g h)

  pub run-idle : Acted v x p Idle p
  unfolding bare_act product_after added_by
  run-idle = (refl, record { len = omega arith; emitted = omega arith; tries = omega arith })

-- ---- a loop over the steps

pub length-actions : (r : Rule) → r.len ≤ length r.steps → length (actions_in r) ≡ r.len
length-actions r h = length-map (take r.len r.steps) action_of ∙ length-take-le r.len r.steps h

pub action-at : (r : Rule) (k : ℕ) (d : Step) → r.len ≤ length r.steps → k < r.len → action_of (get_or r.steps k d) ≡ get_or (actions_in r) k Idle
action-at r k d h l =
    ap action_of (sym (get_or-take r.len r.steps k d l))
    ∙ sym (get_d-mapped action_of (take r.len r.steps) k d Idle (omega (arith, length-take-le r.len r.steps h)))

-- p is where the first k actions lead
pub record Ran (v : View) (x : ℕ) (actions : List Action) (k : ℕ) (p : Progress) : Type 0 where
  pub is : run_in p ≡ bare_run_to v x actions k
  pub len : p.len ≤ product_to actions k
  pub emitted : p.emitted ≤ emitted_to actions k
  pub tries : p.tries ≤ k * 40800

module _ (v : View) (x : ℕ) (actions : List Action) where
  pub ran-start : (p : Progress) → p.len ≡ 0 → p.emitted ≡ 0 → p.tries ≡ 0 → Ran v x actions 0 p
  unfolding bare_run_to
  ran-start p l e t = record { is = rw (l, e, t) refl; len = omega arith; emitted = omega arith; tries = omega arith }

  product-mono : (a : Action) (p q : ℕ) → p ≤ q → product_after p a ≤ product_after q a
  unfolding product_after
  product-mono (Take b) p q h = omega arith
  product-mono (Select mode n t) p q h = mul-le-mul_right n h
  product-mono Emit p q h = h
  product-mono Idle p q h = h

  added-mono : (a : Action) (p q : ℕ) → p ≤ q → added_by p a ≤ added_by q a
  unfolding added_by
  added-mono (Take b) p q h = omega arith
  added-mono (Select mode n t) p q h = omega arith
  added-mono Emit p q h = h
  added-mono Idle p q h = omega arith

  pub ran-more : (k : ℕ) (p q : Progress) (a : Action) → a ≡ get_or actions k Idle → Ran v x actions k p → Acted v x p a q → Ran v x actions (k + 1) q
  unfolding bare_run_to product_to emitted_to
  ran-more k p q a e r t =
      rw (add-one k)
      (record {
        is = t.0 ∙ rw (e, r.is);
        len = rw (← e) (omega (arith, t.1.len, product-mono a p.len (product_to actions k) r.len));
        emitted = rw (← e) (omega (arith, t.1.emitted, r.emitted, added-mono a p.len (product_to actions k) r.len));
        tries = omega (arith, t.1.tries, r.tries);
      })

-- where the rule is kept to, the next action can be done
module _ {plan values : List ℕ} {actions : List Action} (sound : Sound plan) (ready : Ready plan values actions) (x : ℕ) where
  abbrev v : View
  v = view_in plan values

  pub doable : (k : ℕ) (p : Progress) (a : Action) → k < length actions → a ≡ get_or actions k Idle → Ran v x actions k p → Doable p a
  doable k p a h e r = go a (rw (← e) at (ready.ruled.keeps k h))
    where
      go : (b : Action) → Keeps plan (product_to actions k) (emitted_to actions k) (reached_to plan actions k) b → Doable p b
      go (Take b) q = q.0
      go (Select mode n t) q = (
        q.0,
        q.1,
        omega (arith, mul-le-mul_right n r.len, q.2),
        working-workable sound ready x k (run_in p) (omega arith) r.is q.3,
        q.4,
      )
      go Emit q = omega (arith, q.0, r.len, r.emitted)
      go Idle q = tt
