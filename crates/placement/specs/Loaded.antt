-- The rule and the view of a loadable map are such that its groups can be placed. Assumes nothing.
use Rattle.std.specs.Prelude.{◌≡◌, refl, true, List, ℕ, suc, ◌+◌, ◌<◌, ◌≤◌, length, get_or}
use Rattle.std.proofs.Common.{sym, ap, ◌∙◌, subst, arith, le-leb, ltb-true}
use Rattle.definitions.specs.declared.Action.{Action}
use Rattle.definitions.specs.declared.Action.TheVariants.{Select, Idle}
use Rattle.definitions.specs.declared.Mode.{Mode}
use Rattle.definitions.specs.declared.Standing.{Standing}
use Rattle.definitions.specs.declared.Standing.TheVariants.{Inside}
use Rattle.definitions.specs.Map.{Map, bucket_number, actions_of}
use Rattle.definitions.specs.View.{View, type_by, type_of, view_of}
use Rattle.definitions.specs.Select.{entries_of}
use Rattle.definitions.specs.Rule.{width_of, placed_of}
use Rattle.definitions.specs.Load.{has_item, takes_present, standing, through_typed, typed}
use Rattle.laws.specs.Lists.{every-at}
use Rattle.laws.specs.Loadable.{Loadable, present-is, slim-is}
use Rattle.laws.specs.Blocks.{InOrder, takes, selects, emits, length-actions, step-in-order, reached-inside}
use Rattle.laws.specs.Found.{present-typed, drawn-present}
use Rattle.hierarchy.specs.Arrays.{bucket_type_in, types_in, view_in, Flagged}
use Rattle.walk.specs.Searches.{Inward}
use Rattle.blocks.specs.Actions.{ActionRanged, action-ranged}
use Rattle.blocks.specs.Standing.{TypesOf}
use Rattle.blocks.specs.Products.{product_to, emitted_to, product_after, product_small, sum-small, emitted-all}
use Rattle.placement.specs.Ruled.{reached_to, Keeps, Ruled, Grounded, Ready}
use Rattle.placement.specs.Bare.{BareRun, bare_run_to, bare_run, filled_up, list-bare, tries-bare}

-- a bucket that is drawn is present, and so has a type above 0
pub grounded : (m : Map) → Loadable m → Grounded (view_of m)
unfolding view_of has_item type_of type_by
grounded m L =
    record {
      above = λ x r b i e h. rw (le-leb 65536 i h) (present-typed m L (bucket_number i) (rw (le-leb 65536 i h) at (drawn-present m L x i (r, b, e))));
    }

-- by question 21 a select through has a type above 0
typed-inward : (mode : Mode) (n t : ℕ) → through_typed (Select mode n t) ≡ true → Inward mode t
unfolding through_typed
typed-inward mode n t y e = ltb-true 0 t (rw e at y)

module _ (m : Map) (L : Loadable m) (plan : List ℕ) (of : TypesOf m (types_in plan)) where
  ranged-step : (k : ℕ) → k < length (actions_of m) → ActionRanged (get_or (actions_of m) k Idle)
  ranged-step k h = action-ranged m k (get_or (actions_of m) k Idle) L.ranged (omega (arith, length-actions m)) refl

  -- inside a block the type reached is that at which the rule stands
  reached-stand : (k u : ℕ) → k ≤ length (actions_of m) → standing m k ≡ Inside u → reached_to plan (actions_of m) k ≡ u
  reached-stand = reached-inside m L.in_blocks (λ (b : ℕ). bucket_type_in plan b) (λ k b h e. of b (rw e at (ranged-step k h)))

  -- what a step keeps to, by how it keeps to the order
  keeps-in-order : {st st' : Standing} {a : Action} (p e t : ℕ) → InOrder m st a st' → ActionRanged a → takes_present m a ≡ true → through_typed a ≡ true
      → ((u : ℕ) → st ≡ Inside u → (t ≡ u) × (e + p ≤ 32)) → product_after p a ≤ 16 → Keeps plan p e t a
  unfolding takes_present product_after
  keeps-in-order p e t (takes {b}) r k y i w = (r, omega (arith, of b r, present-typed m L b k))
  keeps-in-order p e t (selects {u} {n} {t = s} {mode} l) r k y i w = (r.0, r.1, w, omega (arith, (i u refl).0), typed-inward mode n s y)
  keeps-in-order p e t emits r k y i w = ((i 0 refl).1, (i 0 refl).0)

  pub ruled : Ruled plan (actions_of m)
  unfolding product_to typed
  ruled =
      record {
        keeps = λ k h.
            let xs = actions_of m in
            keeps-in-order (product_to xs k) (emitted_to xs k) (reached_to plan xs k) (step-in-order m L.in_blocks k h) (ranged-step k h)
            (every-at (takes_present m) xs k Idle (present-is m L.present).takes h) (every-at through_typed xs k Idle L.typed h)
            (λ u e. (reached-stand k u (omega arith) e, sum-small m L.ranged L.in_blocks L.slim k u (omega arith) e))
            (product_small m L.ranged L.in_blocks L.slim (suc k) (omega arith));
      }

-- what is emitted in all is W, which is 32 at most
pub width_is : (m : Map) → Loadable m → (emitted_to (actions_of m) (length (actions_of m)) ≡ width_of m) × (width_of m ≤ 32)
width_is m L = (emitted-all m, (slim-is m L.slim).width)

-- arrays that give the view of a loadable map are ready
pub ready : (m : Map) → Loadable m → (plan values : List ℕ) → TypesOf m (types_in plan) → view_in plan values ≡ view_of m
    → Flagged plan values → Ready plan values (actions_of m)
ready m L plan values of e f = record { flagged = f; grounded = subst Grounded (sym e) (grounded m L); ruled = ruled m L plan of }

-- and what is placed by them is the group's list and its tries
pub placed-is : (m : Map) (x : ℕ) (v : View) (actions : List Action) (n : ℕ) → v ≡ view_of m → actions ≡ actions_of m → n ≡ length actions
    → (filled_up (width_of m) (bare_run_to v x actions n).list ≡ entries_of (placed_of m x).places) × ((bare_run_to v x actions n).tries ≡ (placed_of m x).tries)
placed-is m x v actions n e f g =
    let r : bare_run_to v x actions n ≡ bare_run m x = ap (λ (w : View). bare_run_to w x actions n) e
    ∙ ap (λ (l : List Action). bare_run_to (view_of m) x l n) f
    ∙ ap (bare_run_to (view_of m) x (actions_of m)) (g ∙ ap (λ (l : List Action). length l) f) in
    (ap (λ (s : BareRun). filled_up (width_of m) s.list) r ∙ sym (list-bare m x), ap (λ (s : BareRun). s.tries) r ∙ sym (tries-bare m x))
