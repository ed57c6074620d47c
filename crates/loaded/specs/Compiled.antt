-- What the plan, the values and the rule compiled from a map's text are good for: placing any group by them gives the map's own list.
-- Assumes nothing.
use Rattle.std.specs.Prelude.{◌≡◌, List, ℕ, ◌≤◌, length}
use Rattle.std.proofs.Math.Path.{sym, ap}
use Rattle.std.proofs.Common.{◌∙◌, subst}
use native.Mathlib.Omega.{arith}
use Rattle.std.proofs.lemmas.List.{length-map}
use Rattle.definitions.specs.declared.Action.{Action}
use Rattle.definitions.specs.Map.{Map, bucket_item, bucket_number, action_of, actions_of}
use Rattle.definitions.specs.View.{View, view_of}
use Rattle.definitions.specs.Rule.{width_of}
use Rattle.laws.specs.Loadable.{Loadable}
use Rattle.laws.specs.Forest as forest
use Rattle.hierarchy.specs.declared.Rule.{Rule}
use Rattle.hierarchy.specs.Arrays.{types_in, bucket_type_in, view_in, Flagged, actions_in}
use Rattle.descent.specs.Descent as descent
use Rattle.blocks.specs.Standing.{TypesOf}
use Rattle.blocks.specs.Products.{emitted_to}
use Rattle.placement.specs.Ruled.{Ready}
use Rattle.placement.specs.Loaded.{ready, width_is}

-- they are map m
pub record Compiled (m : Map) (plan values : List ℕ) (rule : Rule) : Type 0 where
  pub view : view_in plan values ≡ view_of m
  pub flagged : Flagged plan values
  pub actions : actions_in rule ≡ actions_of m
  pub len : rule.len ≡ length (actions_in rule)
  pub few : rule.len ≤ 16

-- from what `compile` ensures: the rule is read from map m, whose rule is that of m'
pub compiled-from : (m m' : Map) (plan values : List ℕ) (rule : Rule) → actions_of m ≡ actions_of m' → view_in plan values ≡ view_of m' → Flagged plan values
    → (actions_in rule ≡ actions_of m) × (rule.len ≡ length m.steps) × (rule.len ≤ 16) → Compiled m' plan values rule
unfolding actions_of
compiled-from m m' plan values rule e v f r =
    record {
      view = v;
      flagged = f;
      actions = r.0 ∙ e;
      len = r.1 ∙ sym (ap (λ (l : List Action). length l) r.0 ∙ length-map m.steps action_of);
      few = r.2;
    }

module _ (m : Map) (plan values : List ℕ) (rule : Rule) (L : Loadable m) (C : Compiled m plan values rule) where
  types_of : TypesOf m (types_in plan)
  unfolding view_of
  types_of b l =
      let z : bucket_number (bucket_item b) ≡ b = omega arith in
      ap (bucket_type_in plan) (sym z) ∙ sym (descent.type-bucket plan (bucket_item b) (omega arith))
      ∙ ap (λ (v : View). v.type (bucket_item b)) C.view ∙ forest.type-bucket m b

  compiled-ready : Ready plan values (actions_in rule)
  compiled-ready = subst (Ready plan values) (sym C.actions) (ready m L plan values types_of C.view C.flagged)

  pub compiled-width : emitted_to (actions_in rule) rule.len ≡ width_of m
  compiled-width =
      ap (emitted_to (actions_in rule)) C.len ∙ ap (λ (l : List Action). emitted_to l (length l)) C.actions ∙ (width_is m L).0

  -- it can be run, for rows as wide as its own
  pub compiled-runs : (w : ℕ) → w ≡ width_of m → (rule.len ≤ 16) × Ready plan values (actions_in rule) × (emitted_to (actions_in rule) rule.len ≤ w) × (w ≤ 32)
  compiled-runs w e = (C.few, compiled-ready, omega (arith, compiled-width, e), omega (arith, (width_is m L).1, e))
