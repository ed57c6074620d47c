-- The plan, the rule and the values of a map before an edit or a return and after it. Assumes nothing.
use Rattle.std.specs.Prelude.{◌≡◌, refl, true, List, ℕ, ◌≤◌, length, Option, None}
use Rattle.std.proofs.Common.{sym, ap, ◌∙◌}
use Rattle.definitions.specs.declared.Change.{Change}
use Rattle.definitions.specs.Map.{Map, actions_of}
use Rattle.definitions.specs.View.{view_of}
use Rattle.definitions.specs.Rule.{width_of}
use Rattle.definitions.specs.Edit.{put}
use Rattle.definitions.specs.Calls.{independent, fits}
use Rattle.laws.specs.Loadable.{Loadable, put-loadable, put-groups, put-width}
use Rattle.hierarchy.specs.declared.Rule.{Rule}
use Rattle.hierarchy.specs.Arrays.{view_in, Flagged, actions_in}
use Rattle.hierarchy.specs.Tables.{Tabled}
use Rattle.compile.specs.Reading.{no-edit}
use Rattle.compile.specs.Weighing.{bucket_weight}
use Rattle.tracing.specs.Edited.{put-independent}
use Rattle.survey.specs.Places.{Runs}
use Rattle.survey.specs.Between.{Between}
use Rattle.editing.specs.declared.Pair.{Pair}
use Rattle.loaded.specs.Compiled.{Compiled, compiled-from, compiled-runs}

-- with the old values they are map m, and with the new ones map m'; the loads are the weights of its buckets
pub record Paired (m m' : Map) (p : Pair) : Type 0 where
  pub old : Compiled m p.plan p.old p.rule
  pub new : Compiled m' p.plan p.new p.rule
  pub loads : Tabled p.loads 256 (bucket_weight m')

-- from what is ensured of each values, and of the rule, which both have
pub paired : (m m' : Map) (plan old new loads : List ℕ) (rule : Rule) → actions_of m ≡ actions_of m' → view_in plan old ≡ view_of (put m None)
    → view_in plan new ≡ view_of m' → Tabled loads 256 (bucket_weight m') → Flagged plan old → Flagged plan new
    → (actions_in rule ≡ actions_of m) × (rule.len ≡ length m.steps) × (rule.len ≤ 16)
    → Paired m m' (record { plan = plan; old = old; new = new; loads = loads; rule = rule })
paired m m' plan old new loads rule a e e' l f f' r =
    record {
      old = compiled-from m m plan old rule refl (e ∙ ap view_of (no-edit m)) f r;
      new = compiled-from m m' plan new rule a e' f' r;
      loads = l;
    }

-- what is known of the two maps
pub record Asked (m m' : Map) (k w : ℕ) : Type 0 where
  pub loadable : Loadable m
  pub loadable' : Loadable m'
  pub only : independent m ≡ true
  pub only' : independent m' ≡ independent m
  pub groups : k ≡ m.groups
  pub groups' : m'.groups ≡ m.groups
  pub width : w ≡ width_of m
  pub width' : width_of m' ≡ width_of m

-- of an edit that fits
pub asked-edit : (m : Map) (c : Option Change) (k w : ℕ) → Loadable m → fits m c ≡ true → independent m ≡ true → k ≡ m.groups → w ≡ width_of m
    → Asked m (put m c) k w
asked-edit m c k w L f i g e =
    record {
      loadable = L;
      loadable' = put-loadable m c L f;
      only = i;
      only' = put-independent m c;
      groups = g;
      groups' = put-groups m c;
      width = e;
      width' = put-width m c;
    }

module _ (m m' : Map) (k w : ℕ) (p : Pair) (P : Paired m m' p) (A : Asked m m' k w) where
  pub between : Between p.plan p.old p.new p.rule k w m m'
  between =
      record {
        view = sym P.old.view;
        view' = sym P.new.view;
        actions = sym P.old.actions;
        actions' = sym P.new.actions;
        steps = sym P.old.len;
        groups = sym A.groups;
        groups' = A.groups' ∙ sym A.groups;
        width = sym A.width;
        width' = A.width' ∙ sym A.width;
        loadable = A.loadable;
        loadable' = A.loadable';
        only = A.only;
        only' = A.only' ∙ A.only;
      }

  -- both can be run
  pub both_run : Runs p.plan p.old p.rule w × Runs p.plan p.new p.rule w
  both_run = (
    compiled-runs m p.plan p.old p.rule A.loadable P.old w A.width,
    compiled-runs m' p.plan p.new p.rule A.loadable' P.new w (A.width ∙ sym A.width'),
  )
