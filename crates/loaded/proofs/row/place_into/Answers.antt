-- `loaded::row::place_into` meets its contract: the arrays are the map's, and the row that they give is the group's list. Assumes nothing.
use mathlib.Core.Path.{refl, ap, ◌∙◌}
use Prim.Native.Nat.{ℕ}
use Rattle.definitions.specs.Map.{map_of}
use Rattle.definitions.specs.View.{view_of}
use Rattle.text.specs.Agreement.{loaded-map}
use Rattle.compile.specs.Reading.{no-edit}
use Rattle.hierarchy.specs.Arrays.{view_in, actions_in}
use Rattle.placement.specs.Bare.{filled_up, bare_run_to}
use Rattle.placement.specs.Loaded.{placed-is}
use Rattle.loaded.specs.Compiled.{Compiled, compiled-from, compiled-runs}
use Rattle.loaded.proofs.row.place_into.Goals as goal

pub compile-h-requires : goal.compile-h-requires
compile-h-requires c =
    record { loads = c.requires.0; loadable = rw (no-edit _) (loaded-map _ c.requires.0) }

pub place_row-requires : goal.place_row-requires
place_row-requires c =
    let h = c.compile-h.result in
    let e = c.compile-h.ensures in
    let C : Compiled (map_of c.args.text.now) h.plan h.values h.rule =
    compiled-from _ _ _ _ _ refl (e.values_value ∙ ap view_of (no-edit _)) e.flagged e.rule_value in
    let R = compiled-runs _ _ _ _ (loaded-map _ c.requires.0) C _ c.requires.1 in
    record { len_bound = (R.0, R.1); len_in_bounds = R.2 }

pub returns : goal.returns
returns c =
    let h = c.compile-h.result in
    let e = c.compile-h.ensures in
    let C : Compiled (map_of c.args.text.now) h.plan h.values h.rule =
    compiled-from _ _ _ _ _ refl (e.values_value ∙ ap view_of (no-edit _)) e.flagged e.rule_value in
    let v = view_in h.plan h.values in
    let n = h.rule.len in
    let p = placed-is (map_of c.args.text.now) c.args.x v (actions_in h.rule) n C.view C.actions C.len in (
      c.place_row.ensures.0 ∙ ap (λ (w : ℕ). filled_up w (bare_run_to v c.args.x (actions_in h.rule) n).list) c.requires.1 ∙ p.0,
      c.place_row.ensures.1 ∙ p.1,
    )
