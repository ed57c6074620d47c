-- `returning::put_state` meets its contract: the drives' values, then the weights of the buckets. Assumes nothing.
use mathlib.Core.Path.{ap, subst, ◌∙◌}
use Prim.Native.Nat.{ℕ}
use native.Mathlib.Omega.{arith}
use lib.ListN.{drop}
use Rattle.definitions.specs.Map.{map_of}
use Rattle.definitions.specs.Edit.{with_devices}
use Rattle.definitions.specs.States.{drives_in, numbers_of}
use Rattle.text.specs.Edit.{Edited, edited-shape}
use Rattle.text.specs.Loading.{loaded}
use Rattle.text.specs.Records.{shape-devices}
use Rattle.returning.specs.Returning.{values-counts, values-numbered, values-put}
use Rattle.returning.proofs.put_state.Goals as goal

pub put_values-requires : goal.put_values-requires
put_values-requires c =
    let p = c.requires.map_value in
    let n = shape-devices _ _ p.1 in
    record {
      framed = ((loaded _ p.0).framed, n);
      n_in_bounds = (omega (arith, p.2.inside, n), p.2.short);
      s_value = ap (λ (n : ℕ). numbers_of (drives_in n (drop c.args.a c.args.states.now))) n ∙ p.2.drives;
    }

pub put_sums-requires : goal.put_sums-requires
put_sums-requires c =
    let m = map_of c.args.map.now in
    let p = c.requires.map_value in
    let E =
    subst (λ (n : ℕ). Edited c.put_values.new.t (with_devices m (drives_in n (drop c.args.a c.args.states.now))))
    (shape-devices _ _ p.1) c.put_values.ensures in
    let l = loaded c.args.map.now p.0 in (
      E.framed,
      edited-shape c.args.map.now _ c.args.s _ l.framed p.1 E (values-counts m c.args.states.now c.args.a p.2),
      values-numbered m c.args.states.now c.args.a p.2 l.ranged _ _ c.requires.tabled.size E.holds,
    )

pub returns : goal.returns
returns c =
    let m = map_of c.args.map.now in
    let p = c.requires.map_value in
    let E =
    subst (λ (n : ℕ). Edited c.put_values.new.t (with_devices m (drives_in n (drop c.args.a c.args.states.now))))
    (shape-devices _ _ p.1) c.put_values.ensures in
    values-put m c.args.states.now c.args.a p.2 _ _ c.args.loads.now E c.requires.tabled c.put_sums.ensures
