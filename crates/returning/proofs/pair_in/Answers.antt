-- `returning::pair_in` meets its contract: over one plan the values give both views. Assumes nothing.
use Rattle.std.proofs.Common.{sym, arith}
use Rattle.definitions.specs.Map.{map_of}
use Rattle.text.specs.Agreement.{loaded-map}
use Rattle.keeping.specs.Returned.{state-actions}
use Rattle.compile.specs.Reading.{no-edit}
use Rattle.editing.specs.Paired.{paired}
use Rattle.returning.specs.Returning.{drives_at, returned_to, returned-loadable}
use Rattle.returning.proofs.pair_in.Goals as goal

pub compile-before-requires : goal.compile-before-requires
compile-before-requires c = record { loads = c.requires.0; loadable = rw (no-edit (map_of c.args.text.now)) (loaded-map _ c.requires.0) }

pub goes_through-requires : goal.goes_through-requires
goes_through-requires c = c.compile-before.ensures.rule_value.2

pub weigh_state-after-requires : goal.weigh_state-after-requires
weigh_state-after-requires c =
    let m = map_of c.args.text.now in
    let S = c.requires.1 in
    record {
      n_in_bounds = (omega (arith, S.inside, c.count-n.ensures), S.short);
      planned = (m, c.compile-before.ensures.planned, rw c.count-n.ensures (returned-loadable m c.args.states.now c.args.a S (loaded-map _ c.requires.0)));
    }

pub returns : goal.returns
returns c =
    let m = map_of c.args.text.now in
    let ws = c.args.states.now in
    let w = c.compile-before.ensures in
    let v = (rw c.count-n.ensures at c.weigh_state-after.ensures) m w.planned (returned-loadable m ws c.args.a c.requires.1 (loaded-map _ c.requires.0)) in
    rw c.new.ensures
    (paired m (returned_to m ws c.args.a) _ _ _ _ _ (sym (state-actions m (drives_at m ws c.args.a))) w.values_value v.0 v.1 w.flagged v.2 w.rule_value)
