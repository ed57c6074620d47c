-- `editing::pair_of` meets its contract: over one plan the values give both views. Assumes nothing.
use Rattle.std.proofs.Common.{sym}
use Rattle.definitions.specs.Map.{map_of}
use Rattle.definitions.specs.Edit.{put}
use Rattle.laws.specs.Loadable.{put-loadable, put-actions}
use Rattle.text.specs.Agreement.{loaded-map}
use Rattle.compile.specs.Reading.{no-edit}
use Rattle.editing.specs.Paired.{paired}
use Rattle.editing.proofs.pair_of.Goals as goal

pub compile-before-requires : goal.compile-before-requires
compile-before-requires c = record { loads = c.requires.0; loadable = rw (no-edit (map_of c.args.text.now)) (loaded-map _ c.requires.0) }

pub goes_through-requires : goal.goes_through-requires
goes_through-requires c = c.compile-before.ensures.rule_value.2

pub weigh-after-requires : goal.weigh-after-requires
weigh-after-requires c =
    record { loadable = put-loadable _ c.args.c (loaded-map _ c.requires.0) c.requires.1; planned = c.compile-before.ensures.planned }

pub returns : goal.returns
returns c =
    let m = map_of c.args.text.now in
    let w = c.compile-before.ensures in
    let v = c.weigh-after.ensures in
    rw c.new.ensures
    (paired m (put m c.args.c) _ _ _ _ _ (sym (put-actions m c.args.c)) w.values_value v.values_value v.tabled w.flagged v.flagged w.rule_value)
