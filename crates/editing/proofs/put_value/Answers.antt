-- `editing::put_value` meets its contract: the device at k is the edit's, so the text is that of the edited map, behind a
-- weight with the weights of the buckets. Assumes nothing.
use Rattle.std.proofs.Common.{ap, ◌∙◌, Some}
use Rattle.definitions.specs.Map.{map_of}
use Rattle.text.specs.Edit.{edited-shape}
use Rattle.text.specs.Loading.{loaded}
use Rattle.editing.specs.Fitting.{accepts-at, weighs-at, accepts-put, weighs-put, weighs-counts, weighs-numbered, no-change-nowhere}
use Rattle.editing.proofs.put_value.Goals as goal

pub put_acceptance-requires : goal.put_acceptance-requires
put_acceptance-requires c =
    ((loaded _ c.requires.map_value.0).framed, (accepts-at (map_of c.args.map.now) c.args.c _ _ c.args.k c.requires.map_value.3 (c.in-Some.is ∙ ap Some c.in-Acceptance.is)).0)

pub put_weight-requires : goal.put_weight-requires
put_weight-requires c =
    ((loaded _ c.requires.map_value.0).framed, (weighs-at (map_of c.args.map.now) c.args.c _ _ c.args.k c.requires.map_value.3 (c.in-Some.is ∙ ap Some c.in-Weight.is)).0)

pub put_sums-requires : goal.put_sums-requires
put_sums-requires c =
    let t = c.args.map.now in
    let E = c.put_weight.ensures in
    let l = loaded t c.requires.map_value.0 in (
      E.framed,
      edited-shape t _ c.args.s _ l.framed c.requires.map_value.1 E (weighs-counts (map_of t) c.args.k _ l.ranged),
      weighs-numbered (map_of t) c.args.k _ l.ranged _ _ c.requires.tabled.size E.holds,
    )

pub returns-in-Acceptance : goal.returns-in-Acceptance
returns-in-Acceptance c =
    accepts-put (map_of c.args.map.now) c.args.c _ _ c.args.k c.requires.map_value.3 _ (c.in-Some.is ∙ ap Some c.in-Acceptance.is) (loaded _ c.requires.map_value.0).rising c.put_acceptance.ensures

pub returns-in-Weight : goal.returns-in-Weight
returns-in-Weight c =
    weighs-put (map_of c.args.map.now) c.args.c _ _ c.args.k c.requires.map_value.3 _ _ c.args.loads.now (c.in-Some.is ∙ ap Some c.in-Weight.is) (loaded _ c.requires.map_value.0).rising c.put_weight.ensures c.requires.tabled c.put_sums.ensures

pub returns-in_default : goal.returns-in_default
returns-in_default c = absurd (no-change-nowhere (map_of c.args.map.now) c.args.c c.args.k c.in_default.is c.requires.map_value.3)
