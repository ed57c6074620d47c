-- `engine::edit::edit_device` meets its contract: 19, 20, then the moves, the rows and the value. Assumes nothing.
use Rattle.std.proofs.Common.{refl, sym, leb-true, leb-false}
use Rattle.definitions.specs.Map.{map_of}
use Rattle.definitions.specs.Edit.{put}
use Rattle.text.specs.Loading.{loaded}
use Rattle.text.specs.Agreement.{loaded-map}
use Rattle.survey.specs.Between.{selects, old-long, new-long}
use Rattle.editing.specs.Paired.{asked-edit, between, both_run}
use Rattle.editing.specs.Reaching.{reaches}
use Rattle.engine.specs.Editing.{stale, short, done}
use Rattle.engine.specs.Rows.{stopped, room-of, room-by}
use Rattle.engine.proofs.edit.edit_device.Goals as goal

pub invariant_of-text : goal.invariant_of-text
invariant_of-text c =
    let (e, A) = c.requires in
    ((loaded _ A.loads).framed, A.shape)

pub survey_edit-requires-clause-runs : goal.survey_edit-requires-clause-runs
survey_edit-requires-clause-runs c =
    let (e, A) = c.requires in
    let m = map_of c.args.map.now in
    let n = put m c.args.a.change in
    let P = c.pair_of-p.ensures in
    let asked = asked-edit m c.args.a.change _ _ (loaded-map _ A.loads) A.fits A.only A.rows.groups A.rows.width in
    both_run m n _ _ c.pair_of-p.result P asked

pub survey_edit-requires-clause-groups_bound : goal.survey_edit-requires-clause-groups_bound
survey_edit-requires-clause-groups_bound c =
    let (e, A) = c.requires in
    let m = map_of c.args.map.now in
    let n = put m c.args.a.change in
    let P = c.pair_of-p.ensures in
    let asked = asked-edit m c.args.a.change _ _ (loaded-map _ A.loads) A.fits A.only A.rows.groups A.rows.width in
    (A.rows.few, room-by _ _ _ A.rows A.room, reaches m c.args.a.change _ _ c.pair_of-p.result P asked A.fits)

pub apply-requires-clause-runs : goal.apply-requires-clause-runs
apply-requires-clause-runs c =
    let (e, A) = c.requires in
    let m = map_of c.args.map.now in
    let n = put m c.args.a.change in
    let P = c.pair_of-p.ensures in
    let asked = asked-edit m c.args.a.change _ _ (loaded-map _ A.loads) A.fits A.only A.rows.groups A.rows.width in
    let maps = between m n _ _ c.pair_of-p.result P asked in
    let r = both_run m n _ _ c.pair_of-p.result P asked in
    (r.0, r.1, selects m n maps)

pub apply-requires-clause-long : goal.apply-requires-clause-long
apply-requires-clause-long c =
    let (e, A) = c.requires in
    let m = map_of c.args.map.now in
    let n = put m c.args.a.change in
    let P = c.pair_of-p.ensures in
    let asked = asked-edit m c.args.a.change _ _ (loaded-map _ A.loads) A.fits A.only A.rows.groups A.rows.width in
    let maps = between m n _ _ c.pair_of-p.result P asked in
    (old-long m n maps, new-long m n maps)

pub apply-requires-clause-table_value : goal.apply-requires-clause-table_value
apply-requires-clause-table_value c = c.in-Some.ensures.surveyed.rows

pub returns-in_default : goal.returns-in_default
returns-in_default c = λ e A.
    let m = map_of c.args.map.now in
    let n = put m c.args.a.change in
    let P = c.pair_of-p.ensures in
    let asked = asked-edit m c.args.a.change _ _ (loaded-map _ A.loads) A.fits A.only A.rows.groups A.rows.width in
    let maps = between m n _ _ c.pair_of-p.result P asked in
    stale c.args.map.now c.args.table.now e c.args.space.now c.args.a.change (sym A.change) A.loads (room-of _ _ _ A.rows A.room) A.only A.fits (c.in_default.ensures.answers m n maps) _ refl

pub returns-in_err-ask : goal.returns-in_err-ask
returns-in_err-ask c = λ e A.
    let m = map_of c.args.map.now in
    let n = put m c.args.a.change in
    let P = c.pair_of-p.ensures in
    let asked = asked-edit m c.args.a.change _ _ (loaded-map _ A.loads) A.fits A.only A.rows.groups A.rows.width in
    let maps = between m n _ _ c.pair_of-p.result P asked in
    let h = c.in_err-ask.ensures in
    stopped _ _ _ _ c.from_residual.result c.from_residual.ensures.1 h.1
    (short c.args.map.now c.args.table.now e c.args.space.now c.args.a.change (sym A.change) A.loads (room-of _ _ _ A.rows A.room) A.only A.fits c.in-Some.found (c.in-Some.ensures.answers m n maps) (leb-false _ _ h.0) _ refl)

pub returns : goal.returns
returns c = λ e A.
    let m = map_of c.args.map.now in
    let n = put m c.args.a.change in
    let P = c.pair_of-p.ensures in
    let asked = asked-edit m c.args.a.change _ _ (loaded-map _ A.loads) A.fits A.only A.rows.groups A.rows.width in
    let maps = between m n _ _ c.pair_of-p.result P asked in
    let w = c.apply.ensures m n maps in
    done c.args.map.now c.args.table.now e c.args.space.now c.args.a.change (sym A.change) A.loads (room-of _ _ _ A.rows A.room) A.only A.fits c.in-Some.found (c.in-Some.ensures.answers m n maps) (leb-true _ _ c.in_ok-ask.ensures) _ _ _ c.put_value.ensures w.0 w.1
