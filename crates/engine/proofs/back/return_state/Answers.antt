-- `engine::back::return_state` meets its contract: 19, 20, then the moves, the rows and the drives' values. Assumes nothing.
use Rattle.std.proofs.Common.{refl, leb-true, leb-false}
use Rattle.definitions.specs.Map.{map_of}
use Rattle.text.specs.Loading.{loaded}
use Rattle.text.specs.Agreement.{loaded-map}
use Rattle.survey.specs.Between.{selects, old-long, new-long}
use Rattle.editing.specs.Paired.{between, both_run}
use Rattle.returning.specs.Returning.{returned_to, asked-return}
use Rattle.engine.specs.Returns.{stale, short, done}
use Rattle.engine.specs.Rows.{stopped, room-of}
use Rattle.engine.proofs.back.return_state.Goals as goal

pub invariant_of-text : goal.invariant_of-text
invariant_of-text c =
    let (x, A) = c.requires in
    ((loaded _ A.loads).framed, A.shape)

pub survey-requires-clause-runs : goal.survey-requires-clause-runs
survey-requires-clause-runs c =
    let (x, A) = c.requires in
    let m = map_of c.args.map.now in
    let n = returned_to m c.args.states.now c.args.a.drives in
    let P = c.pair_in-p.ensures in
    let asked = asked-return m c.args.states.now c.args.a.drives A.spelt _ _ (loaded-map _ A.loads) A.only A.rows.groups A.rows.width in
    both_run m n _ _ c.pair_in-p.result P asked

pub apply-requires-clause-runs : goal.apply-requires-clause-runs
apply-requires-clause-runs c =
    let (x, A) = c.requires in
    let m = map_of c.args.map.now in
    let n = returned_to m c.args.states.now c.args.a.drives in
    let P = c.pair_in-p.ensures in
    let asked = asked-return m c.args.states.now c.args.a.drives A.spelt _ _ (loaded-map _ A.loads) A.only A.rows.groups A.rows.width in
    let maps = between m n _ _ c.pair_in-p.result P asked in
    let r = both_run m n _ _ c.pair_in-p.result P asked in
    (r.0, r.1, selects m n maps)

pub apply-requires-clause-long : goal.apply-requires-clause-long
apply-requires-clause-long c =
    let (x, A) = c.requires in
    let m = map_of c.args.map.now in
    let n = returned_to m c.args.states.now c.args.a.drives in
    let P = c.pair_in-p.ensures in
    let asked = asked-return m c.args.states.now c.args.a.drives A.spelt _ _ (loaded-map _ A.loads) A.only A.rows.groups A.rows.width in
    let maps = between m n _ _ c.pair_in-p.result P asked in
    (old-long m n maps, new-long m n maps)

pub apply-requires-clause-table_value : goal.apply-requires-clause-table_value
apply-requires-clause-table_value c = c.in-Some.ensures.surveyed.rows

pub returns-in_default : goal.returns-in_default
returns-in_default c = λ x A.
    let m = map_of c.args.map.now in
    let n = returned_to m c.args.states.now c.args.a.drives in
    let P = c.pair_in-p.ensures in
    let asked = asked-return m c.args.states.now c.args.a.drives A.spelt _ _ (loaded-map _ A.loads) A.only A.rows.groups A.rows.width in
    let maps = between m n _ _ c.pair_in-p.result P asked in
    stale c.args.map.now c.args.table.now c.args.states.now x c.args.space.now A.whole (room-of _ _ _ A.rows A.room) A.only A.there (c.in_default.ensures.answers m n maps) _ refl

pub returns-in_err-ask : goal.returns-in_err-ask
returns-in_err-ask c = λ x A.
    let m = map_of c.args.map.now in
    let n = returned_to m c.args.states.now c.args.a.drives in
    let P = c.pair_in-p.ensures in
    let asked = asked-return m c.args.states.now c.args.a.drives A.spelt _ _ (loaded-map _ A.loads) A.only A.rows.groups A.rows.width in
    let maps = between m n _ _ c.pair_in-p.result P asked in
    let h = c.in_err-ask.ensures in
    stopped _ _ _ _ c.from_residual.result c.from_residual.ensures.1 h.1
    (short c.args.map.now c.args.table.now c.args.states.now x c.args.space.now A.whole (room-of _ _ _ A.rows A.room) A.only A.there c.in-Some.found (rw A.drives (c.in-Some.ensures.answers m n maps)) (leb-false _ _ h.0) _ refl)

pub returns : goal.returns
returns c = λ x A.
    let m = map_of c.args.map.now in
    let n = returned_to m c.args.states.now c.args.a.drives in
    let P = c.pair_in-p.ensures in
    let asked = asked-return m c.args.states.now c.args.a.drives A.spelt _ _ (loaded-map _ A.loads) A.only A.rows.groups A.rows.width in
    let maps = between m n _ _ c.pair_in-p.result P asked in
    let w = c.apply.ensures m n maps in
    done c.args.map.now c.args.table.now c.args.states.now x c.args.space.now A.whole (room-of _ _ _ A.rows A.room) A.only A.there c.in-Some.found (rw A.drives (c.in-Some.ensures.answers m n maps)) (leb-true _ _ c.in_ok-ask.ensures) _ _ _
    (rw A.drives c.put_state.ensures) (rw A.drives w.0) (rw A.drives w.1)
