-- `placement::rule::place_row` meets its contract: the list of the run is written over the row. Assumes nothing.
use mathlib.Core.Path.{◌≡◌, sym}
use Prim.Native.Nat.{◌≤◌}
use native.Mathlib.Omega.{arith}
use borrow.Author.Rules.{rules}
use lib.ListN.{length}
use lib.Seq.{length-take-le}
use Rattle.hierarchy.specs.Arrays.{view_in, actions_in}
use Rattle.placement.specs.Bare.{bare_run_to}
use Rattle.placement.specs.Working.{list-small}
use Rattle.placement.specs.Progress.{run_in, length-actions}
use Rattle.placement.specs.Row.{row_of}
use Rattle.placement.proofs.rule.place_row.Goals as goal
use Rattle.placement.proofs.rule.place_row.Goals.{After-run-p}

-- the list is within its array
within : (c : After-run-p) → c.run-p.result.emitted ≤ length c.run-p.result.list
within c =
    let w : length c.run-p.result.list ≡ 32 = search (rules, c.run-p.type_inv) in
    omega (arith, w, c.run-p.result.emitted_bound)

pub slice_bounds-list-end : goal.slice_bounds-list-end
slice_bounds-list-end c = within (goal.at.slice_bounds-list-end c).After-run-p

pub slice_bounds-write_row-end : goal.slice_bounds-write_row-end
slice_bounds-write_row-end c = let r = c.run-p.result in sym (length-take-le r.emitted r.list (within (goal.at.slice_bounds-write_row-end c).After-run-p))

pub write_row-requires : goal.write_row-requires
write_row-requires c =
    let p = c.run-p.result in
    let a = c.args in
    let e = c.run-p.ensures in
    let w : length a.rule.steps ≡ 16 = search (rules, c.well_formed) in
    let n = length-actions a.rule (omega (arith, w, c.requires.len_bound.0)) in (
      list-small (rw c.plan.view_is at c.plan.invariant) c.requires.len_bound.1 a.x a.rule.len (run_in p) (omega (arith, n)) e.0,
      omega (arith, length-take-le p.emitted p.list (within (goal.at.write_row-requires c).After-run-p), e.1, c.requires.len_in_bounds),
    )

pub returns : goal.returns
returns c =
    let a = c.args in
    let e = c.run-p.ensures in
    row_of (length a.row.now) _ (run_in c.run-p.result) (bare_run_to (view_in a.plan.now a.values.now) a.x (actions_in a.rule) a.rule.len) e.0 c.write_row.ensures
