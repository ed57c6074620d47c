-- `causes::joint::place_both` meets its contract: the list of both runs is written over the row. Assumes nothing.
use Rattle.std.proofs.Common.{◌≡◌, length, length-take-le, arith}
use borrow.Author.Rules.{rules}
use Rattle.placement.specs.Working.{list-small}
use Rattle.placement.specs.Progress.{run_in, length-actions}
use Rattle.causes.proofs.joint.place_both.Goals as goal

pub write_row-requires : goal.write_row-requires
write_row-requires c =
    let a = c.args in
    let p = c.in-Ok.p in
    let k = c.in-Ok.ensures in
    let w : length a.rule.steps ≡ 16 = search rules in
    let l : length p.list ≡ 32 = search rules in
    let n = length-actions a.rule (omega (arith, w, c.requires.len_bound.0)) in (
      list-small (rw c.plan.view_is at c.plan.invariant) c.requires.len_bound.1 a.x a.rule.len (run_in p) (omega (arith, n)) k.0,
      omega (arith, length-take-le p.emitted p.list (omega (arith, l, p.emitted_bound)), k.2, c.requires.len_in_bounds),
    )
