-- `engine::asked::rows_of` meets its contract. Assumes nothing.
use Rattle.std.proofs.Common.{◌*◌, ◌≤◌, ap₂, arith, mul-le-mul}
use Rattle.laws.specs.Loadable.{in_blocks_lem, ranged-is}
use Rattle.text.specs.Loading.{loaded}
use Rattle.engine.proofs.asked.rows_of.Goals as goal

pub width-width-requires : goal.width-width-requires
width-width-requires c =
    let l = loaded _ c.requires in
    record { ranged = l.ranged; t_len_bound = ((in_blocks_lem _ l.in_blocks).most, l.slim) }

pub overflow_mul-result : goal.overflow_mul-result
overflow_mul-result c =
    let e = rw c.text.view_is at c.groups-groups.ensures in
    let g : c.groups-groups.result ≤ 65536 = omega (arith, e, (ranged-is _ (loaded _ c.requires).ranged).most) in
    omega (arith, mul-le-mul g c.width-width.ensures.1)

pub returns : goal.returns
returns c =
    let e = rw c.text.view_is at c.groups-groups.ensures in record {
      groups = e;
      width = c.width-width.ensures.0;
      narrow = c.width-width.ensures.1;
      few = omega (arith, e, (ranged-is _ (loaded _ c.requires).ranged).most);
      places = ap₂ ◌*◌ e c.width-width.ensures.0;
    }
