-- `loaded::day::group_of` meets its contract: the hash of the show and the day, by the groups. Assumes nothing.
use mathlib.Core.Path.{◌≡◌, refl}
use Prim.Native.Nat.{◌%◌}
use native.Mathlib.Omega.{arith}
use Rattle.definitions.specs.Map.{map_of}
use Rattle.definitions.specs.View.{view_of}
use Rattle.definitions.specs.Writing.{day_group}
use Rattle.laws.specs.Loadable.{ranged-is}
use Rattle.text.specs.Loading.{loaded}
use Rattle.loaded.specs.Day.{day-below}
use Rattle.loaded.proofs.day.group_of.Goals as goal

pub nonzero_rem-result : goal.nonzero_rem-result
nonzero_rem-result c =
    let e = rw c.text.view_is at c.groups-g.ensures in
    omega (arith, e, (ranged-is _ (loaded _ c.requires).ranged).least)

pub returns : goal.returns
unfolding day_group view_of
returns c =
    let a = c.args in
    let e = rw c.text.view_is at c.groups-g.ensures in
    let p : c.hash2.result % c.groups-g.result ≡ day_group (map_of a.text.now) a.show a.day = rw (c.hash2.ensures, e) refl in
    (p, rw p (day-below a.text.now a.show a.day c.requires))
