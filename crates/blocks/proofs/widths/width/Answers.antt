-- `blocks::widths::width` meets its contract: of a slim map the sum is W. Assumes nothing.
use mathlib.Core.Path.{◌≡◌}
use native.Mathlib.Omega.{arith}
use Rattle.definitions.specs.Map.{map_of}
use Rattle.definitions.specs.Rule.{width_of}
use Rattle.laws.specs.Loadable.{slim-is}
use Rattle.blocks.proofs.widths.width.Goals as goal

pub returns : goal.returns
returns c =
    let m = map_of c.args.t.now in
    let e : c.whole.result ≡ width_of m = c.whole.ensures.width c.requires.t_len_bound.1 in
    (e, omega (arith, (slim-is m c.requires.t_len_bound.1).width))
