-- `compile::devices::devices_of` meets its contract. Assumes nothing.
use Rattle.std.proofs.Common.{refl, sym, ◌∙◌, rules}
use Rattle.definitions.specs.Map.{map_of}
use Rattle.definitions.specs.Edit.{put}
use Rattle.laws.specs.Loadable.{ranged-is, put-length}
use Rattle.compile.proofs.devices.devices_of.Goals as goal

pub tabled-requires-clause-ranged : goal.tabled-requires-clause-ranged
tabled-requires-clause-ranged c =
    let m = map_of c.args.text.now in
    let n = put m c.args.c in
    (n.devices, (c.count.ensures ∙ sym (put-length m c.args.c), λ k h d p. search rules), (ranged-is n c.requires.ranged).devices)

pub returns : goal.returns
returns c =
    let m = map_of c.args.text.now in
    let n = put m c.args.c in
    let (w, a) = c.tabled.ensures n.devices (c.count.ensures ∙ sym (put-length m c.args.c), λ k h d p. search rules) (ranged-is n c.requires.ranged).devices n refl in
    record { tabled = w; tabled_2 = a }
