-- `members::falling::falling` meets its contract: both items of a link are present, so each level is a type plus 1. Assumes nothing.
use Rattle.std.proofs.Common.{refl}
use Rattle.definitions.specs.Map.{map_of}
use Rattle.definitions.specs.Load.{falling}
use Rattle.laws.specs.Lists.{every-at}
use Rattle.laws.specs.Loadable.{present-is}
use Rattle.text.specs.Records.{no_link}
use Rattle.members.specs.Levels.{link-in}
use Rattle.members.specs.Present.{link_present, link_falls, link-falls}
use Rattle.members.proofs.falling.falling.Goals as goal

pub every-requires : goal.every-requires
every-requires c k l = (c.requires.levels.0.size, link-in (map_of c.args.t.now) c.requires.ranged k _ l refl)

pub returns : goal.returns
unfolding falling
returns c =
    let m = map_of c.args.t.now in
    c.every.ensures (link_falls m)
    (λ k l b q. rw q (link-falls m c.args.levels.now c.requires.levels.0 _ (link-in m c.requires.ranged k _ l refl) (every-at (link_present m) m.links k no_link (present-is m c.requires.levels.1).links l)))
