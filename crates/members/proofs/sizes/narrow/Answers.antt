-- `members::sizes::narrow` meets its contract: the table has how many children a bucket has. Assumes nothing.
use Rattle.std.proofs.Common.{refl, ap, leb, length, arith}
use Rattle.definitions.specs.Map.{map_of}
use Rattle.definitions.specs.View.{children_of}
use Rattle.definitions.specs.Load.{narrow}
use Rattle.members.specs.Levels.{bucket-in}
use Rattle.members.proofs.sizes.narrow.Goals as goal

pub every-requires : goal.every-requires
every-requires c k l = ((bucket-in (map_of c.args.t.now) c.requires.ranged k _ l refl).number, c.requires.counts.size)

pub returns : goal.returns
unfolding narrow
returns c =
    let m = map_of c.args.t.now in
    c.every.ensures (λ b. leb (length (children_of m b.number)) 64)
    (λ k l b q. rw q (ap (λ n. leb n 64) (c.requires.counts.count _ (omega (arith, (bucket-in m c.requires.ranged k _ l refl).number)))))
