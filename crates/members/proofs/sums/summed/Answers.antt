-- `members::sums::summed` meets its contract: the table has what the children of a bucket weigh together. Assumes nothing.
use Rattle.std.proofs.Common.{◌∙◌, refl, ap, eqb, arith}
use Rattle.definitions.specs.Map.{map_of}
use Rattle.members.specs.Levels.{bucket-in}
use Rattle.members.specs.Sums.{bucket_adds, adds-summed}
use Rattle.members.proofs.sums.summed.Goals as goal

pub every-requires : goal.every-requires
every-requires c k l = ((bucket-in (map_of c.args.t.now) c.requires.ranged k _ l refl).number, c.requires.sums.size)

pub returns : goal.returns
returns c =
    let m = map_of c.args.t.now in
    let p = c.requires.t_value in
    c.every.ensures (bucket_adds m)
    (λ k l b q. rw q (ap (eqb _) (c.requires.sums.added _ (omega (arith, (bucket-in m c.requires.ranged k _ l refl).number)))))
    ∙ adds-summed m p.0 p.1 p.2
