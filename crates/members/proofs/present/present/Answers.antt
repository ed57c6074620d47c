-- `members::present::present` meets its contract: an item is present where its level is above 0. Assumes nothing.
use Rattle.std.proofs.Common.{◌∙◌, refl}
use Rattle.definitions.specs.Map.{map_of}
use Rattle.laws.specs.Chains.{and-yes, and-no}
use Rattle.members.specs.Levels.{link-in}
use Rattle.members.specs.Present.{link_present, step_present, link-there, step-there, step-in, step-bucket, present-by}
use Rattle.members.proofs.present.present.Goals as goal

pub every-requires : goal.every-requires
every-requires c k l = (c.requires.levels.size, link-in (map_of c.args.t.now) c.requires.ranged k _ l refl)

pub every-requires-then-every : goal.every-requires-then-every
every-requires-then-every c k l = (c.requires.levels.size, step-bucket _ (step-in (map_of c.args.t.now) c.requires.ranged k l))

pub returns-then-every : goal.returns-then-every
returns-then-every c =
    let m = map_of c.args.t.now in
    and-yes
    (c.every.ensures (link_present m) (λ k l b q. rw q (link-there m c.args.levels.now c.requires.levels _ (link-in m c.requires.ranged k _ l refl))))
    c.if-every.true refl
    (c.every-then-every.ensures (step_present m) (λ k l b q. rw q (step-there m c.args.levels.now c.requires.levels _ (step-bucket _ (step-in m c.requires.ranged k l)))))
    ∙ present-by m

pub returns-else-every : goal.returns-else-every
returns-else-every c =
    let m = map_of c.args.t.now in
    and-no _
    (c.every.ensures (link_present m) (λ k l b q. rw q (link-there m c.args.levels.now c.requires.levels _ (link-in m c.requires.ranged k _ l refl))))
    c.if-every.false refl
    ∙ present-by m
