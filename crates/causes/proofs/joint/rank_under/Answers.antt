-- `causes::joint::rank_under` meets its contract: nothing under a hole, and two ranks made at once at a bucket. Assumes nothing.
use Rattle.std.proofs.Common.{ap, ◌∙◌}
use Rattle.definitions.specs.Map.{bucket_number}
use Rattle.hierarchy.specs.Arrays.{view_in}
use Rattle.placement.specs.Bare.{unranked}
use Rattle.causes.specs.Joint.{shares-hole, shares-rank}
use Rattle.causes.proofs.joint.rank_under.Goals as goal

pub returns-then-a-eq-HOLE : goal.returns-then-a-eq-HOLE
unfolding unranked
returns-then-a-eq-HOLE c = shares-hole _ _ _ _ _ _ _ _ c.if-a-eq-HOLE.true

pub returns : goal.returns
returns c =
    let a = c.args in
    shares-rank (view_in a.plan.now a.old.now) (view_in a.plan.now a.new.now) a.x a.wanted a.a a.r a.held.now a.f _ c.rank_ends.result
    c.if-a-eq-HOLE.false (c.bucket_number.ensures ∙ ap bucket_number c.from-bucket.ensures) c.rank_ends.ensures
