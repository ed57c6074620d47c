-- `causes::place_cause` meets its contract: each way out is a case of where the places above part. Assumes nothing.
use Rattle.std.proofs.Common.{ap, ◌∙◌}
use Rattle.definitions.specs.Map.{bucket_number}
use Rattle.hierarchy.specs.Arrays.{view_in}
use Rattle.causes.specs.Under.{tells-above, tells-hole, tells-rank}
use Rattle.causes.proofs.place_cause.Goals as goal

pub returns-then-above-ne0 : goal.returns-then-above-ne0
returns-then-above-ne0 c = tells-above _ _ _ _ _ _ _ _ _ _ _ c.if-above-ne0.true

pub returns-then-above-eq-HOLE : goal.returns-then-above-eq-HOLE
returns-then-above-eq-HOLE c = tells-hole _ _ _ _ _ _ _ _ _ _ _ c.if-above-ne0.false c.if-above-eq-HOLE.true

pub returns : goal.returns
returns c =
    let a = c.args in
    let start = c.bucket_number.ensures ∙ ap bucket_number c.from-bucket.ensures in
    rw (c.cause.ensures, c.err.ensures.value)
    (tells-rank (view_in a.plan.now a.old.now) (view_in a.plan.now a.new.now) _ _ _ _ _ _ _ _ _ c.if-above-ne0.false c.if-above-eq-HOLE.false _
    c.part_rank-k.result start c.part_rank-k.ensures)
