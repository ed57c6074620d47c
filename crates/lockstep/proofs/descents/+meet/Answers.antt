-- `lockstep::descents::meet` meets its contract: the draws made are the definition's, and past the test they are one. Assumes nothing.
use Rattle.std.proofs.Common.{◌≡◌, ◌<◌, sym, ap, ◌∙◌}
use Rattle.definitions.specs.Map.{bucket_number}
use Rattle.hierarchy.specs.Arrays.{bucket_type_in, Sound}
use Rattle.descent.specs.Descent.{winner-range, winner-falls, typed-bucket, bucket-below, type-bucket}
use Rattle.lockstep.specs.Parts.{drawn-eq}
use Rattle.lockstep.specs.Meets.{winner-bounds, meets-apart, meets-none, meets-stop, meets-down}
use Rattle.lockstep.proofs.descents.+meet.Goals as goal

pub returns-then-not-same_drawn-clause-meets : goal.returns-then-not-same_drawn-clause-meets
returns-then-not-same_drawn-clause-meets t c =
    meets-apart (rw c.plan.view_is at c.plan.invariant) _ _ _ _ _ _ _ _ (sym c.draw_at-d.ensures) (sym c.draw_again-d2.ensures)
    (sym c.same_drawn.ensures ∙ c.if-not-same_drawn.true)

pub returns-in_default-clause-meets : goal.returns-in_default-clause-meets
returns-in_default-clause-meets t c =
    let same = drawn-eq _ _ (sym c.same_drawn.ensures ∙ c.if-not-same_drawn.false) in
    rw c.in_default.is (meets-none (rw c.plan.view_is at c.plan.invariant) _ _ _ _ _ _ (sym c.draw_at-d.ensures ∙ c.in_default.is)
    (sym c.draw_again-d2.ensures ∙ sym same ∙ c.in_default.is))

pub type_of-requires : goal.type_of-requires
type_of-requires t c = winner-range (rw c.plan.view_is at c.plan.invariant) c.args.old.now c.args.x c.args.r c.args.b c.in-Some.i (sym c.draw_at-d.ensures ∙ c.in-Some.is)

-- an item of a type above the wanted one is a bucket's, and both go down to that bucket
pub meet-requires : goal.meet-requires
meet-requires t c =
    let a = c.args in
    let plan = a.plan.now in
    let i = c.in-Some.i in
    let sound : Sound plan = rw c.plan.view_is at c.plan.invariant in
    let won = sym c.draw_at-d.ensures ∙ c.in-Some.is in
    let above = typed-bucket plan i a.t (rw (rw c.plan.view_is at c.type_of.ensures) at c.if-t-type_of.true) in
    let down : c.bucket_number-c.result ≡ bucket_number i = c.bucket_number-c.ensures ∙ ap bucket_number c.from-child.ensures in
    let falls : bucket_type_in plan (bucket_number i) < bucket_type_in plan a.b =
    rw (type-bucket plan i above) at (winner-falls sound a.old.now a.x a.r a.b i won) in
    rw down (rw c.decreases at falls, bucket-below i (winner-range sound a.old.now a.x a.r a.b i won) above)

pub returns-then-t-type_of-clause-meets : goal.returns-then-t-type_of-clause-meets
returns-then-t-type_of-clause-meets t c =
    let same = drawn-eq _ _ (sym c.same_drawn.ensures ∙ c.if-not-same_drawn.false) in
    let down : c.bucket_number-c.result ≡ bucket_number c.in-Some.i =
    c.bucket_number-c.ensures ∙ ap bucket_number c.from-child.ensures in
    meets-down (rw c.plan.view_is at c.plan.invariant) _ _ _ _ _ _ _ (sym c.draw_at-d.ensures ∙ c.in-Some.is)
    (sym c.draw_again-d2.ensures ∙ sym same ∙ c.in-Some.is) c.meet.result (rw (rw c.plan.view_is at c.type_of.ensures) at c.if-t-type_of.true)
    (rw down at c.meet.ensures.meets)

pub returns-else-t-type_of-clause-meets : goal.returns-else-t-type_of-clause-meets
returns-else-t-type_of-clause-meets t c =
    let same = drawn-eq _ _ (sym c.same_drawn.ensures ∙ c.if-not-same_drawn.false) in
    meets-stop (rw c.plan.view_is at c.plan.invariant) _ _ _ _ _ _ _ (sym c.draw_at-d.ensures ∙ c.in-Some.is)
    (sym c.draw_again-d2.ensures ∙ sym same ∙ c.in-Some.is) (rw (rw c.plan.view_is at c.type_of.ensures) at c.if-t-type_of.false)

pub returns-else-t-type_of-clause-bounds : goal.returns-else-t-type_of-clause-bounds
returns-else-t-type_of-clause-bounds t c =
    winner-bounds c.args.b c.in-Some.i c.requires
    (winner-range (rw c.plan.view_is at c.plan.invariant) c.args.old.now c.args.x c.args.r c.args.b c.in-Some.i (sym c.draw_at-d.ensures ∙ c.in-Some.is))
