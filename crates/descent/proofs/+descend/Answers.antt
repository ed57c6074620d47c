-- `descent::descend` meets its contract: its draw is the definition's, and what it goes down to is the bucket drawn.
-- Assumes nothing.
use Rattle.std.proofs.Common.{◌≡◌, ◌<◌, ◌≤◌, sym, ◌∙◌, subst, arith}
use Rattle.definitions.specs.Map.{bucket_number}
use Rattle.hierarchy.specs.Arrays.{bucket_type_in, type_in, ItemRange, Sound}
use Rattle.descent.specs.Descent.{winner-range, winner-falls, typed-bucket, bucket-below, type-bucket, lands-none, lands-stop, lands-down}
use Rattle.descent.proofs.+descend.Goals as goal

pub returns-in_default-clause-value : goal.returns-in_default-clause-value
returns-in_default-clause-value t c =
    let a = c.args in
    lands-none (rw c.plan.view_is at c.plan.invariant) a.values.now a.x a.t a.r a.b (sym c.draw_at.ensures ∙ c.in_default.is)

pub type_of-requires : goal.type_of-requires
type_of-requires t c =
    let a = c.args in
    winner-range (rw c.plan.view_is at c.plan.invariant) a.values.now a.x a.r a.b c.in-Some.i (sym c.draw_at.ensures ∙ c.in-Some.is)

-- the type of an item that is gone down to is above the wanted one, so it is a bucket's
pub descend-requires : goal.descend-requires
descend-requires t c =
    let a = c.args in
    let plan = a.plan.now in
    let i = c.in-Some.i in
    let sound : Sound plan = rw c.plan.view_is at c.plan.invariant in
    let won = sym c.draw_at.ensures ∙ c.in-Some.is in
    let goes : a.t < type_in plan i = omega (arith, (rw c.plan.view_is at c.type_of.ensures), c.if-t-type_of.true) in
    let above = typed-bucket plan i a.t goes in
    let child : c.bucket_number-c.result ≡ bucket_number i = rw c.from-child.ensures at c.bucket_number-c.ensures in
    let falls : bucket_type_in plan (bucket_number i) < bucket_type_in plan a.b =
    rw (type-bucket plan i above) at (winner-falls sound a.values.now a.x a.r a.b i won) in
    rw child (rw c.decreases at falls, bucket-below i (winner-range sound a.values.now a.x a.r a.b i won) above)

pub returns-then-t-type_of-clause-value : goal.returns-then-t-type_of-clause-value
returns-then-t-type_of-clause-value t c =
    let a = c.args in
    let i = c.in-Some.i in
    let goes : a.t < type_in a.plan.now i = omega (arith, (rw c.plan.view_is at c.type_of.ensures), c.if-t-type_of.true) in
    let child : c.bucket_number-c.result ≡ bucket_number i = rw c.from-child.ensures at c.bucket_number-c.ensures in
    lands-down (rw c.plan.view_is at c.plan.invariant) a.values.now a.x a.t a.r a.b i (sym c.draw_at.ensures ∙ c.in-Some.is) goes c.descend.result
    (rw child at c.descend.ensures.value)

pub returns-else-t-type_of-clause-value : goal.returns-else-t-type_of-clause-value
returns-else-t-type_of-clause-value t c =
    let a = c.args in
    let i = c.in-Some.i in
    let stops : type_in a.plan.now i ≤ a.t = omega (arith, (rw c.plan.view_is at c.type_of.ensures), c.if-t-type_of.false) in
    lands-stop (rw c.plan.view_is at c.plan.invariant) a.values.now a.x a.t a.r a.b i (sym c.draw_at.ensures ∙ c.in-Some.is) stops

pub returns-else-t-type_of-clause-bounds : goal.returns-else-t-type_of-clause-bounds
returns-else-t-type_of-clause-bounds t c =
    let a = c.args in
    let won = sym c.draw_at.ensures ∙ c.in-Some.is in (
      c.requires,
      λ j e. let q : c.in-Some.i ≡ j = cc in subst ItemRange q (winner-range (rw c.plan.view_is at c.plan.invariant) a.values.now a.x a.r a.b c.in-Some.i won),
    )
