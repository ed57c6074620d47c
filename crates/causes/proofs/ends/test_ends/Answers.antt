-- `causes::ends::test_ends` meets its contract. Assumes nothing.
use Rattle.std.proofs.Common.{arith, eq-eqb}
use Rattle.descent.specs.Descent.{typed-bucket, bucket-below}
use Rattle.walk.specs.Tests.{told-dead}
use Rattle.causes.proofs.ends.test_ends.Goals as goal

pub returns-then-gives_up : goal.returns-then-gives_up
returns-then-gives_up c =
    let a = c.args in
    let (e, h, o, n) = c.gives_up.ensures c.if-gives_up.true in
    let p = c.requires.testable in
    -- in a select through the item has a type above 0, so it is a bucket's
    let l = typed-bucket a.plan.now a.i 0 (omega (arith, p.3.1, p.1 e)) in
    let b = bucket-below a.i p.3.0 l in (
      (told-dead a.plan.now a.old.now a.x a.search a.held.now a.q a.i c.given_up.result e h c.requires.flagged.0 l b (eq-eqb _ 0 o) c.given_up.ensures).0,
      (told-dead a.plan.now a.new.now a.x a.search a.held.now a.q a.i c.given_up.result e h c.requires.flagged.1 l b (eq-eqb _ 0 n) c.given_up.ensures).0,
    )
