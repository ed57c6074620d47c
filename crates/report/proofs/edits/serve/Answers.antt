-- Case by case. Assumes nothing.
use Rattle.std.proofs.Common.{refl, ap}
use Rattle.report.specs.Edits.{site_of, order_of}
use Rattle.report.proofs.edits.serve.Goals as goal

pub returns-in-Frames : goal.returns-in-Frames
unfolding order_of
returns-in-Frames c = rw c.in-Frames.is (record { site-is = refl; says = c.say_frames.ensures _ })

pub returns-in-Rows : goal.returns-in-Rows
unfolding order_of
returns-in-Rows c = rw c.in-Rows.is (record { site-is = refl; says = c.say_rows.ensures _ })

pub returns-in-Store : goal.returns-in-Store
unfolding order_of
returns-in-Store c =
    let e = c.make_store.ensures in
    rw c.in-Store.is (record { site-is = ap (site_of _ _) e.0; says = e.1 _ _ })

pub returns-in-Return : goal.returns-in-Return
unfolding order_of
returns-in-Return c = rw c.in-Return.is c.make_return.ensures

pub returns-in-Nothing : goal.returns-in-Nothing
unfolding order_of
returns-in-Nothing c = rw c.in-Nothing.is (record { site-is = refl; says = record { text-is = refl; within = tt } })
