-- The bytes before the first 10, and that byte. Assumes nothing.
use Rattle.std.proofs.Common.{◌++◌, length, take, arith, take_all}
use Rattle.report.specs.Edits.{site_of}
use Rattle.report.specs.Kept.{keeps-more}
use Rattle.report.specs.Reads.{lengthens-front, run_none, run-byte}
use Rattle.report.proofs.edits.on_bytes.Goals as goal

pub returns-in-None : goal.returns-in-None
returns-in-None c =
    let a = c.args in
    let read = a.read.now in
    let here = site_of a.map.now a.table.now a.states.now in (
      omega arith,
      c.requires,
      omega arith,
      λ xs k. run_none a.p _ here a.space.now xs _ (lengthens-front read (length read) c.in-None.ensures)
          (rw (c.extend.ensures, take_all (length read) read (omega arith)) (keeps-more _ xs read k)),
    )

pub returns-in-Some : goal.returns-in-Some
returns-in-Some c =
    let a = c.args in
    let read = a.read.now in
    let n = c.in-Some.n in
    let e = c.in-Some.ensures in
    let here = site_of a.map.now a.table.now a.states.now in (
      c.on_byte-said.ensures.0,
      omega arith,
      omega (arith, e.0),
      λ xs k. run-byte a.p _ _ here a.space.now xs read n _ _ e.0 (lengthens-front read n e.1)
          (c.on_byte-said.ensures.1 (xs ++ take n read) (rw c.extend-in-Some.ensures (keeps-more _ xs _ k))),
    )
