-- `crush_place::put_bytes` meets its contract: the bytes of the places so far stand at the front. Assumes nothing.
use mathlib.Core.Path.{refl, ◌∙◌}
use native.Mathlib.Omega.{arith}
use lib.ListN.{length-set}
use borrow.Author.Rules.{rules}
use Rattle.definitions.specs.Lists.{joined}
use Rattle.definitions.specs.Writing.{two_bytes}
use Rattle.crush_place.specs.Bytes.{bytes-more, bytes-all}
use Rattle.crush_place.proofs.put_bytes.Goals as goal

pub loop-i-init : goal.loop-i-init
unfolding two_bytes joined
loop-i-init c = search rules

pub loop-i-preserved : goal.loop-i-preserved
loop-i-preserved c = (
  simp length-set c.loop-i.invariant.0,
  bytes-more c.args.row.now c.args.out.now c.loop-i.out c.loop-i.i _ _ (omega arith) c.requires refl refl c.loop-i.invariant.1,
)

pub shape_of-out : goal.shape_of-out
shape_of-out c = c.loop-i.invariant.0

pub returns : goal.returns
returns c = c.loop-i.invariant.1 ∙ bytes-all c.args.row.now c.args.out.now c.loop-i.i (omega arith)
