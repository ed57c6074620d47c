-- `walk::is_dead` meets its contract: the bucket's number has its place in the live weights. Assumes nothing.
use mathlib.Core.Path.{◌≡◌, refl, ap, ◌∙◌}
use Prim.Native.Nat.{◌<◌}
use native.Mathlib.Omega.{arith}
use Rattle.definitions.specs.Map.{bucket_number}
use Rattle.hierarchy.specs.Sections.{section-at}
use Rattle.hierarchy.specs.Arrays.{live_at}
use Rattle.descent.specs.Descent.{bucket-below}
use Rattle.walk.proofs.is_dead.Goals as goal
use Rattle.walk.proofs.is_dead.Lts as lts
use Rattle.walk.proofs.is_dead.Reads as reads
use Rattle.walk.proofs.is_dead.Tie as tie

-- what is known at these places of the code
abbrev After-bucket_number : Type 0
After-bucket_number = lts.After-bucket_number tie.the-claims reads.Pre reads.Post

-- the number read is the item's
number : (c : After-bucket_number) → c.bucket_number-b.result ≡ bucket_number c.args.i
number c = c.bucket_number-b.ensures ∙ ap bucket_number c.from-bucket.ensures

below : (c : After-bucket_number) → bucket_number c.args.i < 256
below c = bucket-below c.args.i c.requires.0 c.requires.1

pub overflow_add-result : goal.overflow_add-result
overflow_add-result c = omega (arith, number c, below c)

pub offset_bounds-values-b : goal.offset_bounds-values-b
offset_bounds-values-b c = omega (arith, number c, below c)

pub bounds-values-b : goal.bounds-values-b
bounds-values-b c = omega (arith, number c.before.before, below c.before.before)

pub returns : goal.returns
returns c =
    let a = c.args in
    rw (number c.before.before.before, ← section-at live_at 256 (bucket_number a.i) a.values.now (below c.before.before.before)) refl
