-- `edit_frame::bring_up` meets its contract: the weight is the one that the sums have, or it is written. Assumes nothing.
use mathlib.Core.Path.{◌≡◌, ap, subst}
use Prim.Native.Nat.{ℕ}
use native.Mathlib.Omega.{arith}
use lib.ListN.{get_or}
use Rattle.definitions.specs.declared.Bucket.{Bucket}
use Rattle.definitions.specs.Map.{map_of}
use Rattle.text.specs.Records.{no_bucket}
use Rattle.text.specs.Edit.{with_bucket, bearing, Edited, unedited}
use Rattle.edit_frame.specs.Sums.{borne-already}
use Rattle.edit_frame.proofs.bring_up.Goals as goal

pub bounds-sums-b : goal.bounds-sums-b
bounds-sums-b c = omega (arith, c.requires.no_bucket_in_bounds, ap (λ (x : Bucket). x.number) c.bucket-b.ensures)

pub returns-then-b-v : goal.returns-then-b-v
returns-then-b-v c =
    let ws = c.args.sums.now in
    let t = c.args.t.now in
    subst (Edited t)
    (borne-already (map_of t) c.args.k ws (subst (λ (x : Bucket). x.weight ≡ get_or ws x.number 0) c.bucket-b.ensures c.if-b-v.true))
    (unedited t c.requires.framed.0)

pub returns : goal.returns
returns c =
    let m = map_of c.args.t.now in
    let x = get_or m.buckets c.args.k no_bucket in
    subst (λ (n : ℕ). Edited c.put_sum.new.t (with_bucket c.args.k (bearing x (get_or c.args.sums.now n 0)) m))
    (ap (λ (y : Bucket). y.number) c.bucket-b.ensures)
    c.put_sum.ensures
