-- `edit_frame::put_sums` meets its contract: after k turns the text is that of the map with the weights of its first k buckets.
-- Assumes nothing.
use mathlib.Core.Path.{refl, ap, ◌∙◌, subst}
use Prim.Native.Nat.{◌<◌}
use native.Mathlib.Omega.{arith}
use lib.ListN.{length, get_or}
use borrow.Author.Rules.{rules}
use Rattle.definitions.specs.declared.Bucket.{Bucket}
use Rattle.definitions.specs.Map.{Map, map_of}
use Rattle.text.specs.Records.{no_bucket, shape-buckets}
use Rattle.text.specs.Edit.{with_bucket, borne_by, Edited, unedited, edited-shape}
use Rattle.edit_frame.specs.Sums.{to_none, to-length, to-next, to-more, to-all, to-counts}
use Rattle.edit_frame.proofs.put_sums.Goals as goal

pub loop-k-init : goal.loop-k-init
loop-k-init c =
    let t = c.args.t.now in
    (refl, subst (Edited t) (to_none c.args.sums.now (map_of t)) (unedited t c.requires.0))

pub bring_up-requires : goal.bring_up-requires
bring_up-requires c =
    let t = c.args.t.now in
    let m = map_of t in
    let ws = c.args.sums.now in
    let k = c.loop-k.k in
    let E = c.loop-k.invariant.1 in
    let at : k < length m.buckets = omega (arith, shape-buckets t c.args.s c.requires.1) in record {
      framed = (
        E.framed,
        edited-shape t c.loop-k.t c.args.s _ c.requires.0 c.requires.1 E (to-counts ws m k),
        omega (arith, to-length ws m k, ap (λ (n : Map). length n.buckets) E.holds),
      );
      no_bucket_in_bounds = omega (arith, c.requires.2.below k at, ap (λ (b : Bucket). b.number) (to-next ws m k), ap (λ (n : Map). (get_or n.buckets k no_bucket).number) E.holds);
    }

pub loop-k-preserved : goal.loop-k-preserved
loop-k-preserved c =
    let t = c.args.t.now in
    let m = map_of t in
    let ws = c.args.sums.now in
    let k = c.loop-k.k in
    let E = c.loop-k.invariant.1 in
    let at : k < length m.buckets = omega (arith, shape-buckets t c.args.s c.requires.1) in (
      search rules,
      subst (Edited _)
          (ap (λ (n : Map). with_bucket k (borne_by ws (get_or n.buckets k no_bucket)) n) E.holds ∙ to-more ws m k at) c.bring_up.ensures,
    )

pub returns : goal.returns
returns c =
    let t = c.args.t.now in
    let m = map_of t in
    subst (Edited _)
    (to-all c.args.sums.now m c.loop-k.k (omega (arith, shape-buckets t c.args.s c.requires.1)))
    c.loop-k.invariant.1
