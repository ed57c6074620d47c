-- `placement::select::rank_under` meets its contract: nothing under a hole, and a rank at a bucket. Assumes nothing.
use mathlib.Core.Path.{◌≡◌, ap, ◌∙◌}
use native.Mathlib.Omega.{arith}
use Rattle.definitions.specs.Map.{bucket_number}
use Rattle.hierarchy.specs.Arrays.{view_in}
use Rattle.placement.specs.Bare.{unranked}
use Rattle.placement.specs.Working.{bucket-of}
use Rattle.placement.specs.Chosen.{hole-ranked, hole-bounds, bucket-ranked, bucket-tries}
use Rattle.placement.proofs.select.rank_under.Goals as goal
use Rattle.placement.proofs.select.rank_under.Lts as lts
use Rattle.placement.proofs.select.rank_under.Reads as reads
use Rattle.placement.proofs.select.rank_under.Tie as tie

-- what is known at these places of the code
abbrev After-bucket_number : Type 0
After-bucket_number = lts.After-bucket_number tie.the-claims reads.Pre reads.Post tie.handed_clauses

-- the bucket's number
number : (c : After-bucket_number) → c.bucket_number.result ≡ bucket_number c.args.a
number c = c.bucket_number.ensures ∙ ap bucket_number c.from-bucket.ensures

pub returns-then-a-eq-HOLE : goal.returns-then-a-eq-HOLE
unfolding unranked
returns-then-a-eq-HOLE c = record { value = hole-ranked _ _ _ _ _ _ _ _ _ c.if-a-eq-HOLE.true; bounds = hole-bounds _ }

pub bucket_number-requires : goal.bucket_number-requires
bucket_number-requires c =
    omega (arith, c.from-bucket.ensures, (bucket-of c.args.a c.requires.n_bound.3 c.if-a-eq-HOLE.false).0)

pub rank-requires : goal.rank-requires
rank-requires c =
    let p = c.requires.n_bound in
    let b = bucket-of c.args.a p.3 c.if-a-eq-HOLE.false in
    record { flagged = c.requires.flagged; search_bounds = ((omega (arith, number c.before, b.1), p.0, omega (arith, p.1), λ q. p.1, p.2), p.4) }

pub returns : goal.returns
returns c =
    let a = c.args in
    let v = view_in a.plan.now a.values.now in
    let is = c.rank.ensures.value in
    let q = c.rank.ensures.bounds in
    record { value = bucket-ranked v _ _ _ _ a.a _ _ _ _ _ (number c.before.before) is c.if-a-eq-HOLE.false; bounds = (q.0, q.1, q.2, bucket-tries v _ _ _ _ a.a _ _ _ _ _ (number c.before.before) is) }
