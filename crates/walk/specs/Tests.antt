-- What the test of a search comes to, by its mode, and what a pass puts out. Assumes nothing.
use Rattle.std.specs.Prelude.{◌≡◌, refl, true, false, List, ◌⊎◌, ℕ, ◌<◌, ◌≤◌, eqb}
use Rattle.std.proofs.Common.{sym, subst, inl, inr, arith, eqb-true}
use Rattle.definitions.specs.declared.Mode.TheVariants.{FirstN, Independent, Through}
use Rattle.definitions.specs.declared.Ranked.{Ranked}
use Rattle.definitions.specs.declared.Tried.{Tried}
use Rattle.definitions.specs.declared.Verdict.TheVariants.{Held}
use Rattle.definitions.specs.Lists.{has}
use Rattle.definitions.specs.Map.{bucket_item, bucket_number}
use Rattle.definitions.specs.View.{View}
use Rattle.definitions.specs.Load.{reaches}
use Rattle.definitions.specs.Walk.{hole, verdict_of, plain, plain_test, inner_walk, found, sought, through_by, through_test, test_of, rank_of}
use Rattle.hierarchy.specs.Arrays.{view_in, live_in, given_up, Flagged}
use Rattle.walk.specs.declared.Search.{Search}
use Rattle.walk.specs.Searches.{inner_search, reached_by, test_at, rank_at}
use Rattle.walk.specs.Bounds.{Typed, TriedBounds, plain-bounds, held-bounds, found-bounds}

module _ (plan values : List ℕ) (x : ℕ) (k : Search) (held : List ℕ) (q i : ℕ) (w : Tried) where
  abbrev v : View
  v = view_in plan values

  abbrev Told : Type 0
  Told = (w ≡ (test_at v x k held q i).tried) × TriedBounds plan (reached_by k) w

  pub told-plain : (k.wanted.mode ≡ FirstN) ⊎ (k.wanted.mode ≡ Independent) → Typed plan k.wanted.t i → w ≡ (plain i (verdict_of v x held i)).tried → Told
  unfolding test_of plain_test reaches
  told-plain (inl e) h p = rw (e, p) (refl, plain-bounds plan k.wanted.t i (verdict_of v x held i) h)
  told-plain (inr e) h p = rw (e, p) (refl, plain-bounds plan k.wanted.t i (verdict_of v x held i) h)

  module _ (e : k.wanted.mode ≡ Through) where
    pub told-held : has i held ≡ true → w ≡ (plain i Held).tried → Told
    unfolding test_of through_test through_by reaches
    told-held h p = rw (e, p, h) (refl, held-bounds plan 0 i)

    -- the inner walk is a rank
    pub told-sought : has i held ≡ false → (r : Ranked) → r ≡ (rank_at v x (inner_search k.wanted.n q i) held 0).ranked
        → (r.entry ≡ hole) ⊎ Typed plan 0 r.entry → w ≡ found r → Told
    unfolding test_of plain_test through_test through_by inner_walk sought reaches rank_of
    told-sought h r s b p = (rw (e, p, h, s), rw (e, p) (found-bounds plan 0 r b))

    -- and beneath a bucket of live weight 0 it gives up
    pub told-dead : has i held ≡ false → Flagged plan values → 65536 ≤ i → bucket_number i < 256 → eqb (live_in values (bucket_number i)) 0 ≡ true → w ≡ found given_up → Told
    unfolding inner_walk rank_of test_of plain_test
    told-dead h f l o z p =
        let s : bucket_item (bucket_number i) ≡ i = omega (arith, l) in
        let g = f.dead (bucket_number i) o (eqb-true _ 0 z) x k.wanted.n q held in
        told-sought h given_up (sym (subst (λ (j : ℕ). (inner_walk v x k.wanted.n held q j).ranked ≡ given_up) s g)) (inl refl) p
