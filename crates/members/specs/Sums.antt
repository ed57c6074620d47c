-- Question 23: the sums of what stands in the children's frames, by a table; and that where each is what is written of its bucket, that is the
-- weight of all devices beneath it. Assumes nothing.
use Rattle.std.specs.Prelude.{◌≡◌, Bool, ◌&&◌, ℕ, zero, suc, ◌<◌, ◌≤◌, eqb, length, get_or, take}
use Rattle.std.proofs.Math.Path.{refl, sym, ap}
use Rattle.std.proofs.Common.{◌∙◌, subst, arith, take_all}
use Rattle.std.proofs.Math.Bool.{true, false, cond}
use Rattle.std.proofs.lemmas.Bool.{false≢true}
use mathlib.Core.List.{List, map, map-map, Memᴰ}
use borrow.Author.Tests.{eqb-true, eq-eqb, leb-true, leb-false}
use Rattle.definitions.specs.declared.Bucket.{Bucket}
use Rattle.definitions.specs.declared.Link.{Link}
use Rattle.definitions.specs.Lists.{every, sum}
use Rattle.definitions.specs.Map.{Map, is_bucket, bucket_item, bucket_number}
use Rattle.definitions.specs.View.{children_of, type_of, weight_of, weights_of}
use Rattle.definitions.specs.Load.{rising, has_device, has_bucket, has_item, present, falling, summed}
use Rattle.laws.specs.Lists.{both, every-at, every-by}
use Rattle.laws.specs.Counting.{lookup-at, number_at}
use Rattle.laws.specs.Members.{mem-every, map-ext}
use Rattle.laws.specs.Loadable.{rising-is, present-is}
use Rattle.laws.specs.Forest.{kids_of, kids-bucket, kid-link, kid-falls, weight-device, weight-bucket}
use Rattle.text.specs.Records.{no_bucket}
use Rattle.members.specs.Levels.{looked_up, bucket-item}
use Rattle.members.specs.Weights.{bucket_written, written_of, written-device, written-bucket, Weights}
use Rattle.members.specs.Totals.{links_of, Totalled}

-- what stands in the frames of the children of bucket b, added
abbrev pub added_of : Map → ℕ → ℕ
added_of m b = sum (map (written_of m) (children_of m b))

-- the table r has it of each bucket
pub record Sums (m : Map) (r : List ℕ) : Type 0 where
  pub size : length r ≡ 256
  pub added : (b : ℕ) → b < 256 → get_or r b 0 ≡ added_of m b

-- a link adds what stands in its child's frame, which has 32 bits
abbrev pub adds : Map → Link → ℕ
adds m l = written_of m l.child

abbrev pub most : ℕ
most = 4294967295

-- all links are added
pub sums-are : (m : Map) (r : List ℕ) (k : ℕ) → Totalled (adds m) most (take k m.links) r → length m.links ≤ k → Sums m r
unfolding children_of
sums-are m r k h q =
    let t = rw (take_all k m.links q) at h in
    record {
      size = h.size;
      added = λ b l. t.total b l ∙ ap sum (sym (map-map (written_of m) (λ (n : Link). n.child) (links_of b m.links)));
    }

-- ---- question 23

-- of a bucket, by what stands in its children's frames
abbrev pub bucket_adds : Map → Bucket → Bool
bucket_adds m b = eqb b.weight (added_of m b.number)

-- and as it is defined
abbrev bucket_sums : Map → Bucket → Bool
bucket_sums m b = eqb b.weight (weight_of m (bucket_item b.number))

-- two tests that hold together
one_answer : (a b : Bool) → (a ≡ true → b ≡ true) → (b ≡ true → a ≡ true) → a ≡ b
one_answer true true f g = refl
one_answer true false f g = absurd (false≢true (f refl))
one_answer false true f g = absurd (false≢true (g refl))
one_answer false false f g = refl

module _ (m : Map) (r : rising m ≡ true) (p : present m ≡ true) (f : falling m ≡ true) where
  -- a child of bucket b is present, and of a smaller type
  child-has : (b c : ℕ) → Memᴰ c (children_of m b) → (has_item m c ≡ true) × (type_of m c < type_of m (bucket_item b))
  child-has b c n =
      let k : Memᴰ c (kids_of m (bucket_item b)) = rw (kids-bucket m b) n in
      let (l, j, q, e) = kid-link m (bucket_item b) c k in
      let h = (both (has_bucket m l.bucket) (has_item m l.child) (mem-every (λ (x : Link). has_bucket m x.bucket && has_item m x.child) j (present-is m p).links)).1 in
      (subst (λ (x : ℕ). has_item m x ≡ true) e h, kid-falls m f (bucket_item b) c k)

  -- a bucket's number has its weight
  written_at : (k : ℕ) → k < length m.buckets → bucket_written m (get_or m.buckets k no_bucket).number ≡ (get_or m.buckets k no_bucket).weight
  written_at k l = lookup-at (λ (b : Bucket). b.number) no_bucket (λ (b : Bucket). b.weight) m.buckets k (rising-is m r).buckets l

  -- an item that is present weighs what stands in its frame, where that holds of the bucket if it is one
  item-weighs : (i : ℕ) → has_item m i ≡ true
      → ((k : ℕ) → k < length m.buckets → bucket_item (get_or m.buckets k no_bucket).number ≡ i → (get_or m.buckets k no_bucket).weight ≡ weight_of m i)
      → written_of m i ≡ weight_of m i
  unfolding has_item has_bucket
  item-weighs i h q = go (is_bucket i) refl h
    where
      go : (t : Bool) → is_bucket i ≡ t → cond t (has_bucket m (bucket_number i)) (has_device m i) ≡ true → written_of m i ≡ weight_of m i
      go true e y =
          let (k, l, n) = number_at (λ (b : Bucket). b.number) no_bucket (bucket_number i) m.buckets y in
          let s : 65536 ≤ i = leb-true 65536 i e in
          written-bucket m i s ∙ ap (bucket_written m) (sym n) ∙ written_at k l ∙ q k l (omega (arith, n, s))
      go false e y = let s : i < 65536 = leb-false 65536 i e in written-device m i s ∙ sym (weight-device m i s)

  -- where the children of a bucket weigh what stands in their frames, these add up to its weight
  adds-weight : (b : ℕ) → ((c : ℕ) → Memᴰ c (children_of m b) → written_of m c ≡ weight_of m c) → added_of m b ≡ weight_of m (bucket_item b)
  unfolding weights_of
  adds-weight b h = ap sum (map-ext (written_of m) (weight_of m) (children_of m b) h) ∙ sym (weight-bucket m f b)

  -- by the types: where each bucket's is the sum of its children's frames, every item weighs what stands in its own
  module _ (y : every (bucket_adds m) m.buckets ≡ true) where
    weighs-to : (n i : ℕ) → type_of m i < n → has_item m i ≡ true → written_of m i ≡ weight_of m i
    weighs-to zero i l h = absurd (omega arith)
    weighs-to (suc n) i l h =
        item-weighs i h
        (λ k s e.
        let b = (get_or m.buckets k no_bucket).number in
        eqb-true _ _ (every-at (bucket_adds m) m.buckets k no_bucket y s)
        ∙ adds-weight b (λ c j. let q = child-has b c j in weighs-to n c (omega (arith, q.1, ap (type_of m) e)) q.0)
        ∙ ap (weight_of m) e)

    adds_then : every (bucket_sums m) m.buckets ≡ true
    adds_then =
        every-by (bucket_sums m) m.buckets no_bucket
        (λ k l.
        let x = get_or m.buckets k no_bucket in
        eq-eqb x.weight _
        (eqb-true _ _ (every-at (bucket_adds m) m.buckets k no_bucket y l)
        ∙ adds-weight x.number (λ c j. let q = child-has x.number c j in weighs-to (suc (type_of m c)) c (omega arith) q.0)))

  -- and back
  sums-then : every (bucket_sums m) m.buckets ≡ true → every (bucket_adds m) m.buckets ≡ true
  sums-then y =
      every-by (bucket_adds m) m.buckets no_bucket
      (λ k l.
      let x = get_or m.buckets k no_bucket in
      eq-eqb x.weight _ (weight k l ∙ sym (adds-weight x.number (λ c j. item-weighs c (child-has x.number c j).0 (λ n s e. weight n s ∙ ap (weight_of m) e)))))
    where
      weight : (k : ℕ) → k < length m.buckets → (get_or m.buckets k no_bucket).weight ≡ weight_of m (bucket_item (get_or m.buckets k no_bucket).number)
      weight k l = eqb-true _ _ (every-at (bucket_sums m) m.buckets k no_bucket y l)

  -- the two are one question
  pub adds-summed : every (bucket_adds m) m.buckets ≡ summed m
  unfolding summed
  adds-summed = one_answer (every (bucket_adds m) m.buckets) (every (bucket_sums m) m.buckets) adds_then sums-then

-- the test of the bucket at k is that of the two tables at its number
pub sum-answers : (m : Map) → rising m ≡ true → (ws r : List ℕ) → Weights m ws → Sums m r → (k : ℕ) → k < length m.buckets → (get_or m.buckets k no_bucket).number ≤ 255
    → eqb (looked_up ws (bucket_item (get_or m.buckets k no_bucket).number)) (get_or r (get_or m.buckets k no_bucket).number 0) ≡ bucket_adds m (get_or m.buckets k no_bucket)
sum-answers m g ws r W S k l h =
    let b = get_or m.buckets k no_bucket in
    let z : bucket_number (bucket_item b.number) ≡ b.number = omega arith in
    let w : looked_up ws (bucket_item b.number) ≡ b.weight
    = W.weight (bucket_item b.number) (bucket-item b.number h) ∙ written-bucket m (bucket_item b.number) (omega arith) ∙ ap (bucket_written m) z
    ∙ lookup-at (λ (x : Bucket). x.number) no_bucket (λ (x : Bucket). x.weight) m.buckets k (rising-is m g).buckets l in
    ap (λ (n : ℕ). eqb n (get_or r b.number 0)) w ∙ ap (eqb b.weight) (S.added b.number (omega arith))
