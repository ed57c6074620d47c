-- Change 4: the words that the values have of the children: of a straw their weights, of a tree their sums. The weights that a draw reads of
-- them are the children's. Assumes nothing.
use Rattle.std.proofs.Math.Path.{◌≡◌, refl, sym, ap}
use Rattle.std.proofs.Common.{◌∙◌, subst, pow-suc, add-one, lt-ltb, le-ltb, eq-eqb, ne_eqb, pow_pos, length-set, get_or-drop, take_all, take-take, get_or-set_same, get_or-set_other}
use Rattle.std.specs.Prelude.{cond, ◌⊎◌, ltb, length, take, drop, set}
use mathlib.Core.List.{List, [], ◌∷◌}
use Rattle.std.proofs.Math.Logic.{inl, inr}
use Prim.Native.Nat.{ℕ, zero, suc, ◌+◌, ◌-◌, ◌<◌, ◌≤◌, ◌^◌}
use Rattle.std.proofs.Math.Nat.{pow-zero}
use Rattle.std.proofs.Math.Decide.{dec_lt, ℕ_discrete}
use native.Mathlib.Omega.{arith}
use Rattle.std.proofs.Math.ListN.{get_or}
use Rattle.std.proofs.Math.Seq.{ext_get_or}
use Rattle.definitions.specs.declared.Kind.{Kind}
use Rattle.definitions.specs.declared.Kind.TheVariants.{Straw, Tree}
use Rattle.definitions.specs.Lists.{sum}
use Rattle.definitions.specs.Tree.{height_of}
use Rattle.laws.specs.Tree.{height-room}
use Rattle.hierarchy.specs.Sums.{firsts_of, before, leaf_weight, total_in, weights_from, weights_by, firsts_of-length, firsts_of-at}
use Rattle.hierarchy.specs.Sections.{section, section-length, section-at, section-front, section-beyond}
use Rattle.hierarchy.specs.Arrays.{count_at, kinds_at, firsts_in, counts_in, first_in, count_in, kind_in, part_at}

-- what the first i weigh together
abbrev pub sum_to : List ℕ → ℕ → ℕ
sum_to ws i = sum (take i ws)

-- the sums of weights: word i is what the first i + 1 weigh together
unfoldable pub sums_of : List ℕ → List ℕ
sums_of ws = firsts_of (length ws) (λ (i : ℕ). sum_to ws (suc i))

-- the words of a bucket of this kind, whose children have these weights
unfoldable pub words_by : Kind → List ℕ → List ℕ
words_by Straw ws = ws
words_by Tree ws = sums_of ws

-- ---- sums

sum_more : (ws : List ℕ) (i : ℕ) → sum_to ws (suc i) ≡ sum_to ws i + get_or ws i 0
unfolding sum
sum_more [] zero = omega arith
sum_more [] (suc i) = omega arith
sum_more (w ∷ ws) zero = omega arith
sum_more (w ∷ ws) (suc i) = omega (arith, sum_more ws i)

sum-rises : (ws : List ℕ) (i j : ℕ) → i ≤ j → sum_to ws i ≤ sum_to ws j
unfolding sum
sum-rises ws zero j h = omega arith
sum-rises ws (suc i) zero h = absurd (omega arith)
sum-rises [] (suc i) (suc j) h = omega arith
sum-rises (w ∷ ws) (suc i) (suc j) h = omega (arith, sum-rises ws i j (omega arith))

sum-all : (ws : List ℕ) (i : ℕ) → length ws ≤ i → sum_to ws i ≡ sum ws
sum-all ws i h = ap sum (take_all i ws h)

-- ---- the weights are had again from their sums

module _ (ws : List ℕ) where
  abbrev n : ℕ
  n = length ws

  sums-long : length (sums_of ws) ≡ n
  unfolding sums_of
  sums-long = firsts_of-length n (λ (i : ℕ). sum_to ws (suc i))

  sums_at : (i : ℕ) → i < n → get_or (sums_of ws) i 0 ≡ sum_to ws (suc i)
  unfolding sums_of
  sums_at i h = firsts_of-at n (λ (i : ℕ). sum_to ws (suc i)) i h

  before-is : (i a e : ℕ) → 0 < i → a ≤ i → i ≤ e → before (sums_of ws) i (sum_to ws a) (sum_to ws e) ≡ sum_to ws i
  unfolding before
  before-is i a e p h l = go (dec_lt i n)
    where
      go : Dec (i < n) → before (sums_of ws) i (sum_to ws a) (sum_to ws e) ≡ sum_to ws i
      go (yes u) =
          let s : suc (i - 1) ≡ i = omega arith in
          let q : get_or (sums_of ws) (i - 1) 0 ≡ sum_to ws i = sums_at (i - 1) (omega arith) ∙ ap (sum_to ws) s in
          rw (lt-ltb i (length (sums_of ws)) (omega (arith, u, sums-long)), q) (omega (arith, sum-rises ws a i h, sum-rises ws i e l))
      go (no u) =
          rw (le-ltb i (length (sums_of ws)) (omega (arith, sums-long))) (sum-all ws e (omega arith) ∙ sym (sum-all ws i (omega arith)))

  leaf-is : (j a i : ℕ) → a ≤ i → i < a + 2 ^ j → leaf_weight (sums_of ws) j a (sum_to ws a) (sum_to ws (a + 2 ^ j)) i ≡ get_or ws i 0
  unfolding leaf_weight
  leaf-is zero a i h l =
      let e : i ≡ a = omega (arith, pow-zero 2) in
      let s : a + 2 ^ 0 ≡ suc a = omega (arith, pow-zero 2) in
      rw (e, s) (omega (arith, sum_more ws a))
  leaf-is (suc j) a i h l = go (dec_lt i (a + 2 ^ j)) (leaf-is j)
    where
      mid : ℕ
      mid = a + 2 ^ j

      end : a + 2 ^ suc j ≡ mid + 2 ^ j
      end = omega (arith, pow-suc 2 j)

      middle : before (sums_of ws) mid (sum_to ws a) (sum_to ws (a + 2 ^ suc j)) ≡ sum_to ws mid
      middle = before-is mid a (a + 2 ^ suc j) (omega (arith, pow_pos j)) (omega arith) (omega (arith, pow-suc 2 j))

      go : Dec (i < mid) → ((a i : ℕ) → a ≤ i → i < a + 2 ^ j → leaf_weight (sums_of ws) j a (sum_to ws a) (sum_to ws (a + 2 ^ j)) i ≡ get_or ws i 0)
          → leaf_weight (sums_of ws) (suc j) a (sum_to ws a) (sum_to ws (a + 2 ^ suc j)) i ≡ get_or ws i 0
      go (yes u) rest = rw (lt-ltb i mid u, middle) (rest a i h u)
      go (no u) rest = rw (le-ltb i mid (omega arith), middle, end) (rest mid i (omega arith) (omega (arith, l, end)))

  weights-again : weights_from (sums_of ws) n ≡ ws
  unfolding weights_from sum
  weights-again = ext_get_or 0 (firsts_of n f) ws (firsts_of-length n f) (λ i h. at i (omega (arith, firsts_of-length n f)))
    where
      f : ℕ → ℕ
      f = leaf_weight (sums_of ws) (height_of n) 0 0 (total_in (sums_of ws))

      -- what all weigh is what the leaves of the root weigh
      all : 0 < n → total_in (sums_of ws) ≡ sum_to ws (0 + 2 ^ height_of n)
      all h =
          let s : suc (length (sums_of ws) - 1) ≡ n = omega (arith, sums-long) in
          sums_at (length (sums_of ws) - 1) (omega (arith, sums-long)) ∙ ap (sum_to ws) s ∙ sum-all ws n (omega arith)
          ∙ sym (sum-all ws (0 + 2 ^ height_of n) (omega (arith, height-room n)))

      at : (i : ℕ) → i < n → get_or (firsts_of n f) i 0 ≡ get_or ws i 0
      at i h = firsts_of-at n f i h ∙ rw (all (omega arith)) (leaf-is (height_of n) 0 i (omega arith) (omega (arith, height-room n)))

-- of either kind
pub words-again : (k : Kind) (ws : List ℕ) → weights_by k (length ws) (words_by k ws) ≡ ws
unfolding weights_by words_by
words-again Straw ws = refl
words-again Tree ws = weights-again ws

-- ---- laying the sums over the weights

-- zs is xs where each of the i words from a on has those before it added
pub record Summed (a i : ℕ) (xs zs : List ℕ) : Type 0 where
  pub long : length zs ≡ length xs
  pub here : (j : ℕ) → j < i → get_or zs (a + j) 0 ≡ sum_to (drop a xs) (suc j)
  pub other : (k : ℕ) → (k < a) ⊎ (a + i ≤ k) → get_or zs k 0 ≡ get_or xs k 0

pub summed-none : (a : ℕ) (xs : List ℕ) → Summed a 0 xs xs
summed-none a xs = record { long = refl; here = λ j h. absurd (omega arith); other = λ k h. refl }

module _ (a i : ℕ) (xs zs : List ℕ) (s : Summed a i xs zs) where
  -- one word more
  pub summed-next : (n : ℕ) → n ≡ sum_to (drop a xs) i → n + get_or zs (a + i) 0 ≡ sum_to (drop a xs) (i + 1)
  summed-next n e = rw (add-one i) (omega (arith, e, s.other (a + i) (inr (omega arith)), get_or-drop a xs i 0, sum_more (drop a xs) i))

  pub summed-fits : (n m : ℕ) → n ≡ sum_to (drop a xs) i → i < m → sum_to (drop a xs) m < 2 ^ 32 → n + get_or zs (a + i) 0 < 2 ^ 32
  summed-fits n m e h l = omega (arith, summed-next n e, sum-rises (drop a xs) (i + 1) m (omega arith), l)

  pub summed-more : (v : ℕ) → a + i < length xs → v ≡ sum_to (drop a xs) (i + 1) → Summed a (i + 1) xs (set zs (a + i) v)
  summed-more v h e =
      record {
        long = length-set zs (a + i) v ∙ s.long;
        here = λ j l. at j l (ℕ_discrete j i);
        other = λ k l. get_or-set_other zs (a + i) k v 0 (not-here k l) ∙ s.other k (out k l);
      }
    where
      at : (j : ℕ) → j < i + 1 → Dec (j ≡ i) → get_or (set zs (a + i) v) (a + j) 0 ≡ sum_to (drop a xs) (suc j)
      at j l (yes q) = rw q (get_or-set_same zs (a + i) v 0 (omega (arith, h, s.long)) ∙ e ∙ ap (sum_to (drop a xs)) (add-one i))
      at j l (no q) = get_or-set_other zs (a + i) (a + j) v 0 (λ p. q (omega (arith, p))) ∙ s.here j (omega arith)

      not-here : (k : ℕ) → (k < a) ⊎ (a + (i + 1) ≤ k) → k ≡ a + i → ⊥
      not-here k (inl l) p = omega (arith, l, p)
      not-here k (inr l) p = omega (arith, l, p)

      out : (k : ℕ) → (k < a) ⊎ (a + (i + 1) ≤ k) → (k < a) ⊎ (a + i ≤ k)
      out k (inl l) = inl l
      out k (inr l) = inr (omega arith)

  -- all of them
  pub summed-all : (n : ℕ) → i ≡ n → Summed a n xs zs
  summed-all n e = subst (λ (k : ℕ). Summed a k xs zs) e s

-- the part of bucket b
abbrev pub part_in : List ℕ → ℕ → List ℕ → List ℕ
part_in plan b xs = part_at (firsts_in plan) (counts_in plan) b xs

-- the parts lie within the words and apart, and no sum of one overflows
pub record Parts (plan words : List ℕ) : Type 0 where
  pub inside : (b : ℕ) → first_in plan b + count_in plan b ≤ 1280
  pub apart : (b c i : ℕ) → first_in plan b ≤ i → i < first_in plan b + count_in plan b → first_in plan c ≤ i → i < first_in plan c + count_in plan c → b ≡ c
  pub fits : (b : ℕ) → sum (part_in plan b words) < 2 ^ 32

-- parts with the same words
same-part : (a n : ℕ) (xs zs : List ℕ) → a + n ≤ length xs → length zs ≡ length xs → ((j : ℕ) → j < n → get_or zs (a + j) 0 ≡ get_or xs (a + j) 0)
    → take n (drop a zs) ≡ take n (drop a xs)
unfolding section
same-part a n xs zs h l e =
    let p = section-length a n zs (omega (arith, h, l)) in
    ext_get_or 0 (section a n zs) (section a n xs) (p ∙ sym (section-length a n xs h))
    (λ j k. let i : j < n = omega (arith, k, p) in section-at a n j zs i ∙ e j i ∙ sym (section-at a n j xs i))

-- a part that is summed
take_part : (j n : ℕ) (ys : List ℕ) → j ≤ n → sum_to (take n ys) j ≡ sum_to ys j
take_part j n ys h = ap sum (take-take j n ys h)

summed-part : (a n : ℕ) (xs zs : List ℕ) → a + n ≤ length xs → Summed a n xs zs → take n (drop a zs) ≡ sums_of (take n (drop a xs))
unfolding section
summed-part a n xs zs h s =
    let ws = section a n xs in
    let p = section-length a n zs (omega (arith, h, s.long)) in
    let q = section-length a n xs h in
    ext_get_or 0 (section a n zs) (sums_of ws) (p ∙ sym q ∙ sym (sums-long ws))
    (λ j k.
    let i : j < n = omega (arith, k, p) in
    section-at a n j zs i ∙ s.here j i ∙ sym (take_part (suc j) n (drop a xs) (omega arith)) ∙ sym (sums_at ws j (omega (arith, i, q))))

-- the words of the first k buckets are laid
pub record LaidTo (plan words zs : List ℕ) (k : ℕ) : Type 0 where
  pub size : length zs ≡ 1280
  pub parts : (b : ℕ) → part_in plan b zs ≡ cond (ltb b k) (words_by (kind_in plan b) (part_in plan b words)) (part_in plan b words)

pub laid_none : (plan words : List ℕ) → length words ≡ 1280 → LaidTo plan words words 0
laid_none plan words h = record { size = h; parts = λ b. rw (le-ltb b 0 (omega arith)) }

module _ (plan words : List ℕ) (P : Parts plan words) where
  -- one bucket more
  module _ (zs : List ℕ) (k : ℕ) (l : LaidTo plan words zs k) where
    here : (us : List ℕ) → length us ≡ 1280 → part_in plan k us ≡ words_by (kind_in plan k) (part_in plan k words) → ((b : ℕ) → (b ≡ k → ⊥) → part_in plan b us ≡ part_in plan b zs)
        → LaidTo plan words us (k + 1)
    here us s e f = record { size = s; parts = λ b. go b (ℕ_discrete b k) (dec_lt b k) }
      where
        go : (b : ℕ) → Dec (b ≡ k) → Dec (b < k)
            → part_in plan b us ≡ cond (ltb b (k + 1)) (words_by (kind_in plan b) (part_in plan b words)) (part_in plan b words)
        go b (yes q) d = rw (q, lt-ltb k (k + 1) (omega arith)) e
        go b (no q) (yes h) = rw (lt-ltb b (k + 1) (omega arith)) (f b q ∙ rw (lt-ltb b k h) at (l.parts b))
        go b (no q) (no h) = rw (le-ltb b (k + 1) (omega arith)) (f b q ∙ rw (le-ltb b k (omega arith)) at (l.parts b))

    untouched : part_in plan k zs ≡ part_in plan k words
    untouched = rw (le-ltb k k (omega arith)) at (l.parts k)

    laid-straw : kind_in plan k ≡ Straw → LaidTo plan words zs (k + 1)
    unfolding words_by
    laid-straw e = here zs l.size (rw e untouched) (λ b q. refl)

    laid-tree : kind_in plan k ≡ Tree → (us : List ℕ) → Summed (first_in plan k) (count_in plan k) zs us → LaidTo plan words us (k + 1)
    unfolding words_by
    laid-tree e us s =
        here us (s.long ∙ l.size)
        (rw e (summed-part (first_in plan k) (count_in plan k) zs us (omega (arith, P.inside k, l.size)) s ∙ ap sums_of untouched))
        (λ b q. same-part (first_in plan b) (count_in plan b) zs us (omega (arith, P.inside b, l.size)) s.long (λ j h. s.other (first_in plan b + j) (out b j q h (dec_lt (first_in plan b + j) (first_in plan k)) (dec_lt (first_in plan b + j) (first_in plan k + count_in plan k)))))
      where
        out : (b j : ℕ) → (b ≡ k → ⊥) → j < count_in plan b → Dec (first_in plan b + j < first_in plan k) → Dec (first_in plan b + j < first_in plan k + count_in plan k)
            → (first_in plan b + j < first_in plan k) ⊎ (first_in plan k + count_in plan k ≤ first_in plan b + j)
        out b j q h (yes u) d = inl u
        out b j q h (no u) (yes v) = absurd (q (P.apart b k (first_in plan b + j) (omega arith) (omega arith) (omega arith) v))
        out b j q h (no u) (no v) = inr (omega arith)

    -- the same, by the plan's words of the bucket
    module _ (h : k < 256) where
      abbrev first : ℕ
      first = get_or plan k 0

      abbrev count : ℕ
      count = get_or plan (count_at + k) 0

      pub part-fits : (first + count ≤ length zs) × (sum (take count (drop first zs)) < 2 ^ 32)
      part-fits =
          rw (← section-front 256 k plan h, ← section-at count_at 256 k plan h) (omega (arith, P.inside k, l.size), rw untouched (P.fits k))

      pub laid_kept : (get_or plan (kinds_at + k) 0 ≡ 2 → ⊥) → LaidTo plan words zs (k + 1)
      laid_kept f = laid-straw (rw (section-at kinds_at 256 k plan h, ne_eqb (get_or plan (kinds_at + k) 0) 2 f))

      pub laid-summed : get_or plan (kinds_at + k) 0 ≡ 2 → (us : List ℕ) → Summed first count zs us → LaidTo plan words us (k + 1)
      laid-summed e us s =
          laid-tree (rw (section-at kinds_at 256 k plan h, eq-eqb (get_or plan (kinds_at + k) 0) 2 e)) us
          (rw (section-front 256 k plan h, section-at count_at 256 k plan h) s)

  -- all of them: a bucket behind the last has none
  pub laid-all : (zs : List ℕ) (k : ℕ) → 256 ≤ k → LaidTo plan words zs k → (b : ℕ) → part_in plan b zs ≡ words_by (kind_in plan b) (part_in plan b words)
  unfolding words_by sums_of firsts_of
  laid-all zs k h l b = go (dec_lt b k)
    where
      nothing : (kind : Kind) → ◌≡◌ {A = List ℕ} [] (words_by kind [])
      nothing Straw = refl
      nothing Tree = refl

      go : Dec (b < k) → part_in plan b zs ≡ words_by (kind_in plan b) (part_in plan b words)
      go (yes u) = rw (lt-ltb b k u) at (l.parts b)
      go (no u) = rw (section-beyond count_at 256 b plan (omega arith)) (nothing (kind_in plan b))
