-- Change 4: how the values hold the weights of a tree's children. Word i of the bucket's part is what children 0 to i weigh together, so that a
-- node weighs the difference of two words, and the draw has each node weight without a pass over the children.
use Rattle.std.specs.Prelude.{◌≡◌, refl, Bool, true, false, cond, List, [], ◌∷◌, ℕ, zero, suc, min, max, ◌+◌, ◌-◌, ◌<◌, ◌≤◌, ◌^◌, ltb, length, get_or}
use Rattle.std.proofs.Common.{arith}
use Rattle.definitions.specs.declared.Kind.{Kind}
use Rattle.definitions.specs.declared.Kind.TheVariants.{Straw, Tree}
use Rattle.definitions.specs.Tree.{height_of}

-- f 0, f 1, .., in all n
unfoldable pub firsts_of : ℕ → (ℕ → ℕ) → List ℕ
firsts_of zero f = []
firsts_of (suc n) f = f 0 ∷ firsts_of n (λ (i : ℕ). f (suc i))

module _ (sums : List ℕ) where
  -- what the children before place i weigh together, where those before a node weigh lo and those before its end hi. It is held between these,
  -- so that any words give weights; behind the last child there is none.
  unfoldable pub before : ℕ → ℕ → ℕ → ℕ
  before i lo hi = cond (ltb i (length sums)) (max lo (min (get_or sums (i - 1) 0) hi)) hi

  -- the weight of leaf i under the node of height j whose first leaf is a
  unfoldable pub leaf_weight : ℕ → ℕ → ℕ → ℕ → ℕ → ℕ
  leaf_weight zero a lo hi i = hi - lo
  leaf_weight (suc j) a lo hi i = cond (ltb i (a + 2 ^ j)) (leaf_weight j a lo (before (a + 2 ^ j) lo hi) i) (leaf_weight j (a + 2 ^ j) (before (a + 2 ^ j) lo hi) hi i)

  -- what all weigh together
  abbrev pub total_in : ℕ
  total_in = get_or sums (length sums - 1) 0

  -- the weights of n children
  unfoldable pub weights_from : ℕ → List ℕ
  weights_from n = firsts_of n (leaf_weight (height_of n) 0 0 total_in)

-- the weights of n children, of a bucket of this kind, of which these are the values
unfoldable pub weights_by : Kind → ℕ → List ℕ → List ℕ
weights_by Straw n words = words
weights_by Tree n words = weights_from words n

-- ---- laws

pub firsts_of-length : (n : ℕ) (f : ℕ → ℕ) → length (firsts_of n f) ≡ n
unfolding firsts_of
firsts_of-length zero f = refl
firsts_of-length (suc n) f = rw (firsts_of-length n (λ (i : ℕ). f (suc i)))

pub firsts_of-at : (n : ℕ) (f : ℕ → ℕ) (i : ℕ) → i < n → get_or (firsts_of n f) i 0 ≡ f i
unfolding firsts_of
firsts_of-at zero f i h = absurd (omega arith)
firsts_of-at (suc n) f zero h = refl
firsts_of-at (suc n) f (suc i) h = firsts_of-at n (λ (i : ℕ). f (suc i)) i (omega arith)

-- what is before a place in a node is between what is before the node and before its end
pub before-between : (sums : List ℕ) (i lo hi : ℕ) → lo ≤ hi → (lo ≤ before sums i lo hi) × (before sums i lo hi ≤ hi)
unfolding before
before-between sums i lo hi h = go (ltb i (length sums))
  where
    go : (t : Bool) → (lo ≤ cond t (max lo (min (get_or sums (i - 1) 0) hi)) hi) × (cond t (max lo (min (get_or sums (i - 1) 0) hi)) hi ≤ hi)
    go true = (omega arith, omega arith)
    go false = (h, omega arith)
