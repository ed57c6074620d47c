-- The items of a loadable map are a forest, and what follows of their weights: a bucket's is its children's, none is above the devices'
-- total, and an edit of one device's weight changes only what is or holds it, all in one direction. Assumes nothing.
use Rattle.std.specs.Prelude.{◌≡◌, Bool, ◌⊎◌, ltb, length, get_or, Some, Option, None}
use Rattle.std.proofs.Math.Path.{refl, ap}
use Rattle.std.proofs.Common.{sym, ◌∙◌, subst, arith}
use Rattle.std.proofs.Math.Bool.{true, false, cond}
use Rattle.std.proofs.Math.Logic.{inl, inr, ⊎_elim}
use mathlib.Core.List.Memᴰ
use mathlib.Core.List.{List, [], ◌∷◌, map, Memᴰ}
use Prim.Native.Nat.{ℕ, zero, suc, ◌+◌, ◌-◌, ◌<◌, ◌≤◌}
use Rattle.std.proofs.Math.Nat.{le_refl}
use Rattle.std.proofs.Math.Decide.{dec_lt}
use Rattle.std.proofs.Math.Dec.{eqb}
use Rattle.std.proofs.lemmas.List.{length-map}
use Rattle.std.proofs.Math.ListN.{get_or-eq_default}
use borrow.Author.Tests.{leb-true, ltb-true, eqb-true, le-leb, lt-leb}
use Rattle.definitions.specs.declared.Device.{Device}
use Rattle.definitions.specs.declared.Bucket.{Bucket}
use Rattle.definitions.specs.declared.Link.{Link}
use Rattle.definitions.specs.declared.Change.{Change}
use Rattle.definitions.specs.declared.Change.TheVariants.{Acceptance, Weight}
use Rattle.definitions.specs.Lists.{kept, lookup, sum, distinct}
use Rattle.definitions.specs.Straw.{draw_of}
use Rattle.definitions.specs.Map.{Map, bucket_item, is_bucket, bucket_number}
use Rattle.definitions.specs.View.{children_of, bucket_type, type_by, type_of, device_weight, weight_by, weight_in, weight_of, weights_of, view_of}
use Rattle.definitions.specs.Load.{has_device, once, falling, summed, light}
use Rattle.definitions.specs.Edit.{with_weight, with_devices, with_sum, with_sums, put}
use Rattle.laws.specs.Lists.{every-at, get_d-mapped}
use Rattle.laws.specs.Counting.{distinct-kept, distinct_tail}
use Rattle.laws.specs.Members.{mem-every, mem-kept, mem-at, at_mem, not-again, one-member, one_index, map-ext}
use Rattle.laws.specs.Draw.{draw-law}
use Rattle.laws.specs.Kinds.{drawn-child}
use Rattle.laws.specs.Loadable.{Loadable, put-type, put-children, put-weight, sums-leave-weights}
use Rattle.laws.specs.Fuel.{weight-enough, Sinks}

-- ---- forests

-- types fall from an item to its children, no child stands twice, and none has two parents
pub record Forest (kids : ℕ → List ℕ) (kind : ℕ → ℕ) : Type 0 where
  pub falls : (b c : ℕ) → Memᴰ c (kids b) → kind c < kind b
  pub apart : (b : ℕ) → distinct (kids b) ≡ true
  pub one : (a b c : ℕ) → Memᴰ c (kids a) → Memᴰ c (kids b) → a ≡ b

-- item i is d or holds it
pub data Holds (kids : ℕ → List ℕ) (i : ℕ) : ℕ → Type 0 where
  is : {d : ℕ} → i ≡ d → Holds kids i d
  above : {p d : ℕ} → Memᴰ d (kids p) → Holds kids i p → Holds kids i d

-- the weight of item i, f levels deep: its own and its children's
module _ (kids : ℕ → List ℕ) (own : ℕ → ℕ) where
  unfoldable pub weight_at : ℕ → ℕ → ℕ
  weight_at zero i = own i
  weight_at (suc f) i = own i + sum (map (weight_at f) (kids i))

-- two weights of items: they differ at what is or holds d alone, and the second is nowhere less
pub record Raises (kids : ℕ → List ℕ) (d : ℕ) (v w : ℕ → ℕ) : Type 0 where
  pub only : (i : ℕ) → (v i ≡ w i) ⊎ Holds kids i d
  pub rises : (i : ℕ) → v i ≤ w i

module _ (kids : ℕ → List ℕ) (kind : ℕ → ℕ) (F : Forest kids kind) where
  -- a bucket holds what its child holds
  pub holds-up : {b c d : ℕ} → Memᴰ c (kids b) → Holds kids c d → Holds kids b d
  holds-up m (is e) = above (Memᴰ.cast (sym e) m) (is refl)
  holds-up m (above n h) = above n (holds-up m h)

  -- no item is of a smaller type than what it holds
  pub holds-kind : {i d : ℕ} → Holds kids i d → kind d ≤ kind i
  holds-kind (is e) = rw e (le_refl _)
  holds-kind (above {p} {d} m h) = omega (arith, F.falls p d m, holds-kind h)

  no-cycle : {b c p d : ℕ} → Memᴰ c (kids b) → Memᴰ d (kids b) → Memᴰ d (kids p) → Holds kids c p → ⊥
  no-cycle {b} {c} {p} {d} m k n h = omega (arith, F.falls b c m, holds-kind h, ap kind (F.one b p d k n))

  -- at most one child of a bucket is or holds d
  pub one-child : {b c c' d : ℕ} → Memᴰ c (kids b) → Memᴰ c' (kids b) → Holds kids c d → Holds kids c' d → c ≡ c'
  one-child m m' (is e) (is e') = e ∙ sym e'
  one-child m m' (is e) (above n h) = absurd (no-cycle m' (Memᴰ.cast (sym e) m) n h)
  one-child m m' (above n h) (is e) = absurd (no-cycle m (Memᴰ.cast (sym e) m') n h)
  one-child {c'} m m' (above {p} {d} n h) (above {p = q} n' h') = one-child m m' h (subst (Holds kids c') (F.one q p d n' n) h')

  -- of the items of one type at most one is or holds d
  pub one-holder : {i j d : ℕ} → kind i ≡ kind j → Holds kids i d → Holds kids j d → i ≡ j
  one-holder q (is e) (is f) = e ∙ sym f
  one-holder {i} {j} q (is e) (above {p} {d} n h) = absurd (omega (arith, q, ap kind e, F.falls p d n, holds-kind h))
  one-holder {i} {j} q (above {p} {d} n h) (is f) = absurd (omega (arith, q, ap kind f, F.falls p d n, holds-kind h))
  one-holder {j} q (above {p} {d} n h) (above {p = o} n' h') = one-holder q h (subst (Holds kids j) (F.one o p d n' n) h')

  -- two weights of the children of a bucket: only one child's changes, by e at most
  module _ (v w : ℕ → ℕ) (b d e : ℕ) where
    abbrev Moved : ℕ → Type 0
    Moved i = (v i ≡ w i) ⊎ (Holds kids i d × (w i ≤ v i + e))

    abbrev MovedSum : List ℕ → Type 0
    MovedSum l = (sum (map v l) ≡ sum (map w l)) ⊎ ((c : ℕ) × Memᴰ c l × Holds kids c d × (sum (map w l) ≤ sum (map v l) + e))

    moved_sum : (l : List ℕ) → distinct l ≡ true → ((i : ℕ) → Memᴰ i l → Memᴰ i (kids b)) → ((i : ℕ) → Moved i) → MovedSum l
    unfolding sum
    moved_sum [] a k h = inl refl
    moved_sum (i ∷ l) a k h = go (h i) (moved_sum l (distinct_tail i l a) (λ j m. k j (Memᴰ.tail m)) h)
      where
        go : Moved i → MovedSum l → MovedSum (i ∷ l)
        go (inl p) (inl q) = inl (omega arith)
        go (inl p) (inr (c, m, g, q)) = inr (c, Memᴰ.tail m, g, omega arith)
        go (inr (g, p)) (inl q) = inr (i, Memᴰ.head refl, g, omega arith)
        go (inr (g, p)) (inr (c, m, g', q)) =
            absurd (not-again i l a (Memᴰ.cast (one-child (k i (Memᴰ.head refl)) (k c (Memᴰ.tail m)) g g') m))

  -- two runs of weights whose own weights differ at d alone, by e at most
  module _ (own₁ own₂ : ℕ → ℕ) (d e : ℕ) (only : (i : ℕ) → (own₁ i ≡ own₂ i) ⊎ ((i ≡ d) × (own₂ i ≤ own₁ i + e))) where
    -- only what is or holds d changes its weight, and by e at most
    pub changed : (f i : ℕ) → (weight_at kids own₁ f i ≡ weight_at kids own₂ f i) ⊎ (Holds kids i d × (weight_at kids own₂ f i ≤ weight_at kids own₁ f i + e))
    unfolding weight_at
    changed zero i = ⊎_elim (λ p. inl p) (λ p. inr (is p.0, p.1)) (only i)
    changed (suc f) i = go (only i) (moved_sum (weight_at kids own₁ f) (weight_at kids own₂ f) i d e (kids i) (F.apart i) (λ j m. m) (changed f))
      where
        S₁ : ℕ
        S₁ = sum (map (weight_at kids own₁ f) (kids i))

        S₂ : ℕ
        S₂ = sum (map (weight_at kids own₂ f) (kids i))

        go : (own₁ i ≡ own₂ i) ⊎ ((i ≡ d) × (own₂ i ≤ own₁ i + e)) → (S₁ ≡ S₂) ⊎ ((c : ℕ) × Memᴰ c (kids i) × Holds kids c d × (S₂ ≤ S₁ + e))
            → (own₁ i + S₁ ≡ own₂ i + S₂) ⊎ (Holds kids i d × (own₂ i + S₂ ≤ own₁ i + S₁ + e))
        go (inl p) (inl q) = inl (omega arith)
        go (inl p) (inr (c, m, h, q)) = inr (holds-up m h, omega arith)
        go (inr (p, r)) (inl q) = inr (is p, omega arith)
        go (inr (p, r)) (inr (c, m, h, q)) = absurd (omega (arith, F.falls i c m, holds-kind h, ap kind p))

  module _ (d : ℕ) (v w : ℕ → ℕ) (R : Raises kids d v w) where
    abbrev Heavier : ℕ → ℕ → Type 0
    Heavier c i = (v i ≡ w i) ⊎ ((i ≡ c) × (v i ≤ w i))

    abbrev Among : List ℕ → Type 0
    Among l = ((i : ℕ) → Memᴰ i l → v i ≡ w i) ⊎ ((c : ℕ) × Memᴰ c l × Holds kids c d × ((i : ℕ) → Memᴰ i l → Heavier c i))

    cons-all : (P : ℕ → Type 0) {j : ℕ} {l : List ℕ} → P j → ((i : ℕ) → Memᴰ i l → P i) → (i : ℕ) → Memᴰ i (j ∷ l) → P i
    cons-all P p q i (Memᴰ.head e) = subst P (sym e) p
    cons-all P p q i (Memᴰ.tail m) = q i m

    among : (b : ℕ) (l : List ℕ) → ((i : ℕ) → Memᴰ i l → Memᴰ i (kids b)) → Among l
    among b [] k = inl (λ i m. elim m [ ])
    among b (j ∷ l) k = go (R.only j) (among b l (λ i m. k i (Memᴰ.tail m)))
      where
        go : (v j ≡ w j) ⊎ Holds kids j d → Among l → Among (j ∷ l)
        go (inl e) (inl q) = inl (cons-all (λ i. v i ≡ w i) e q)
        go (inl e) (inr (c, m, h, q)) = inr (c, Memᴰ.tail m, h, cons-all (Heavier c) (inl e) q)
        go (inr g) (inl q) = inr (j, Memᴰ.head refl, g, cons-all (Heavier j) (inr (refl, R.rises j)) (λ i m. inl (q i m)))
        go (inr g) (inr (c, m, h, q)) =
            inr (c, Memᴰ.tail m, h, cons-all (Heavier c) (inr (one-child (k j (Memᴰ.head refl)) (k c (Memᴰ.tail m)) g h, R.rises j)) q)

    -- where weights rise by d alone, in a bucket no child's changes, or one child's does, which is or holds d
    pub one-heavier : (b : ℕ) → ((i : ℕ) → Memᴰ i (kids b) → v i ≡ w i)
        ⊎ ((c : ℕ) × Memᴰ c (kids b) × Holds kids c d × ((i : ℕ) → Memᴰ i (kids b) → (v i ≡ w i) ⊎ ((i ≡ c) × (v i ≤ w i))))
    one-heavier b = among b (kids b) (λ i m. m)

sum_mono : (v w : ℕ → ℕ) (l : List ℕ) → ((i : ℕ) → v i ≤ w i) → sum (map v l) ≤ sum (map w l)
unfolding sum
sum_mono v w [] h = le_refl 0
sum_mono v w (i ∷ l) h = omega (arith, h i, sum_mono v w l h)

-- where no own weight is less, no weight is
pub weights-rise : (kids : ℕ → List ℕ) (v w : ℕ → ℕ) → ((i : ℕ) → v i ≤ w i) → (f i : ℕ) → weight_at kids v f i ≤ weight_at kids w f i
unfolding weight_at
weights-rise kids v w h zero i = h i
weights-rise kids v w h (suc f) i = omega (arith, h i, sum_mono (weight_at kids v f) (weight_at kids w f) (kids i) (weights-rise kids v w h f))

sum-zero : (v : ℕ → ℕ) (l : List ℕ) → ((i : ℕ) → v i ≡ 0) → sum (map v l) ≡ 0
unfolding sum
sum-zero v [] h = refl
sum-zero v (i ∷ l) h = omega (arith, h i, sum-zero v l h)

weight-zero : (kids : ℕ → List ℕ) (v : ℕ → ℕ) → ((i : ℕ) → v i ≡ 0) → (f i : ℕ) → weight_at kids v f i ≡ 0
unfolding weight_at
weight-zero kids v h zero i = h i
weight-zero kids v h (suc f) i = omega (arith, h i, sum-zero (weight_at kids v f) (kids i) (weight-zero kids v h f))

-- ---- the items of a map

-- the type of a bucket's item is the bucket's
pub type-bucket : (m : Map) (b : ℕ) → type_of m (bucket_item b) ≡ bucket_type m b
unfolding type_of type_by
type-bucket m b =
    let e : bucket_number (bucket_item b) ≡ b = omega arith in
    rw (le-leb 65536 (bucket_item b) (omega arith), e)

-- a device has type 0
pub type-device : (m : Map) (i : ℕ) → i < 65536 → type_of m i ≡ 0
unfolding type_of type_by
type-device m i h = rw (lt-leb 65536 i h)

-- the children of item i; a device has none
unfoldable pub kids_of : Map → ℕ → List ℕ
kids_of m i = cond (is_bucket i) (children_of m (bucket_number i)) []

-- the children of a bucket's item are the bucket's
pub kids-bucket : (m : Map) (b : ℕ) → kids_of m (bucket_item b) ≡ children_of m b
unfolding kids_of
kids-bucket m b =
    let e : bucket_number (bucket_item b) ≡ b = omega arith in
    rw (le-leb 65536 (bucket_item b) (omega arith), e)

-- an item's child is that of a link from it
pub kid-link : (m : Map) (i c : ℕ) → Memᴰ c (kids_of m i) → (l : Link) × Memᴰ l m.links × (bucket_item l.bucket ≡ i) × (l.child ≡ c)
unfolding kids_of children_of
kid-link m i c = go (is_bucket i) refl
  where
    go : (b : Bool) → is_bucket i ≡ b → Memᴰ c (cond b (children_of m (bucket_number i)) [])
        → (l : Link) × Memᴰ l m.links × (bucket_item l.bucket ≡ i) × (l.child ≡ c)
    go true e n =
        let (l, k, q) = Memᴰ.of_map (λ (l : Link). l.child) (kept (λ (l : Link). eqb l.bucket (bucket_number i)) m.links) n in
        let (j, p) = mem-kept (λ (l : Link). eqb l.bucket (bucket_number i)) m.links k in
        (l, j, omega (arith, eqb-true l.bucket (bucket_number i) p, leb-true 65536 i e), q)
    go false e n = elim n [ ]

-- a child's type is below its bucket's
pub kid-falls : (m : Map) → falling m ≡ true → (b c : ℕ) → Memᴰ c (kids_of m b) → type_of m c < type_of m b
unfolding falling
kid-falls m f b c n =
    let (l, k, p, q) = kid-link m b c n in
    let h = ltb-true (type_of m l.child) (bucket_type m l.bucket) (mem-every (λ (l : Link). ltb (type_of m l.child) (bucket_type m l.bucket)) k f) in
    omega (arith, h, ap (type_of m) p, ap (type_of m) q, type-bucket m l.bucket)

-- the items of a loadable map are a forest
pub forest : (m : Map) → Loadable m → Forest (kids_of m) (type_of m)
unfolding once kids_of children_of distinct
forest m L = record { falls = kid-falls m L.falling; apart = λ b. apart b (is_bucket b); one = one }
  where
    apart : (b : ℕ) (t : Bool) → distinct (cond t (children_of m (bucket_number b)) []) ≡ true
    apart b true = distinct-kept (λ (l : Link). l.child) (λ (l : Link). eqb l.bucket (bucket_number b)) m.links L.once
    apart b false = refl

    one : (a b c : ℕ) → Memᴰ c (kids_of m a) → Memᴰ c (kids_of m b) → a ≡ b
    one a b c n o =
        let (l, k, p, q) = kid-link m a c n in
        let (l', k', p', q') = kid-link m b c o in
        sym p ∙ ap (λ (x : Link). bucket_item x.bucket) (one-member (λ (x : Link). x.child) k k' L.once (q ∙ sym q')) ∙ p'

-- ---- the weights of a map's items

-- the weight that stands in the frame of item i, in a list of devices; a bucket has none
unfoldable pub own_in : List Device → ℕ → ℕ
own_in ds i = cond (is_bucket i) 0 (lookup (λ (d : Device). d.number) (λ (d : Device). d.weight) i ds)

-- the definitions' weight is that of the forest
pub weight-at : (m : Map) (f i : ℕ) → weight_in m f i ≡ weight_at (kids_of m) (own_in m.devices) f i
unfolding weight_in weight_by weight_at own_in kids_of device_weight sum
weight-at m zero i = go (is_bucket i)
  where
    go : (b : Bool) → weight_by m (λ (c : ℕ). 0) i b ≡ cond b 0 (device_weight m i)
    go true = sum-zero (λ (c : ℕ). 0) (children_of m (bucket_number i)) (λ j. refl)
    go false = refl
weight-at m (suc f) i = go (is_bucket i) (weight-at m f)
  where
    W : ℕ → ℕ
    W = weight_at (kids_of m) (own_in m.devices) f

    go : (b : Bool) → ((j : ℕ) → weight_in m f j ≡ W j)
        → weight_by m (weight_in m f) i b ≡ cond b 0 (device_weight m i) + sum (map W (cond b (children_of m (bucket_number i)) []))
    go true h = omega (arith, ap sum (map-ext (weight_in m f) W (children_of m (bucket_number i)) (λ j n. h j)))
    go false h = omega arith

-- a device's weight is what stands in its frame
pub weight-device : (m : Map) (i : ℕ) → i < 65536 → weight_of m i ≡ device_weight m i
unfolding weight_of weight_in weight_by
weight-device m i h = rw (type-device m i h, lt-leb 65536 i h)

-- the devices' total weight
abbrev pub total_of : List Device → ℕ
total_of ds = sum (map (λ (d : Device). d.weight) ds)

-- a bucket's weight is the sum of its children's
pub weight-bucket : (m : Map) → falling m ≡ true → (b : ℕ) → weight_of m (bucket_item b) ≡ sum (weights_of m b)
unfolding weight_in weight_by weights_of
weight-bucket m f b =
    let i = bucket_item b in
    let n : bucket_number i ≡ b = omega arith in
    let e : weight_in m (suc (type_of m i)) i ≡ sum (map (weight_in m (type_of m i)) (children_of m b)) = rw (le-leb 65536 i (omega arith), n) in
    sym (weight-enough m f (suc (type_of m i)) i (omega arith)) ∙ e
    ∙ ap sum
    (map-ext (weight_in m (type_of m i)) (weight_of m) (children_of m b)
    (λ c k. weight-enough m f (type_of m i) c (omega (arith, kid-falls m f i c (rw (kids-bucket m b) k)))))

one_more : (d : Device) (ds : List Device) (i : ℕ) → (own_in ds i ≡ own_in (d ∷ ds) i) ⊎ ((i ≡ d.number) × (own_in (d ∷ ds) i ≤ own_in ds i + d.weight))
unfolding own_in lookup
one_more d ds i = go (is_bucket i) (eqb d.number i) refl
  where
    L : ℕ
    L = lookup (λ (d : Device). d.number) (λ (d : Device). d.weight) i ds

    go : (b t : Bool) → eqb d.number i ≡ t
        → (cond b 0 L ≡ cond b 0 (cond t d.weight L)) ⊎ ((i ≡ d.number) × (cond b 0 (cond t d.weight L) ≤ cond b 0 L + d.weight))
    go true t e = inl refl
    go false true e = inr (sym (eqb-true _ _ e), omega arith)
    go false false e = inl refl

total-bound : (kids : ℕ → List ℕ) (kind : ℕ → ℕ) → Forest kids kind → (ds : List Device) (f i : ℕ) → weight_at kids (own_in ds) f i ≤ total_of ds
unfolding own_in lookup sum
total-bound kids kind F [] f i = omega (arith, weight-zero kids (own_in []) (λ j. none (is_bucket j)) f i)
  where
    none : (b : Bool) → ◌≡◌ {A = ℕ} (cond b 0 0) 0
    none true = refl
    none false = refl
total-bound kids kind F (d ∷ ds) f i =
    ⊎_elim (λ p. omega (arith, p, total-bound kids kind F ds f i)) (λ p. omega (arith, p.1, total-bound kids kind F ds f i))
    (changed kids kind F (own_in ds) (own_in (d ∷ ds)) d.number d.weight (one_more d ds) f i)

module _ (m : Map) (L : Loadable m) where
  -- no weight is above the devices' total
  pub weight-total : (i : ℕ) → weight_of m i ≤ total_of m.devices
  unfolding weight_of
  weight-total i =
      omega (arith, weight-at m (type_of m i) i, total-bound (kids_of m) (type_of m) (forest m L) m.devices (type_of m i) i)

  -- nor above 67,107,840
  pub weight-most : (i : ℕ) → weight_of m i ≤ 67107840
  unfolding light
  weight-most i = omega (arith, weight-total i, leb-true (total_of m.devices) 67107840 L.light)

-- ---- an edit

-- own weights that rise at d alone make weights do so
raised : (kids : ℕ → List ℕ) (kind : ℕ → ℕ) → Forest kids kind → (own₁ own₂ : ℕ → ℕ) (d : ℕ) → ((i : ℕ) → (own₁ i ≡ own₂ i) ⊎ (i ≡ d))
    → ((i : ℕ) → own₁ i ≤ own₂ i) → Raises kids d (λ (i : ℕ). weight_at kids own₁ (kind i) i) (λ (i : ℕ). weight_at kids own₂ (kind i) i)
raised kids kind F own₁ own₂ d only rises =
    record {
      only = λ i.
          ⊎_elim (λ e. inl e) (λ p. inr p.0)
          (changed kids kind F own₁ own₂ d (own₂ d) (λ j. ⊎_elim (λ e. inl e) (λ e. inr (e, omega (arith, ap own₂ e))) (only j)) (kind i) i);
      rises = λ i. weights-rise kids own₁ own₂ rises (kind i) i;
    }

raises-by : {kids : ℕ → List ℕ} {d : ℕ} {v w v' w' : ℕ → ℕ} → ((i : ℕ) → v' i ≡ v i) → ((i : ℕ) → w' i ≡ w i) → Raises kids d v w
    → Raises kids d v' w'
raises-by p q R =
    record {
      only = λ i. ⊎_elim (λ e. inl (p i ∙ e ∙ sym (q i))) (λ g. inr g) (R.only i);
      rises = λ i. omega (arith, p i, q i, R.rises i);
    }

-- a bucket with another weight written
abbrev with_written : Bucket → ℕ → Bucket
with_written b w = record { number = b.number; ty = b.ty; kind = b.kind; weight = w }

-- an edit leaves each item's children
pub put-kids : (m : Map) (c : Option Change) → kids_of (put m c) ≡ kids_of m
unfolding put with_sums kids_of children_of
put-kids m (Some (Acceptance d a)) = refl
put-kids m (Some (Weight d w)) = refl
put-kids m None = refl

-- the weights after an edit are those of the same forest
put-weight-at : (m : Map) (c : Option Change) (i : ℕ) → weight_of (put m c) i ≡ weight_at (kids_of m) (own_in (put m c).devices) (type_of m i) i
unfolding weight_of
put-weight-at m c i =
    weight-at (put m c) (type_of (put m c) i) i
    ∙ ap (λ (k : ℕ → List ℕ). weight_at k (own_in (put m c).devices) (type_of (put m c) i) i) (put-kids m c)
    ∙ ap (λ (f : ℕ). weight_at (kids_of m) (own_in (put m c).devices) f i) (put-type m c i)

module _ (m : Map) (d x : ℕ) (h : has_device m d ≡ true) where
  own_put : (i : ℕ) → own_in (put m (Some (Weight d x))).devices i ≡ cond (is_bucket i) 0 (cond (eqb i d) x (device_weight m i))
  unfolding own_in device_weight
  own_put i = ap (λ (n : ℕ). cond (is_bucket i) 0 n) (put-weight m d x h i)

  own-only : (i : ℕ) → (own_in m.devices i ≡ own_in (put m (Some (Weight d x))).devices i) ⊎ (i ≡ d)
  unfolding own_in device_weight
  own-only i = go (eqb i d) refl
    where
      go : (t : Bool) → eqb i d ≡ t → (own_in m.devices i ≡ own_in (put m (Some (Weight d x))).devices i) ⊎ (i ≡ d)
      go true e = inr (eqb-true i d e)
      go false e = inl (rw (own_put i, e))

  own-more : device_weight m d ≤ x → (i : ℕ) → own_in m.devices i ≤ own_in (put m (Some (Weight d x))).devices i
  unfolding own_in device_weight
  own-more l i = rw (own_put i) (go (is_bucket i) (eqb i d) refl)
    where
      go : (b t : Bool) → eqb i d ≡ t → cond b 0 (device_weight m i) ≤ cond b 0 (cond t x (device_weight m i))
      go true t e = le_refl 0
      go false true e = omega (arith, ap (device_weight m) (eqb-true i d e))
      go false false e = le_refl _

  own-less : x ≤ device_weight m d → (i : ℕ) → own_in (put m (Some (Weight d x))).devices i ≤ own_in m.devices i
  unfolding own_in device_weight
  own-less l i = rw (own_put i) (go (is_bucket i) (eqb i d) refl)
    where
      go : (b t : Bool) → eqb i d ≡ t → cond b 0 (cond t x (device_weight m i)) ≤ cond b 0 (device_weight m i)
      go true t e = le_refl 0
      go false true e = omega (arith, ap (device_weight m) (eqb-true i d e))
      go false false e = le_refl _

  module _ (L : Loadable m) where
    -- an edit that raises a device's weight raises those of what is or holds the device
    pub put-raises : device_weight m d ≤ x → Raises (kids_of m) d (weight_of m) (weight_of (put m (Some (Weight d x))))
    unfolding weight_of
    put-raises l =
        raises-by (λ i. weight-at m (type_of m i) i) (put-weight-at m (Some (Weight d x)))
        (raised (kids_of m) (type_of m) (forest m L) (own_in m.devices) (own_in (put m (Some (Weight d x))).devices) d own-only (own-more l))

    -- and one that lowers it lowers them
    pub put-lowers : x ≤ device_weight m d → Raises (kids_of m) d (weight_of (put m (Some (Weight d x)))) (weight_of m)
    unfolding weight_of
    put-lowers l =
        raises-by (put-weight-at m (Some (Weight d x))) (λ i. weight-at m (type_of m i) i)
        (raised (kids_of m) (type_of m) (forest m L) (own_in (put m (Some (Weight d x))).devices) (own_in m.devices) d
        (λ i. ⊎_elim (λ e. inl (sym e)) (λ e. inr e) (own-only i)) (own-less l))

    -- so an edit of a weight changes no bucket but those that hold the device, and of these the weight alone
    pub only_above : (b₀ : Bucket) (k : ℕ) → k < length m.buckets
        → (get_or (put m (Some (Weight d x))).buckets k b₀ ≡ get_or m.buckets k b₀)
        ⊎ (Holds (kids_of m) (bucket_item (get_or m.buckets k b₀).number) d × (get_or (put m (Some (Weight d x))).buckets k b₀ ≡ with_sum (put m (Some (Weight d x))) (get_or m.buckets k b₀)))
    unfolding put with_sums summed
    only_above b₀ k l = go (dec_lt x (device_weight m d))
      where
        n : Map
        n = with_devices m (map (with_weight d x) m.devices)

        b : Bucket
        b = get_or m.buckets k b₀

        i : ℕ
        i = bucket_item b.number

        written : b.weight ≡ weight_of m i
        written = eqb-true _ _ (every-at (λ (a : Bucket). eqb a.weight (weight_of m (bucket_item a.number))) m.buckets k b₀ L.summed l)

        now : get_or (map (with_sum n) m.buckets) k b₀ ≡ with_sum (put m (Some (Weight d x))) b
        now = get_d-mapped (with_sum n) m.buckets k b₀ b₀ l ∙ ap (with_written b) (sym (sums-leave-weights n i))

        told : (weight_of m i ≡ weight_of (put m (Some (Weight d x))) i) ⊎ Holds (kids_of m) i d
            → (get_or (map (with_sum n) m.buckets) k b₀ ≡ b) ⊎ (Holds (kids_of m) i d × (get_or (map (with_sum n) m.buckets) k b₀ ≡ with_sum (put m (Some (Weight d x))) b))
        told (inl e) = inl (now ∙ ap (with_written b) (sym (written ∙ e)))
        told (inr h) = inr (h, now)

        go : Dec (x < device_weight m d)
            → (get_or (map (with_sum n) m.buckets) k b₀ ≡ b) ⊎ (Holds (kids_of m) i d × (get_or (map (with_sum n) m.buckets) k b₀ ≡ with_sum (put m (Some (Weight d x))) b))
        go (yes h) = told (⊎_elim (λ e. inl (sym e)) (λ g. inr g) ((put-lowers (omega arith)).only i))
        go (no h) = told ((put-raises (omega arith)).only i)

-- and one of an acceptance changes none
pub acceptance-leaves-buckets : (m : Map) (d a : ℕ) → (put m (Some (Acceptance d a))).buckets ≡ m.buckets
unfolding put
acceptance-leaves-buckets m d a = refl

-- the children's weights after an edit
pub put-weights : (m : Map) (c : Option Change) (b : ℕ) → weights_of (put m c) b ≡ map (weight_of (put m c)) (children_of m b)
unfolding weights_of
put-weights m c b = rw (put-children m c b)

-- the weights of a bucket's children, place by place, where weights rise by d alone: all are equal, or one child's alone rises, which is
-- or holds d
pub children-heavier : (m : Map) → Loadable m → (d : ℕ) (v w : ℕ → ℕ) → Raises (kids_of m) d v w → (b : ℕ)
    → (map v (children_of m b) ≡ map w (children_of m b))
    ⊎ ((c : ℕ) × Memᴰ c (children_of m b) × Holds (kids_of m) c d
    × ((n : ℕ) → n < length (children_of m b)
    → (get_or (map v (children_of m b)) n 0 ≡ get_or (map w (children_of m b)) n 0)
    ⊎ ((get_or (children_of m b) n 0 ≡ c) × (get_or (map v (children_of m b)) n 0 ≤ get_or (map w (children_of m b)) n 0))))
children-heavier m L d v w R b = go (children_of m b) (rw (kids-bucket m b) at (one-heavier (kids_of m) (type_of m) (forest m L) d v w R (bucket_item b)))
  where
    go : (l : List ℕ)
        → ((i : ℕ) → Memᴰ i l → v i ≡ w i)
        ⊎ ((c : ℕ) × Memᴰ c l × Holds (kids_of m) c d × ((i : ℕ) → Memᴰ i l → (v i ≡ w i) ⊎ ((i ≡ c) × (v i ≤ w i))))
        → (map v l ≡ map w l)
        ⊎ ((c : ℕ) × Memᴰ c l × Holds (kids_of m) c d
        × ((n : ℕ) → n < length l → (get_or (map v l) n 0 ≡ get_or (map w l) n 0) ⊎ ((get_or l n 0 ≡ c) × (get_or (map v l) n 0 ≤ get_or (map w l) n 0))))
    go l (inl e) = inl (map-ext v w l e)
    go l (inr (c, k, h, q)) = inr (c, k, h, λ n s. rw (get_d-mapped v l n 0 0 s, get_d-mapped w l n 0 0 s) (q (get_or l n 0) (mem-at 0 l n s)))

-- the child of bucket b at this place is or holds d, and it alone weighs more by w than by v
pub record OneHeavier (m : Map) (b d : ℕ) (v w : ℕ → ℕ) : Type 0 where
  pub place : ℕ
  pub inside : place < length (children_of m b)
  pub holds : Holds (kids_of m) (get_or (children_of m b) place 0) d
  pub only : (i : ℕ) → (i ≡ place → ⊥) → get_or (map v (children_of m b)) i 0 ≡ get_or (map w (children_of m b)) i 0
  pub by : ℕ
  pub more : get_or (map w (children_of m b)) place 0 ≡ get_or (map v (children_of m b)) place 0 + by

-- where weights rise by d alone, all of a bucket's are equal, or those of one child differ, told by its place
pub child-heavier : (m : Map) → Loadable m → (d : ℕ) (v w : ℕ → ℕ) → Raises (kids_of m) d v w → (b : ℕ)
    → (map v (children_of m b) ≡ map w (children_of m b)) ⊎ OneHeavier m b d v w
child-heavier m L d v w R b = ⊎_elim (λ e. inl e) (λ t. let (c, k, h, q) = t in inr (told c k h q)) (children-heavier m L d v w R b)
  where
    l : List ℕ
    l = children_of m b

    apart : distinct l ≡ true
    apart = rw (kids-bucket m b) at ((forest m L).apart (bucket_item b))

    told : (c : ℕ) → Memᴰ c l → Holds (kids_of m) c d
        → ((n : ℕ) → n < length l → (get_or (map v l) n 0 ≡ get_or (map w l) n 0) ⊎ ((get_or l n 0 ≡ c) × (get_or (map v l) n 0 ≤ get_or (map w l) n 0)))
        → OneHeavier m b d v w
    told c k h q =
        let (p, s, e) = at_mem 0 k in
        record {
          place = p;
          inside = s;
          holds = rw e h;
          only = λ i f. other i p s e f (dec_lt i (length l));
          by = get_or (map w l) p 0 - get_or (map v l) p 0;
          more = ⊎_elim (λ o. omega (arith, o)) (λ o. omega (arith, o.1)) (q p s);
        }
      where
        other : (i p : ℕ) → p < length l → get_or l p 0 ≡ c → (i ≡ p → ⊥) → Dec (i < length l) → get_or (map v l) i 0 ≡ get_or (map w l) i 0
        other i p s e f (yes g) = ⊎_elim (λ o. o) (λ o. absurd (f (one_index l apart i p g s (o.0 ∙ sym e)))) (q i g)
        other i p s e f (no g) =
            get_or-eq_default (map v l) 0 {n = i} (omega (arith, length-map l v)) ∙ sym (get_or-eq_default (map w l) 0 {n = i} (omega (arith, length-map l w)))

-- what an edit does to a draw: the winner is the same, or where d weighs more it is the child that is or holds d
pub draw-child : (m : Map) → Loadable m → (d : ℕ) (v w : ℕ → ℕ) → Raises (kids_of m) d v w → (seed x r b : ℕ)
    → (draw_of seed x r (children_of m b) (map v (children_of m b)) ≡ draw_of seed x r (children_of m b) (map w (children_of m b)))
    ⊎ ((c : ℕ) × Memᴰ c (children_of m b) × Holds (kids_of m) c d × (draw_of seed x r (children_of m b) (map w (children_of m b)) ≡ Some c))
draw-child m L d v w R seed x r b =
    ⊎_elim (λ e. inl (ap (λ (ws : List ℕ). draw_of seed x r (children_of m b) ws) e))
    (λ t.
    let (c, k, h, q) = t in
    ⊎_elim (λ e. inl e) (λ e. inr (c, k, h, e)) (draw-law seed x r c (children_of m b) (map v (children_of m b)) (map w (children_of m b)) q))
    (children-heavier m L d v w R b)

-- in a loadable map each draw goes down, so no descent is what it is because its fuel ran out (`Fuel.descend-enough`)
pub sinks : (m : Map) → Loadable m → Sinks (view_of m)
unfolding view_of
sinks m L =
    record {
      drawn = λ x r b i e. (forest m L).falls (bucket_item b) i (rw (kids-bucket m b) (drawn-child m x r b i e).0);
      device = type-device m;
    }
