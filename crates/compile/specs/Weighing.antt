-- The loads that the rounds give are the weights of the map's buckets, and none overflows. Assumes nothing.
use Rattle.std.specs.Prelude.{◌≡◌, Bool, true, false, cond, ltb, eqb, length, get_or, set, replicate}
use Rattle.std.proofs.Math.Path.{refl, sym}
use Rattle.std.proofs.Common.{ap, ◌∙◌, inl, inr, arith, add-one, length-set, ltb-true, ltb-false, eqb-true}
use mathlib.Core.List.{List, [], ◌∷◌, map, Memᴰ}
use Prim.Native.Nat.{ℕ, zero, suc, ◌+◌, ◌<◌, ◌≤◌}
use Rattle.std.proofs.Math.ListN.{get_or-eq_default}
use Rattle.std.proofs.lemmas.Bool.{eqb-false}
use Rattle.definitions.specs.declared.Link.{Link}
use Rattle.definitions.specs.Lists.{sum}
use Rattle.definitions.specs.Map.{Map, bucket_item, bucket_number}
use Rattle.definitions.specs.View.{children_of, bucket_type, type_of, device_weight, weight_of, weights_of}
use Rattle.definitions.specs.Load.{link_ranged}
use Rattle.laws.specs.Members.{mem-every, map-ext}
use Rattle.laws.specs.Loadable.{Loadable, ranged-is, link-ranged, ChildRanged}
use Rattle.laws.specs.Forest.{forest, kids_of, type-bucket, kids-bucket, kid-link, weight-device, weight-bucket, weight-most}
use Rattle.hierarchy.specs.Tables.{Tabled, get_d_set, blank}
use Rattle.compile.specs.Links.{Arranged}
use Rattle.weights.specs.Weights.{item_in, Arrays, arrays, Within, load_in, weighed_at, round_to, up_to, Fitting, greatest, at_most, item-bucket, item-device}

-- ---- a child

-- a child of bucket b, as a link has it
pub record Child (m : Map) (b c : ℕ) : Type 0 where
  pub link : Link
  pub mem : Memᴰ link m.links
  pub bucket : link.bucket ≡ b
  pub ranged : ChildRanged c
  pub falls : type_of m c < bucket_type m b

-- each child is one
pub child-of : (m : Map) → Loadable m → (b c : ℕ) → Memᴰ c (children_of m b) → Child m b c
child-of m L b c n =
    let k : Memᴰ c (kids_of m (bucket_item b)) = rw (kids-bucket m b) n in
    let (l, p, q, e) = kid-link m (bucket_item b) c k in
    record {
      link = l;
      mem = p;
      bucket = omega (arith, q);
      ranged = rw e at (link-ranged l (mem-every link_ranged p (ranged-is m L.ranged).links)).child;
      falls = omega (arith, (forest m L).falls (bucket_item b) c k, type-bucket m b);
    }

-- ---- what is known between two buckets of a round

-- the weight of bucket b
abbrev pub bucket_weight : Map → ℕ → ℕ
bucket_weight m b = weight_of m (bucket_item b)

-- the loads of the types up to n, and of the buckets below k of the type behind it
pub record Known (m : Map) (loads : List ℕ) (n k : ℕ) : Type 0 where
  pub size : length loads ≡ 256
  pub below : (b : ℕ) → b < 256 → bucket_type m b ≤ n → get_or loads b 0 ≡ bucket_weight m b
  pub here : (b : ℕ) → b < k → b < 256 → bucket_type m b ≡ suc n → get_or loads b 0 ≡ bucket_weight m b

-- the types up to n + 1 are known after all buckets
known_next : (m : Map) (loads : List ℕ) (n : ℕ) → Known m loads n 256 → Known m loads (suc n) 0
known_next m loads n h =
    record { size = h.size; below = λ b s l. go b s l (eqb (bucket_type m b) (suc n)) refl; here = λ b s. absurd (omega arith) }
  where
    go : (b : ℕ) → b < 256 → bucket_type m b ≤ suc n → (t : Bool) → eqb (bucket_type m b) (suc n) ≡ t → get_or loads b 0 ≡ bucket_weight m b
    go b s l true e = h.here b s s (eqb-true _ _ e)
    go b s l false e = let d : bucket_type m b ≡ suc n → ⊥ = eqb-false _ _ e in h.below b s (omega arith)

module _ (m : Map) (L : Loadable m) where
  -- a bucket of type 0 weighs nothing
  weightless : (b : ℕ) → bucket_type m b ≤ 0 → bucket_weight m b ≡ 0
  unfolding weights_of sum
  weightless b l = weight-bucket m L.falling b ∙ go (children_of m b) refl
    where
      go : (cs : List ℕ) → children_of m b ≡ cs → sum (map (weight_of m) cs) ≡ 0
      go [] e = refl
      go (c ∷ cs) e = absurd (omega (arith, (child-of m L b c (rw e (mathlib.Core.List.Memᴰ.head refl))).falls))

  known-none : Known m (replicate 256 0) 0 0
  known-none =
      let t = blank 256 (λ i. 0) (λ i. refl) in
      record { size = t.size; below = λ b s l. t.at b ∙ sym (weightless b l); here = λ b s. absurd (omega arith) }

  -- where the arrays are the map's
  module _ {first count items devices types : List ℕ} (A : Arranged m first count items) (D : Tabled devices 1024 (device_weight m))
      (T : Tabled types 256 (bucket_type m)) where
    -- the arrays together
    abbrev held : Arrays
    held = arrays first count items devices

    -- what is read of them lies within them
    pub within : Within held
    within =
        record { firsts = A.firsts; counts = A.counts; weighted = D.size; inside = λ b. omega (arith, A.within b, A.long); ranged = A.ranged }

    -- the weight of a child of a known type
    pub item-weight : (loads : List ℕ) (n k c : ℕ) → Known m loads n k → ChildRanged c → type_of m c ≤ n → item_in devices loads c ≡ weight_of m c
    item-weight loads n k c h (inl r) l =
        let s : c < 65536 = omega arith in
        item-device devices loads c s ∙ D.at c ∙ sym (weight-device m c s)
    item-weight loads n k c h (inr r) l =
        let e : bucket_item (bucket_number c) ≡ c = omega arith in
        item-bucket devices loads c r.0
        ∙ h.below (bucket_number c) (omega arith) (omega (arith, type-bucket m (bucket_number c), ap (type_of m) e))
        ∙ ap (weight_of m) e

    -- the load of a bucket whose children's types are known
    pub load-weight : (loads : List ℕ) (n k b : ℕ) → Known m loads n k → bucket_type m b ≡ suc n → load_in held loads b ≡ bucket_weight m b
    unfolding load_in weights_of
    load-weight loads n k b h e =
        rw (A.children b)
        (ap sum
        (map-ext (item_in devices loads) (weight_of m) (children_of m b)
        (λ c q. let d = child-of m L b c q in item-weight loads n k c h d.ranged (omega (arith, d.falls))))
        ∙ sym (weight-bucket m L.falling b))

    -- one bucket more
    known_more : (loads : List ℕ) (n k : ℕ) → k < 256 → Known m loads n k → Known m (weighed_at held types (suc n) loads k) n (suc k)
    unfolding weighed_at
    known_more loads n k s h = go (eqb (get_or types k 0) (suc n)) refl
      where
        v : ℕ
        v = load_in held loads k

        W : ℕ → ℕ
        W = bucket_weight m

        stored : v ≡ W k → (b : ℕ) (t : Bool) → eqb k b ≡ t → ((k ≡ b → ⊥) → get_or loads b 0 ≡ W b) → cond t v (get_or loads b 0) ≡ W b
        stored e b true p q = e ∙ ap W (eqb-true k b p)
        stored e b false p q = q (eqb-false k b p)

        at : v ≡ W k → (b : ℕ) → ((k ≡ b → ⊥) → get_or loads b 0 ≡ W b) → get_or (set loads k v) b 0 ≡ W b
        at e b q = get_d_set loads k v b (omega (arith, h.size)) ∙ stored e b (eqb k b) refl q

        go : (t : Bool) → eqb (get_or types k 0) (suc n) ≡ t → Known m (cond t (set loads k v) loads) n (suc k)
        go true e =
            let w = load-weight loads n k k h (sym (T.at k) ∙ eqb-true _ _ e) in
            record {
              size = length-set loads k v ∙ h.size;
              below = λ b z l. at w b (λ d. h.below b z l);
              here = λ b y z l. at w b (λ d. h.here b (omega arith) z l);
            }
        go false e =
            record {
              size = h.size;
              below = h.below;
              here = λ b y z l.
                  let d : k ≡ b → ⊥ = λ p. eqb-false _ _ e (T.at k ∙ ap (bucket_type m) p ∙ l) in
                  h.here b (omega arith) z l;
            }

    -- the first k buckets of a round
    pub known-round : (loads : List ℕ) (n k : ℕ) → k ≤ 256 → Known m loads n 0 → Known m (round_to held types (suc n) loads k) n k
    unfolding round_to
    known-round loads n zero s h = h
    known-round loads n (suc k) s h = known_more (round_to held types (suc n) loads k) n k (omega arith) (known-round loads n k (omega arith) h)

    -- the types up to n
    pub known : (n : ℕ) → Known m (up_to held types n) n 0
    unfolding up_to
    known zero = known-none
    known (suc n) = known_next m _ n (known-round (up_to held types n) n 256 (omega arith) (known n))

    -- no load overflows
    pub fitting : (n : ℕ) → Fitting held types (n + 1) (up_to held types n)
    fitting n b s e =
        let t : bucket_type m b ≡ suc n = sym (T.at b) ∙ e ∙ add-one n in
        let k = known-round (up_to held types n) n b (omega arith) (known n) in
        rw (add-one n) (omega (arith, load-weight (round_to held types (suc n) (up_to held types n) b) n b b k t, weight-most m L (bucket_item b)))

    -- the types of all buckets passed, each has its weight; one that is not in the map weighs nothing
    pub loads-are : Tabled (up_to held types (greatest types)) 256 (bucket_weight m)
    loads-are = record { size = k.size; at = λ b. go b (ltb b 256) refl }
      where
        k : Known m (up_to held types (greatest types)) (greatest types) 0
        k = known (greatest types)

        go : (b : ℕ) (t : Bool) → ltb b 256 ≡ t → get_or (up_to held types (greatest types)) b 0 ≡ bucket_weight m b
        go b true e = k.below b (ltb-true b 256 e) (omega (arith, T.at b, at_most types b))
        go b false e =
            let h = ltb-false b 256 e in
            get_or-eq_default (up_to held types (greatest types)) 0 (omega (arith, k.size))
            ∙ sym (weightless b (omega (arith, T.at b, get_or-eq_default types 0 {n = b} (omega (arith, T.size)))))

    -- then so has each item
    pub item-is : {loads : List ℕ} → Tabled loads 256 (bucket_weight m) → (c : ℕ) → ChildRanged c → item_in devices loads c ≡ weight_of m c
    item-is {loads = loads} w c r =
        item-weight loads (type_of m c) 0 c (record { size = w.size; below = λ b s l. w.at b; here = λ b s. absurd (omega arith) }) r (omega arith)
