-- The arrays together: the view that they give is the map's, and a draw reads inside them. Assumes nothing.
use Rattle.std.specs.Prelude.{◌≡◌, Bool, ◌&&◌, ℕ, zero, suc, ◌+◌, ◌-◌, ◌<◌, ◌≤◌, eqb, get_or, take, drop, Option}
use Rattle.std.proofs.Math.Path.{refl, sym, ap}
use Rattle.std.proofs.Common.{subst, ◌∙◌, length-take, length-drop, get_or-take, get_or-drop}
use Rattle.std.proofs.Math.Bool.{true, false, cond}
use mathlib.Core.List.{List, [], ◌∷◌, map, Memᴰ}
use native.Mathlib.Omega.{arith}
use Rattle.std.proofs.Math.Dec.{leb}
use Rattle.std.proofs.Math.ListN.{length}
use Rattle.std.proofs.lemmas.List.{length-map}
use borrow.Author.Tests.{leb-true, le-leb}
use Rattle.definitions.specs.declared.Bucket.{Bucket}
use Rattle.definitions.specs.declared.Link.{Link}
use Rattle.definitions.specs.declared.Change.{Change}
use Rattle.definitions.specs.Lists.{every, lookup}
use Rattle.definitions.specs.Hash.{S}
use Rattle.definitions.specs.Map.{Map, is_bucket, bucket_number, bucket_item}
use Rattle.definitions.specs.View.{children_of, bucket_type, kind_from, kind_number, bucket_kind, type_by, type_of, acceptance_of, device_weight, weight_of, weights_of, view_of}
use Rattle.definitions.specs.Load.{bucket_ranged, has_bucket, has_item, narrow}
use Rattle.definitions.specs.Edit.{put}
use Rattle.laws.specs.Lists.{both, every-at, every-head, every-tail, every-mono}
use Rattle.laws.specs.Counting.{number_at}
use Rattle.laws.specs.Members.{mem-every, mem-at, map-ext}
use Rattle.laws.specs.Loadable.{Loadable, ranged-is, bucket-ranged, present-is, put-children, put-bucket-type, put-kind-number}
use Rattle.laws.specs.Forest.{kids_of, kids-bucket, forest, weight-bucket, weight-most}
use Rattle.text.specs.Records.{no_bucket}
use Rattle.hierarchy.specs.Sums.{weights_by}
use Rattle.hierarchy.specs.Arrays.{firsts_in, counts_in, types_in, kinds_in, kind_in, seed_in, first_in, count_in, children_in, part_at, part_of, child_in, type_in, acceptances_in, view_in, Sound}
use Rattle.hierarchy.specs.Tables.{Tabled}
use Rattle.compile.specs.Links.{Arranged}
use Rattle.weights.specs.Weights.{item_in}
use Rattle.compile.specs.Trees.{words_by, words-again, part_in, Parts}
use Rattle.compile.specs.Weighing.{child-of, bucket_weight, item-is}

-- the plan of a map
pub record Planned (m : Map) (plan : List ℕ) : Type 0 where
  pub arranged : Arranged m (firsts_in plan) (counts_in plan) (children_in plan)
  pub typed : Tabled (types_in plan) 256 (bucket_type m)
  pub kinded : Tabled (kinds_in plan) 256 (kind_number m)
  pub seeded : seed_in plan ≡ S

-- arrays that are the map's, laid into the plan
pub planned-of : (m : Map) (plan : List ℕ) {first count items types kinds : List ℕ} → Arranged m first count items → Tabled types 256 (bucket_type m)
    → Tabled kinds 256 (kind_number m) → firsts_in plan ≡ first → counts_in plan ≡ count → types_in plan ≡ types → kinds_in plan ≡ kinds
    → children_in plan ≡ items → seed_in plan ≡ S → Planned m plan
planned-of m plan a t u f k y z i s = record { arranged = rw (f, k, i) a; typed = rw y t; kinded = rw z u; seeded = s }

-- a map that load takes, its plan, and the weights of its devices by number: all that the weights of buckets and children come of
pub record Weighs (m : Map) (plan own : List ℕ) : Type 0 where
  pub loadable : Loadable m
  pub planned : Planned m plan
  pub owned : Tabled own 1024 (device_weight m)

-- ---- what an edit leaves as it is

-- a map of the same children, types and kinds has the same plan
pub same-planned : (m n : Map) {plan : List ℕ} → ((b : ℕ) → children_of n b ≡ children_of m b) → ((b : ℕ) → bucket_type n b ≡ bucket_type m b)
    → ((b : ℕ) → kind_number n b ≡ kind_number m b) → Planned m plan → Planned n plan
same-planned m n c y z k =
    let a = k.arranged in
    let t = k.typed in
    let u = k.kinded in
    record {
      arranged =
          record {
            firsts = a.firsts;
            counts = a.counts;
            long = a.long;
            within = a.within;
            children = λ b. a.children b ∙ sym (c b);
            ranged = a.ranged;
          };
      typed = record { size = t.size; at = λ b. t.at b ∙ sym (y b) };
      kinded = record { size = u.size; at = λ b. u.at b ∙ sym (z b) };
      seeded = k.seeded;
    }

pub put-planned : (m : Map) (c : Option Change) {plan : List ℕ} → Planned m plan → Planned (put m c) plan
put-planned m c = same-planned m (put m c) (put-children m c) (put-bucket-type m c) (put-kind-number m c)

-- ---- parts of a mapped list

drop-map : (f : ℕ → ℕ) (n : ℕ) (xs : List ℕ) → drop n (map f xs) ≡ map f (drop n xs)
drop-map f zero xs = refl
drop-map f (suc n) [] = refl
drop-map f (suc n) (x ∷ xs) = drop-map f n xs

take-map : (f : ℕ → ℕ) (n : ℕ) (xs : List ℕ) → take n (map f xs) ≡ map f (take n xs)
take-map f zero xs = refl
take-map f (suc n) [] = refl
take-map f (suc n) (x ∷ xs) = ap (λ (l : List ℕ). f x ∷ l) (take-map f n xs)

-- ---- ranges

lookup-most : {A : Type 0} (f g : A → ℕ) (n i : ℕ) (xs : List A) → every (λ (x : A). leb (g x) n) xs ≡ true → lookup f g i xs ≤ n
unfolding lookup
lookup-most f g n i [] e = omega arith
lookup-most f g n i (x ∷ xs) e =
    go (eqb (f x) i) (leb-true (g x) n (every-head (λ y. leb (g y) n) x xs e)) (lookup-most f g n i xs (every-tail (λ y. leb (g y) n) x xs e))
  where
    go : (t : Bool) → g x ≤ n → lookup f g i xs ≤ n → cond t (g x) (lookup f g i xs) ≤ n
    go true p q = p
    go false p q = q

module _ (m : Map) (L : Loadable m) where
  -- no type is above 255
  pub type-most : (b : ℕ) → bucket_type m b ≤ 255
  unfolding bucket_type
  type-most b =
      lookup-most (λ (k : Bucket). k.number) (λ (k : Bucket). k.ty) 255 b m.buckets
      (every-mono bucket_ranged (λ (k : Bucket). leb k.ty 255) m.buckets (λ k e. le-leb k.ty 255 (bucket-ranged k e).most) (ranged-is m L.ranged).buckets)

  -- no bucket has more than 64 children
  pub children-most : (b : ℕ) → length (children_of m b) ≤ 64
  unfolding narrow has_bucket
  children-most b = go (children_of m b) refl
    where
      go : (cs : List ℕ) → children_of m b ≡ cs → length cs ≤ 64
      go [] e = omega arith
      go (c ∷ cs) e =
          let d = child-of m L b c (rw e (Memᴰ.head refl)) in
          let h : has_bucket m d.link.bucket ≡ true
          = (both (has_bucket m d.link.bucket) (has_item m d.link.child)
          (mem-every (λ (l : Link). has_bucket m l.bucket && has_item m l.child) d.mem (present-is m L.present).links)).0 in
          let (k, l, q) = number_at (λ (x : Bucket). x.number) no_bucket d.link.bucket m.buckets h in
          let n = leb-true (length (children_of m (get_or m.buckets k no_bucket).number)) 64
          (every-at (λ (x : Bucket). leb (length (children_of m x.number)) 64) m.buckets k no_bucket L.narrow l) in
          omega (arith, n, ap (λ (x : ℕ). length (children_of m x)) (q ∙ d.bucket), ap (λ (l : List ℕ). length l) e)

-- ---- the arrays of a map

module _ (m : Map) (L : Loadable m) {plan : List ℕ} (K : Planned m plan) where
  abbrev A : Arranged m (firsts_in plan) (counts_in plan) (children_in plan)
  A = K.arranged

  abbrev T : Tabled (types_in plan) 256 (bucket_type m)
  T = K.typed

  -- the types of all items
  types_are : (i : ℕ) → type_in plan i ≡ type_of m i
  unfolding type_of type_by
  types_are i = go (is_bucket i)
    where
      go : (t : Bool) → cond t (get_or (types_in plan) (bucket_number i) 0) 0 ≡ type_by m i t
      go true = T.at (bucket_number i)
      go false = refl

  -- a bucket's part has its children
  count-is : (b : ℕ) → count_in plan b ≡ length (children_of m b)
  count-is b =
      let n : length (part_of plan b plan) ≡ count_in plan b = simp (length-take, length-drop) (omega (arith, A.within b, A.long)) in
      sym n ∙ ap (λ (cs : List ℕ). length cs) (A.children b)

  child-at : (b j : ℕ) → j < count_in plan b → Memᴰ (child_in plan b j) (children_of m b)
  child-at b j h =
      let e : get_or (children_of m b) j 0 ≡ child_in plan b j
      = ap (λ (cs : List ℕ). get_or cs j 0) (sym (A.children b))
      ∙ get_or-take (count_in plan b) (drop (first_in plan b) (children_in plan)) j 0 h ∙ get_or-drop (first_in plan b) (children_in plan) j 0 in
      subst (λ (c : ℕ). Memᴰ c (children_of m b)) e (mem-at 0 (children_of m b) j (omega (arith, count-is b)))

  -- and a draw reads inside them
  pub sound-is : Sound plan
  sound-is =
      record {
        inside = λ b h. omega (arith, A.within b, A.long);
        narrow = λ b h. omega (arith, count-is b, children-most m L b);
        ranged = λ b j h n. A.ranged (first_in plan b + j);
        falls = λ b j h n.
            let c = child_in plan b j in
            omega (arith, (child-of m L b c (child-at b j n)).falls, types_are c, T.at b);
        small = λ b h. omega (arith, T.at b, type-most m L b);
      }

  -- the weights laid out for the children: a bucket's part has those of its children
  pub weights-are : {own loads : List ℕ} → Tabled own 1024 (device_weight m) → Tabled loads 256 (bucket_weight m)
      → (b : ℕ) → part_at (firsts_in plan) (counts_in plan) b (map (item_in own loads) (children_in plan)) ≡ weights_of m b
  unfolding weights_of
  weights-are {own = own} {loads = loads} D W b =
      rw (drop-map (item_in own loads) (first_in plan b) (children_in plan), take-map (item_in own loads) (count_in plan b) (drop (first_in plan b) (children_in plan)), A.children b)
      (map-ext (item_in own loads) (weight_of m) (children_of m b) (λ c q. item-is m L A D T W c (child-of m L b c q).ranged))

  -- the kinds
  kind-is : (b : ℕ) → kind_in plan b ≡ bucket_kind m b
  unfolding bucket_kind
  kind-is b = ap kind_from (K.kinded.at b)

  -- the parts of the children's weights, and of the words that are laid over them
  pub parts_are : (ws : List ℕ) → ((b : ℕ) → part_in plan b ws ≡ weights_of m b) → Parts plan ws
  parts_are ws w =
      record {
        inside = λ b. omega (arith, A.within b);
        apart = λ b c i h l p q.
            let e = (forest m L).one (bucket_item b) (bucket_item c) (get_or (children_in plan) i 0) (kid b i h l) (kid c i p q) in
            omega (arith, e);
        fits = λ b. rw (w b, ← weight-bucket m L.falling b) (omega (arith, weight-most m L (bucket_item b)));
      }
    where
      kid : (b i : ℕ) → first_in plan b ≤ i → i < first_in plan b + count_in plan b → Memᴰ (get_or (children_in plan) i 0) (kids_of m (bucket_item b))
      kid b i h l =
          let e : first_in plan b + (i - first_in plan b) ≡ i = omega arith in
          rw (kids-bucket m b) (subst (λ (k : ℕ). Memᴰ (get_or (children_in plan) k 0) (children_of m b)) e (child-at b (i - first_in plan b) (omega arith)))

  -- with values in which these words and the acceptances of the devices lie
  module _ (values : List ℕ) (P : Tabled (acceptances_in values) 1024 (acceptance_of m))
      (w : (b : ℕ) → part_of plan b values ≡ words_by (kind_in plan b) (weights_of m b)) where
    weights-in : (b : ℕ) → weights_by (kind_in plan b) (length (part_of plan b plan)) (part_of plan b values) ≡ weights_of m b
    unfolding weights_of
    weights-in b =
        let n : length (part_of plan b plan) ≡ length (weights_of m b)
        = ap (λ (cs : List ℕ). length cs) (A.children b) ∙ sym (length-map (children_of m b) (weight_of m)) in
        rw (n, w b) (words-again (kind_in plan b) (weights_of m b))

    -- the view is the map's
    pub view-is : view_in plan values ≡ view_of m
    unfolding view_of
    view-is =
        λ i.
        record {
          seed = K.seeded i;
          kind = λ b. kind-is b i;
          children = λ b. A.children b i;
          weights = λ b. weights-in b i;
          type = λ x. types_are x i;
          acceptance = λ d. P.at d i;
        }
