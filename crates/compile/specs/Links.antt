-- The links of one bucket stand together, so where they begin and how many they are gives the bucket's children. Assumes nothing.
use Rattle.std.specs.Prelude.{◌≡◌, Bool, ◌||◌, ◌&&◌, ℕ, zero, suc, ◌+◌, ◌-◌, ◌<◌, ◌≤◌, ltb, get_or, take, drop, set, replicate}
use Rattle.std.proofs.Math.Path.{refl, sym, ap}
use Rattle.std.proofs.Common.{◌∙◌, inl, inr, lit<, length-set, length-take, drop-cons, ltb-true, ltb-false, eqb-true, ne_eqb}
use Rattle.std.proofs.Math.Bool.{true, false, cond}
use mathlib.Core.List.{List, [], ◌∷◌, map}
use native.Mathlib.Omega.{arith}
use Rattle.std.proofs.Math.Dec.{eqb}
use Rattle.std.proofs.Math.ListN.{length, length-drop, get_or-map, get_or-eq_default}
use Rattle.std.proofs.lemmas.List.{length-map}
use Rattle.std.proofs.Math.Seq.{drop-length, get_or-take, get_or-drop, ext_get_or}
use Rattle.std.proofs.lemmas.Bool.{eqb-false}
use Rattle.definitions.specs.declared.Link.{Link}
use Rattle.definitions.specs.Lists.{kept, linked_from, linked}
use Rattle.definitions.specs.Map.{Map}
use Rattle.definitions.specs.View.{children_of}
use Rattle.definitions.specs.Load.{link_ranged, link_below}
use Rattle.laws.specs.Lists.{both, every-at, linked-head, linked-tail, linked-rest}
use Rattle.laws.specs.Loadable.{Loadable, ranged-is, rising-is, link-ranged, ChildRanged, bounds}
use Rattle.text.specs.Records.{no_link}
use Rattle.hierarchy.specs.Arrays.{part_at, ItemRange}
use Rattle.hierarchy.specs.Tables.{Tabled, stored, get_d_set, blank}

-- ---- where a bucket's links stand

-- the links of bucket b
abbrev pub links_of : ℕ → List Link → List Link
links_of b ls = kept (λ (l : Link). eqb l.bucket b) ls

-- how many they are
abbrev pub count_of : ℕ → List Link → ℕ
count_of b ls = length (links_of b ls)

-- the place of the first, in links that begin at place k; 0 where there is none
unfoldable pub first_from : ℕ → ℕ → List Link → ℕ
first_from b k [] = 0
first_from b k (l ∷ ls) = cond (eqb l.bucket b) k (first_from b (suc k) ls)

-- ---- they stand together

kept-most : {A : Type 0} (p : A → Bool) (xs : List A) → length (kept p xs) ≤ length xs
unfolding kept
kept-most p [] = omega arith
kept-most p (x ∷ xs) = go (p x) (kept-most p xs)
  where
    go : (t : Bool) → length (kept p xs) ≤ length xs → length (cond t (x ∷ kept p xs) (kept p xs)) ≤ suc (length xs)
    go true h = omega arith
    go false h = omega arith

none_left : {A : Type 0} (xs : List A) → length xs ≡ 0 → xs ≡ []
none_left [] e = refl
none_left (x ∷ xs) e = absurd (omega (arith, e))

-- they end within the links
pub inside : (b k : ℕ) (ls : List Link) → first_from b k ls + count_of b ls ≤ k + length ls
unfolding first_from kept
inside b k [] = omega arith
inside b k (l ∷ ls) = go (eqb l.bucket b) (kept-most (λ (l : Link). eqb l.bucket b) ls) (inside b (suc k) ls)
  where
    go : (t : Bool) → count_of b ls ≤ length ls → first_from b (suc k) ls + count_of b ls ≤ suc k + length ls
        → cond t k (first_from b (suc k) ls) + length (cond t (l ∷ links_of b ls) (links_of b ls)) ≤ k + suc (length ls)
    go true h r = omega arith
    go false h r = omega arith

-- they begin at place k or behind it
not-before : (b k : ℕ) (ls : List Link) → 0 < count_of b ls → k ≤ first_from b k ls
unfolding first_from kept
not-before b k [] h = absurd (omega arith)
not-before b k (l ∷ ls) h = go (eqb l.bucket b) h (not-before b (suc k) ls)
  where
    go : (t : Bool) → 0 < length (cond t (l ∷ links_of b ls) (links_of b ls)) → (0 < count_of b ls → suc k ≤ first_from b (suc k) ls)
        → k ≤ cond t k (first_from b (suc k) ls)
    go true h r = omega arith
    go false h r = omega (arith, r h)

not-below : (k l : Link) → link_below k l ≡ true → k.bucket ≤ l.bucket
unfolding link_below
not-below k l e = go (ltb k.bucket l.bucket) refl e
  where
    go : (t : Bool) → ltb k.bucket l.bucket ≡ t → t || (eqb k.bucket l.bucket && ltb k.child l.child) ≡ true
        → k.bucket ≤ l.bucket
    go true h r = omega (arith, ltb-true k.bucket l.bucket h)
    go false h r = omega (arith, eqb-true k.bucket l.bucket (both (eqb k.bucket l.bucket) (ltb k.child l.child) r).0)

-- behind a link of a later bucket there is none of bucket b
none-behind : (b : ℕ) (k : Link) (ls : List Link) → linked_from link_below k ls ≡ true → b < k.bucket → links_of b ls ≡ []
unfolding kept
none-behind b k [] r h = refl
none-behind b k (l ∷ ls) r h =
    let o = not-below k l (linked-head link_below k l ls r) in
    rw (ne_eqb l.bucket b (λ e. omega arith)) (none-behind b l ls (linked-tail link_below k l ls r) (omega arith))

-- behind one of bucket b, the first are the bucket's
first-behind : (b : ℕ) (k : Link) (ls : List Link) → linked_from link_below k ls ≡ true → b ≤ k.bucket → take (count_of b ls) ls ≡ links_of b ls
unfolding kept
first-behind b k [] r h = refl
first-behind b k (l ∷ ls) r h =
    go (eqb l.bucket b) refl (not-below k l (linked-head link_below k l ls r)) (linked-tail link_below k l ls r) (first-behind b l ls)
  where
    go : (t : Bool) → eqb l.bucket b ≡ t → k.bucket ≤ l.bucket → linked_from link_below l ls ≡ true
        → (linked_from link_below l ls ≡ true → b ≤ l.bucket → take (count_of b ls) ls ≡ links_of b ls)
        → take (length (cond t (l ∷ links_of b ls) (links_of b ls))) (l ∷ ls) ≡ cond t (l ∷ links_of b ls) (links_of b ls)
    go true e o s rest = ap (λ (z : List Link). l ∷ z) (rest s (omega (arith, eqb-true l.bucket b e)))
    go false e o s rest = rw (none-behind b l ls s (let n : l.bucket ≡ b → ⊥ = eqb-false l.bucket b e in omega arith))

-- from the first on, as many as they are, they are the bucket's
pub together : (b k : ℕ) (ls : List Link) → linked link_below ls ≡ true → take (count_of b ls) (drop (first_from b k ls - k) ls) ≡ links_of b ls
unfolding first_from kept linked
together b k [] r = refl
together b k (l ∷ ls) r = go (eqb l.bucket b) refl (together b (suc k) ls (linked-rest link_below l ls r))
  where
    F : ℕ
    F = first_from b (suc k) ls

    later : (n : ℕ) → count_of b ls ≡ n → take (count_of b ls) (drop (F - suc k) ls) ≡ links_of b ls
        → take (count_of b ls) (drop (F - k) (l ∷ ls)) ≡ links_of b ls
    later zero e ih = rw (none_left (links_of b ls) e)
    later (suc n) e ih =
        let q : F - k ≡ suc (F - suc k) = omega (arith, not-before b (suc k) ls (omega (arith, e))) in
        rw q ih

    go : (t : Bool) → eqb l.bucket b ≡ t → take (count_of b ls) (drop (F - suc k) ls) ≡ links_of b ls
        → take (length (cond t (l ∷ links_of b ls) (links_of b ls))) (drop (cond t k F - k) (l ∷ ls)) ≡ cond t (l ∷ links_of b ls) (links_of b ls)
    go true e ih =
        let q : k - k ≡ 0 = omega arith in
        rw q (ap (λ (z : List Link). l ∷ z) (first-behind b l ls r (omega (arith, eqb-true l.bucket b e))))
    go false e ih = later (count_of b ls) refl ih

-- ---- the arrays of the links

-- the children of all buckets in one list, with the part of each: an entry past the links is 0
pub record Arranged (m : Map) (first count items : List ℕ) : Type 0 where
  pub firsts : length first ≡ 256
  pub counts : length count ≡ 256
  pub long : length items ≡ 1280
  pub within : (b : ℕ) → get_or first b 0 + get_or count b 0 ≤ 1280
  pub children : (b : ℕ) → part_at first count b items ≡ children_of m b
  pub ranged : (i : ℕ) → ItemRange (get_or items i 0)

-- the same of the links from the k-th on
pub record ArrangedFrom (ls : List Link) (first count items : List ℕ) (k : ℕ) : Type 0 where
  pub firsts : Tabled first 256 (λ b. first_from b k (drop k ls))
  pub counts : Tabled count 256 (λ b. count_of b (drop k ls))
  pub long : length items ≡ 1280
  pub child : (i : ℕ) → k ≤ i → get_or items i 0 ≡ (get_or ls i no_link).child

-- no count is above that of all links
pub count_most : (ls : List Link) (first count items : List ℕ) (k b : ℕ) → ArrangedFrom ls first count items k → get_or count b 0 ≤ length ls
count_most ls first count items k b a =
    omega (arith, a.counts.at b, kept-most (λ (l : Link). eqb l.bucket b) (drop k ls), length-drop k ls)

-- a link's bucket has its place
pub link-small : (m : Map) → Loadable m → (k : ℕ) (l : Link) → 0 < k → k ≤ length m.links → l ≡ get_or m.links (k - 1) no_link → l.bucket < 256
link-small m L k l p h e =
    let r = every-at link_ranged m.links (k - 1) no_link (ranged-is m L.ranged).links (omega arith) in
    rw e (omega (arith, (link-ranged (get_or m.links (k - 1) no_link) r).bucket))

-- none yet
pub arranged-none : (ls : List Link) (k : ℕ) → k ≡ length ls → ArrangedFrom ls (replicate 256 0) (replicate 256 0) (replicate 1280 0) k
unfolding first_from kept
arranged-none ls k e =
    record {
      firsts = blank 256 (λ b. first_from b k (drop k ls)) (λ b. rw (e, drop-length ls));
      counts = blank 256 (λ b. count_of b (drop k ls)) (λ b. rw (e, drop-length ls));
      long = (blank 1280 (λ i. 0) (λ i. refl)).size;
      child = λ i h.
          (blank 1280 (λ i. 0) (λ i. refl)).at i ∙ sym (ap (λ (l : Link). l.child) (get_or-eq_default ls no_link (omega arith)));
    }

module _ (ls : List Link) (k : ℕ) (l : Link) (first count items : List ℕ) (h : l.bucket < 256) (a : ArrangedFrom ls first count items (suc k))
    (s : k < length ls) (e : l ≡ get_or ls k no_link) where
  behind : drop k ls ≡ l ∷ drop (suc k) ls
  behind = rw (drop-cons ls k no_link s, ← e)

  firsts_more : Tabled (set first l.bucket k) 256 (λ b. first_from b k (drop k ls))
  unfolding first_from
  firsts_more =
      stored first 256 (λ b. first_from b (suc k) (drop (suc k) ls)) (λ b. first_from b k (drop k ls)) l.bucket k a.firsts h (λ b. rw behind)

  counts-more : Tabled (set count l.bucket (get_or count l.bucket 0 + 1)) 256 (λ b. count_of b (drop k ls))
  unfolding kept
  counts-more =
      stored count 256 (λ b. count_of b (drop (suc k) ls)) (λ b. count_of b (drop k ls)) l.bucket (get_or count l.bucket 0 + 1) a.counts h
      (λ b. rw behind (go b (eqb l.bucket b) refl))
    where
      go : (b : ℕ) (t : Bool) → eqb l.bucket b ≡ t
          → cond t (get_or count l.bucket 0 + 1) (count_of b (drop (suc k) ls))
          ≡ length (cond t (l ∷ links_of b (drop (suc k) ls)) (links_of b (drop (suc k) ls)))
      go b true q = rw (eqb-true l.bucket b q) (omega (arith, a.counts.at b))
      go b false q = refl

  child-more : length ls ≤ 1280 → (i : ℕ) → k ≤ i → get_or (set items k l.child) i 0 ≡ (get_or ls i no_link).child
  child-more n i g = get_d_set items k l.child i (omega (arith, a.long)) ∙ go (eqb k i) refl
    where
      go : (t : Bool) → eqb k i ≡ t → cond t l.child (get_or items i 0) ≡ (get_or ls i no_link).child
      go true q = rw (← eqb-true k i q, ← e)
      go false q = let d : k ≡ i → ⊥ = eqb-false k i q in a.child i (omega arith)

-- one more
pub arranged-more : (ls : List Link) (k : ℕ) (l : Link) (first count items : List ℕ) → 0 < k → k ≤ length ls → length ls ≤ 1280
    → l ≡ get_or ls (k - 1) no_link → l.bucket < 256 → ArrangedFrom ls first count items k
    → ArrangedFrom ls (set first l.bucket (k - 1)) (set count l.bucket (get_or count l.bucket 0 + 1)) (set items (k - 1) l.child) (k - 1)
arranged-more ls zero l first count items p s n e h a = absurd (omega arith)
arranged-more ls (suc k) l first count items p s n e h a =
    let q : suc k - 1 ≡ k = omega arith in
    let r : l ≡ get_or ls k no_link = rw q at e in
    rw q
    (record {
      firsts = firsts_more ls k l first count items h a (omega arith) r;
      counts = counts-more ls k l first count items h a (omega arith) r;
      long = length-set items k l.child ∙ a.long;
      child = child-more ls k l first count items h a (omega arith) r n;
    })

module _ (m : Map) (L : Loadable m) (first count items : List ℕ) (a : ArrangedFrom m.links first count items 0) where
  -- where the links of bucket b begin, and how many they are
  abbrev at : ℕ → ℕ
  at b = first_from b 0 m.links

  abbrev many : ℕ → ℕ
  many b = count_of b m.links

  part-within : (b : ℕ) → at b + many b ≤ length m.links
  part-within b = omega (arith, inside b 0 m.links)

  part-links : (b : ℕ) → take (many b) (drop (at b) m.links) ≡ links_of b m.links
  part-links b =
      let q : at b - 0 ≡ at b = omega arith in
      rw q at (together b 0 m.links (rising-is m L.rising).links)

  part-children : (b : ℕ) → take (many b) (drop (at b) items) ≡ children_of m b
  unfolding children_of
  part-children b =
      let h = part-within b in
      let g = (bounds m L).links in
      let n : length (take (many b) (drop (at b) items)) ≡ many b = simp (length-take, length-drop, a.long) (omega arith) in
      ext_get_or 0 (take (many b) (drop (at b) items)) (map (λ (l : Link). l.child) (links_of b m.links))
      (n ∙ sym (length-map (links_of b m.links) (λ (l : Link). l.child)))
      (λ j s.
      let r : j < many b = omega arith in
      get_or-take (many b) (drop (at b) items) j 0 r ∙ get_or-drop (at b) items j 0 ∙ a.child (at b + j) (omega arith)
      ∙ sym
      (get_or-map (λ (l : Link). l.child) (links_of b m.links) j no_link
      ∙ ap (λ (ls : List Link). (get_or ls j no_link).child) (sym (part-links b))
      ∙ ap (λ (l : Link). l.child) (get_or-take (many b) (drop (at b) m.links) j no_link r ∙ get_or-drop (at b) m.links j no_link)))

  item-range : (i : ℕ) → ItemRange (get_or m.links i no_link).child
  item-range i = go (ltb i (length m.links)) refl
    where
      child-range : (c : ℕ) → ChildRanged c → ItemRange c
      child-range c (inl h) = inl h
      child-range c (inr h) = inr (h.0, omega arith)

      go : (t : Bool) → ltb i (length m.links) ≡ t → ItemRange (get_or m.links i no_link).child
      go true e =
          child-range (get_or m.links i no_link).child
          (link-ranged (get_or m.links i no_link) (every-at link_ranged m.links i no_link (ranged-is m L.ranged).links (ltb-true _ _ e))).child
      go false e = inl (rw (get_or-eq_default m.links no_link (ltb-false i (length m.links) e)) (lit< tt))

  all : Arranged m first count items
  all =
      record {
        firsts = a.firsts.size;
        counts = a.counts.size;
        long = a.long;
        within = λ b. omega (arith, a.firsts.at b, a.counts.at b, part-within b, (bounds m L).links);
        children = λ b. rw (a.firsts.at b, a.counts.at b) (part-children b);
        ranged = λ i. rw (a.child i (omega arith)) (item-range i);
      }

-- all of them
pub arranged-all : (m : Map) → Loadable m → (first count items : List ℕ) (k : ℕ) → k ≤ 0 → ArrangedFrom m.links first count items k
    → Arranged m first count items
arranged-all m L first count items zero h a = all m L first count items a
arranged-all m L first count items (suc k) h a = absurd (omega arith)
