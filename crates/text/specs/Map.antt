-- The layer of frames and the map: good frames that questions 3 and 4 take are the frames of their map, and a map is the map of its frames.
-- Assumes nothing.
use Rattle.std.specs.Prelude.{◌≡◌, true, ◌&&◌, leb, eqb, length, get_or}
use Rattle.std.proofs.Math.Path.{refl}
use Rattle.std.proofs.Common.{sym, ap, ◌∙◌, arith, eq-or-lt_of_le, lit<, length-append}
use Rattle.std.proofs.Math.Logic.{⊎_elim}
use mathlib.Core.List.{List, [], ◌∷◌, ◌++◌, map, append-nil, map-map, map-id}
use Prim.Native.Nat.{ℕ, zero, suc, ◌+◌, ◌<◌, ◌≤◌}
use Rattle.std.proofs.lemmas.List.{length-map}
use borrow.Author.Tests.{eqb-true, le-leb, eq-eqb}
use Rattle.definitions.specs.Lists.{every, kept, linked_from}
use Rattle.definitions.specs.Frames.{Frame, layouts, layout, section, no_frame, first_field}
use Rattle.definitions.specs.Map.{Map, device_in, bucket_in, link_in, step_in, map_in}
use Rattle.definitions.specs.Writing.{frame, device_frame, bucket_frame, link_frame, step_frame, size_of, frames_of}
use Rattle.definitions.specs.Load.{kinds_of, sorted, ordered, counted}
use Rattle.laws.specs.Lists.{both, and_both, every-head, every-tail, every-kept, kept-every, kept_append, kept_same}
use Rattle.text.specs.Frames.{good_frame, fits-length, good-fits}
use Rattle.text.specs.Sections.{section-other, rising-less, in-sections}
use Rattle.text.specs.Places.{of_kind}

-- the frames of a section are of its kind
pub section-kind : (k : ℕ) (fs : List Frame) → every (of_kind k) (section k fs) ≡ true
unfolding section
section-kind k fs = kept-every (of_kind k) fs

-- and good where all are
pub section-good : (k : ℕ) (fs : List Frame) → every good_frame fs ≡ true → every good_frame (section k fs) ≡ true
unfolding section
section-good k fs g = every-kept good_frame (of_kind k) fs g

-- lists of one to four
one : (vs : List ℕ) → length vs ≡ 1 → get_or vs 0 0 ∷ [] ≡ vs
one [] h = absurd (omega (arith, h))
one (a ∷ []) h = refl
one (a ∷ b ∷ vs) h = absurd (omega (arith, h))

two : (vs : List ℕ) → length vs ≡ 2 → get_or vs 0 0 ∷ get_or vs 1 0 ∷ [] ≡ vs
two [] h = absurd (omega (arith, h))
two (a ∷ vs) h = ap (λ (l : List ℕ). a ∷ l) (one vs (omega (arith, h)))

three : (vs : List ℕ) → length vs ≡ 3 → get_or vs 0 0 ∷ get_or vs 1 0 ∷ get_or vs 2 0 ∷ [] ≡ vs
three [] h = absurd (omega (arith, h))
three (a ∷ vs) h = ap (λ (l : List ℕ). a ∷ l) (two vs (omega (arith, h)))

four : (vs : List ℕ) → length vs ≡ 4 → get_or vs 0 0 ∷ get_or vs 1 0 ∷ get_or vs 2 0 ∷ get_or vs 3 0 ∷ [] ≡ vs
four [] h = absurd (omega (arith, h))
four (a ∷ vs) h = ap (λ (l : List ℕ). a ∷ l) (three vs (omega (arith, h)))

-- a frame of kind k with the fields that it has
same-frame : (f : Frame) (k : ℕ) (vs : List ℕ) → f.kind ≡ k → vs ≡ f.fields → frame k vs ≡ f
same-frame f k vs p q = rw (← p, q)

fields : (f : Frame) (k : ℕ) → good_frame f ≡ true → f.kind ≡ k → length f.fields ≡ length (layout k)
fields f k g e = fits-length (layout f.kind) f.fields (good-fits f g) ∙ ap (λ (i : ℕ). length (layout i)) e

-- back to the frames of a section
module _ (fs : List Frame) (g : every good_frame fs ≡ true) where
  back : {A : Type 0} (k : ℕ) (p : Frame → A) (q : A → Frame) → ((f : Frame) → good_frame f ≡ true → f.kind ≡ k → q (p f) ≡ f)
      → map q (map p (section k fs)) ≡ section k fs
  back k p q h = map-map q p (section k fs) ∙ go (section k fs) (section-good k fs g) (section-kind k fs)
    where
      go : (xs : List Frame) → every good_frame xs ≡ true → every (of_kind k) xs ≡ true → map (λ f. q (p f)) xs ≡ xs
      go [] a b = refl
      go (x ∷ xs) a b =
          rw (
            h x (every-head good_frame x xs a) (eqb-true _ _ (every-head (of_kind k) x xs b)),
            go xs (every-tail good_frame x xs a) (every-tail (of_kind k) x xs b),
          )

  -- a section of one frame with one field
  pub single : (k v : ℕ) → length (layout k) ≡ 1 → length (section k fs) ≡ 1 → first_field k fs ≡ v → frame k (v ∷ []) ∷ [] ≡ section k fs
  single k v w n e = go (section k fs) n (section-good k fs g) (section-kind k fs) e
    where
      go : (xs : List Frame) → length xs ≡ 1 → every good_frame xs ≡ true → every (of_kind k) xs ≡ true → get_or (get_or xs 0 no_frame).fields 0 0 ≡ v
          → frame k (v ∷ []) ∷ [] ≡ xs
      go [] n a b e = absurd (omega (arith, n))
      go (x ∷ []) n a b e =
          let i : x.kind ≡ k = eqb-true _ _ (every-head (of_kind k) x [] b) in
          rw (← e) (ap (λ (f : Frame). f ∷ []) (same-frame x k _ i (one x.fields (fields x k (every-head good_frame x [] a) i ∙ w))))
      go (x ∷ y ∷ xs) n a b e = absurd (omega (arith, n))

-- what question 3 says
pub record Ordered (fs : List Frame) : Type 0 where
  pub sorted : sorted fs ≡ true
  pub one-first : length (section 0 fs) ≡ 1
  pub one_last : length (section 5 fs) ≡ 1

-- question 3, taken apart
pub in_order : (fs : List Frame) → ordered fs ≡ true → Ordered fs
unfolding ordered
in_order fs e =
    let a = both (sorted fs && eqb (length (section 0 fs)) 1) (eqb (length (section 5 fs)) 1) e in
    let b = both (sorted fs) (eqb (length (section 0 fs)) 1) a.0 in
    record { sorted = b.0; one-first = eqb-true _ _ b.1; one_last = eqb-true _ _ a.1 }

-- and put together
pub is-ordered : (fs : List Frame) → Ordered fs → ordered fs ≡ true
unfolding ordered
is-ordered fs o = simp (o.sorted, eq-eqb _ _ o.one-first, eq-eqb _ _ o.one_last)

-- the number of frames before the last, by sections
pub counts : (fs : List Frame) → every good_frame fs ≡ true → Ordered fs
    → length fs ≡ 1 + (length (section 1 fs) + (length (section 2 fs) + (length (section 3 fs) + length (section 4 fs)))) + 1
counts fs g o =
    let e = ap length (in-sections fs g o.sorted) in
    e ∙ simp length-append (omega (arith, o.one-first, o.one_last))

-- good frames in order, with a true count, are the frames of their map
pub frames-map : (fs : List Frame) → every good_frame fs ≡ true → ordered fs ≡ true → counted fs ≡ true → frames_of (map_in fs) ≡ fs
unfolding counted frames_of map_in layouts
frames-map fs g q n =
    let o = in_order fs q in
    let e : first_field 5 fs + 1 ≡ length fs = eqb-true _ _ n in
    let size : first_field 5 fs ≡ size_of (map_in fs) = simp length-map (omega (arith, e, counts fs g o)) in
    rw (
      back fs g 1 device_in device_frame (λ f h i. same-frame f 1 _ i (three f.fields (fields f 1 h i))),
      back fs g 2 bucket_in bucket_frame (λ f h i. same-frame f 2 _ i (four f.fields (fields f 2 h i))),
      back fs g 3 link_in link_frame (λ f h i. same-frame f 3 _ i (two f.fields (fields f 3 h i))),
      back fs g 4 step_in step_frame (λ f h i. same-frame f 4 _ i (four f.fields (fields f 4 h i))),
      single fs g 5 (size_of (map_in fs)) refl o.one_last size,
    )
    (ap (λ (l : List Frame). l ++ (section 1 fs ++ (section 2 fs ++ (section 3 fs ++ (section 4 fs ++ section 5 fs)))))
    (single fs g 0 (first_field 0 fs) refl o.one-first refl) ∙ sym (in-sections fs g o.sorted))

-- blocks of frames, one for each of n kinds from k on
unfoldable pub blocks : (ℕ → List Frame) → ℕ → ℕ → List Frame
blocks b k zero = []
blocks b k (suc n) = b k ++ blocks b (suc k) n

section-append : (k : ℕ) (fs gs : List Frame) → section k (fs ++ gs) ≡ section k fs ++ section k gs
unfolding section
section-append k fs gs = kept_append (of_kind k) fs gs

section-same : (k : ℕ) (fs : List Frame) → every (of_kind k) fs ≡ true → section k fs ≡ fs
unfolding section
section-same k fs e = kept_same (of_kind k) fs e

section-none : (j k : ℕ) (fs : List Frame) → (j ≡ k → ⊥) → every (of_kind j) fs ≡ true → section k fs ≡ []
unfolding section kept
section-none j k [] n e = refl
section-none j k (f ∷ fs) n e =
    section-other k f fs (λ p. n (sym (eqb-true _ _ (every-head (of_kind j) f fs e)) ∙ p)) ∙ section-none j k fs n (every-tail (of_kind j) f fs e)

module _ (b : ℕ → List Frame) (u : (k : ℕ) → every (of_kind k) (b k) ≡ true) where
  none_before : (n k j : ℕ) → j < k → section j (blocks b k n) ≡ []
  unfolding blocks section kept
  none_before zero k j h = refl
  none_before (suc n) k j h =
      section-append j (b k) (blocks b (suc k) n) ∙ rw (section-none k j (b k) (λ p. omega (arith, p)) (u k), none_before n (suc k) j (omega arith))

  -- section j of blocks is block j
  pub block : (n k j : ℕ) → k ≤ j → j < k + n → section j (blocks b k n) ≡ b j
  unfolding blocks
  block zero k j h l = absurd (omega arith)
  block (suc n) k j h l = section-append j (b k) (blocks b (suc k) n) ∙ ⊎_elim (λ p. here p) (λ p. later p (block n (suc k) j p (omega arith))) (eq-or-lt_of_le h)
    where
      here : k ≡ j → section j (b k) ++ section j (blocks b (suc k) n) ≡ b j
      here p = rw (← p, section-same k (b k) (u k), none_before n (suc k) k (omega arith)) (append-nil (b k))

      later : k < j → section j (blocks b (suc k) n) ≡ b j → section j (b k) ++ section j (blocks b (suc k) n) ≡ b j
      later p ih = rw (section-none k j (b k) (λ q. omega (arith, q)) (u k)) ih

  rising-after : (k : ℕ) (fs gs : List Frame) → every (of_kind k) fs ≡ true → linked_from leb k (kinds_of gs) ≡ true → linked_from leb k (kinds_of (fs ++ gs)) ≡ true
  unfolding linked_from
  rising-after k [] gs e r = r
  rising-after k (f ∷ fs) gs e r =
      let i : f.kind ≡ k = eqb-true _ _ (every-head (of_kind k) f fs e) in
      and_both (le-leb k f.kind (omega (arith, i))) (rw i (rising-after k fs gs (every-tail (of_kind k) f fs e) r))

  -- their kinds rise
  pub rising-blocks : (n k : ℕ) → linked_from leb k (kinds_of (blocks b k n)) ≡ true
  unfolding blocks linked_from
  rising-blocks zero k = refl
  rising-blocks (suc n) k = rising-after k (b k) (blocks b (suc k) n) (u k) (rising-less (suc k) k (blocks b (suc k) n) (omega arith) (rising-blocks n (suc k)))

-- the blocks of a map's frames
block_of : Map → ℕ → List Frame
block_of m zero = frame 0 (m.groups ∷ []) ∷ []
block_of m (suc zero) = map device_frame m.devices
block_of m (suc (suc zero)) = map bucket_frame m.buckets
block_of m (suc (suc (suc zero))) = map link_frame m.links
block_of m (suc (suc (suc (suc zero)))) = map step_frame m.steps
block_of m (suc (suc (suc (suc (suc zero))))) = frame 5 (size_of m ∷ []) ∷ []
block_of m (suc (suc (suc (suc (suc (suc k)))))) = []

-- frames made of records of one kind
pub uniform : {A : Type 0} (k : ℕ) (g : A → Frame) (xs : List A) → ((x : A) → (g x).kind ≡ k) → every (of_kind k) (map g xs) ≡ true
unfolding every
uniform k g [] h = refl
uniform k g (x ∷ xs) h = and_both (eq-eqb _ _ (h x)) (uniform k g xs h)

block-kind : (m : Map) (k : ℕ) → every (of_kind k) (block_of m k) ≡ true
unfolding block_of every
block-kind m zero = refl
block-kind m (suc zero) = uniform 1 device_frame m.devices (λ x. refl)
block-kind m (suc (suc zero)) = uniform 2 bucket_frame m.buckets (λ x. refl)
block-kind m (suc (suc (suc zero))) = uniform 3 link_frame m.links (λ x. refl)
block-kind m (suc (suc (suc (suc zero)))) = uniform 4 step_frame m.steps (λ x. refl)
block-kind m (suc (suc (suc (suc (suc zero))))) = refl
block-kind m (suc (suc (suc (suc (suc (suc k)))))) = refl

by_blocks : (m : Map) → frames_of m ≡ blocks (block_of m) 0 6
unfolding frames_of blocks block_of
by_blocks m = refl

section-of : (m : Map) (j : ℕ) → j < 6 → section j (frames_of m) ≡ block_of m j
section-of m j h = rw (by_blocks m) (block (block_of m) (block-kind m) 6 0 j (omega arith) (omega arith))

-- a map is the map of its frames
pub map-frames : (m : Map) → map_in (frames_of m) ≡ m
unfolding map_in block_of
map-frames m =
    rw (
      section-of m 0 (lit< tt),
      section-of m 1 (lit< tt),
      section-of m 2 (lit< tt),
      section-of m 3 (lit< tt),
      section-of m 4 (lit< tt),
      map-map device_in device_frame m.devices,
      map-map bucket_in bucket_frame m.buckets,
      map-map link_in link_frame m.links,
      map-map step_in step_frame m.steps,
      map-id m.devices,
      map-id m.buckets,
      map-id m.links,
      map-id m.steps,
    )

-- question 3 of a map's frames
pub map-ordered : (m : Map) → ordered (frames_of m) ≡ true
unfolding block_of
map-ordered m =
    is-ordered (frames_of m)
    (record {
      sorted = rw (by_blocks m) (rising-blocks (block_of m) (block-kind m) 6 0);
      one-first = ap length (section-of m 0 (lit< tt));
      one_last = ap length (section-of m 5 (lit< tt));
    })

-- how many frames a map has
pub length-frames : (m : Map) → length (frames_of m) ≡ size_of m + 1
unfolding frames_of
length-frames m = simp (length-append, length-map) (omega arith)

last-field : (m : Map) → first_field 5 (frames_of m) ≡ size_of m
unfolding block_of
last-field m = ap (λ (s : List Frame). get_or (get_or s 0 no_frame).fields 0 0) (section-of m 5 (lit< tt))

-- question 4 of a map's frames
pub map-counted : (m : Map) → counted (frames_of m) ≡ true
unfolding counted
map-counted m = eq-eqb (first_field 5 (frames_of m) + 1) (length (frames_of m)) (rw (last-field m) (sym (length-frames m)))
