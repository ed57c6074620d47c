-- Loadability on the record and on the bytes agree: bytes that load takes are the text of a loadable map, and a loadable map's text is
-- taken by load, which reads that map from it. Assumes nothing.
use Rattle.std.specs.Prelude.{◌≡◌, Bool, true, false, ◌&&◌, ◌||◌, ◌⊎◌, ℕ, ◌+◌, ◌*◌, ◌^◌, ◌<◌, ◌≤◌, leb}
use Rattle.std.proofs.Math.Path.{refl, ap}
use Rattle.std.proofs.Common.{sym, ◌∙◌, inl, inr, ⊎_elim, arith, lit<}
use mathlib.Core.List.{List, [], ◌∷◌, ◌++◌, map}
use Rattle.std.proofs.Math.Dec.{eqb}
use Rattle.std.proofs.Math.ListN.{length, length-append}
use Rattle.std.proofs.lemmas.List.{length-map}
use borrow.Author.Tests.{lt-ltb, le-leb, eq-eqb, eqb-true, leb-true}
use Rattle.definitions.specs.declared.Device.{Device}
use Rattle.definitions.specs.declared.Bucket.{Bucket}
use Rattle.definitions.specs.declared.Link.{Link}
use Rattle.definitions.specs.declared.Step.{Step}
use Rattle.definitions.specs.Lists.{every, sum}
use Rattle.definitions.specs.Frames.{Frame, layouts, layout, line_of, bytes_of, text_of, line_length}
use Rattle.definitions.specs.Map.{Map, map_of, bucket_item}
use Rattle.definitions.specs.View.{weight_of}
use Rattle.definitions.specs.Writing.{frame, device_frame, bucket_frame, link_frame, step_frame, size_of, frames_of, map_text}
use Rattle.definitions.specs.Load.{within, device_ranged, bucket_ranged, link_ranged, take_ranged, select_ranged, emit_ranged, step_ranged, summed, load_number, loadable}
use Rattle.laws.specs.Lists.{both, and_both, every-head, every-tail, every_append, every_map, every-mono}
use Rattle.laws.specs.Loadable.{Loadable, loadable-is, is-loadable, ranged-is, device-ranged, bucket-ranged, link-ranged, bounds}
use Rattle.laws.specs.Forest.{weight-most}
use Rattle.text.specs.Frames.{fits, good_frame, frame-is-good, length-line}
use Rattle.text.specs.Places.{text-append, length-text}
use Rattle.text.specs.Map.{uniform}
use Rattle.text.specs.RoundTrip.{Fits, text-of-map, map-of-text, framed}
use Rattle.text.specs.Loading.{behind-text, loaded}

-- ---- fields in range have room in their frames

device-good : (d : Device) → device_ranged d ≡ true → good_frame (device_frame d) ≡ true
unfolding layouts fits
device-good d e =
    let r = device-ranged d e in
    frame-is-good (device_frame d) (lit< tt)
    (and_both (lt-ltb d.number (16 ^ 4) (omega (arith, r.number))) (and_both (lt-ltb d.weight (16 ^ 8) (omega (arith, r.weight))) (and_both (lt-ltb d.acceptance (16 ^ 8) (omega (arith, r.acceptance))) refl)))

-- of a bucket, where question 23 is answered yes too: no sum has more than eight digits
abbrev bucket_whole : Bucket → Bool
bucket_whole b = bucket_ranged b && leb b.weight 67107840

bucket-good : (b : Bucket) → bucket_whole b ≡ true → good_frame (bucket_frame b) ≡ true
unfolding layouts fits
bucket-good b e =
    let h = both (bucket_ranged b) (leb b.weight 67107840) e in
    let r = bucket-ranged b h.0 in
    frame-is-good (bucket_frame b) (lit< tt)
    (and_both (lt-ltb b.number (16 ^ 4) (omega (arith, r.number))) (and_both (lt-ltb b.ty (16 ^ 2) (omega (arith, r.most)))
    (and_both (lt-ltb b.kind (16 ^ 2) (omega (arith, r.kinds.1))) (and_both (lt-ltb b.weight (16 ^ 8) (omega (arith, leb-true b.weight 67107840 h.1))) refl))))

link-good : (l : Link) → link_ranged l ≡ true → good_frame (link_frame l) ≡ true
unfolding layouts fits
link-good l e =
    let r = link-ranged l e in
    frame-is-good (link_frame l) (lit< tt)
    (and_both (lt-ltb l.bucket (16 ^ 4) (omega (arith, r.bucket))) (and_both (lt-ltb l.child (16 ^ 8) (⊎_elim (λ h. omega (arith, h)) (λ h. omega (arith, h.1)) r.child)) refl))

-- each field of a step in range is small
record StepSmall (s : Step) : Type 0 where
  step : s.step ≤ 5
  count : s.count ≤ 16
  ty : s.ty ≤ 254
  bucket : s.bucket ≤ 255

four : (a b c d : Bool) → a && b && c && d ≡ true → (a ≡ true) × (b ≡ true) × (c ≡ true) × (d ≡ true)
four a b c d e =
    let z = both (a && b && c) d e in
    let y = both (a && b) c z.0 in
    let x = both a b y.0 in
    (x.0, x.1, y.1, z.1)

either : (a b : Bool) → (a || b) ≡ true → (a ≡ true) ⊎ (b ≡ true)
either true b e = inl refl
either false b e = inr e

step_small : (s : Step) → step_ranged s ≡ true → StepSmall s
unfolding step_ranged take_ranged select_ranged emit_ranged
step_small s e =
    ⊎_elim
    (λ h.
    ⊎_elim
    (λ t.
    let q = four (eqb s.step 1) (eqb s.count 0) (eqb s.ty 0) (leb s.bucket 255) t in
    record {
      step = omega (arith, eqb-true s.step 1 q.0);
      count = omega (arith, eqb-true s.count 0 q.1);
      ty = omega (arith, eqb-true s.ty 0 q.2);
      bucket = leb-true _ _ q.3;
    })
    (λ t.
    let q = four (within 2 3 s.step || eqb s.step 5) (within 1 16 s.count) (leb s.ty 254) (eqb s.bucket 0) t in
    let a : s.step ≤ 5 =
    ⊎_elim (λ h. omega (arith, leb-true s.step 3 (both (leb 2 s.step) (leb s.step 3) h).1)) (λ h. omega (arith, eqb-true s.step 5 h))
    (either (within 2 3 s.step) (eqb s.step 5) q.0) in
    let b = both (leb 1 s.count) (leb s.count 16) q.1 in
    record {
      step = a;
      count = leb-true _ _ b.1;
      ty = leb-true _ _ q.2;
      bucket = omega (arith, eqb-true s.bucket 0 q.3);
    })
    (either (take_ranged s) (select_ranged s) h))
    (λ t.
    let q = four (eqb s.step 4) (eqb s.count 0) (eqb s.ty 0) (eqb s.bucket 0) t in
    record {
      step = omega (arith, eqb-true s.step 4 q.0);
      count = omega (arith, eqb-true s.count 0 q.1);
      ty = omega (arith, eqb-true s.ty 0 q.2);
      bucket = omega (arith, eqb-true s.bucket 0 q.3);
    })
    (either (take_ranged s || select_ranged s) (emit_ranged s) e)

step-good : (s : Step) → step_ranged s ≡ true → good_frame (step_frame s) ≡ true
unfolding layouts fits
step-good s e =
    let r = step_small s e in
    frame-is-good (step_frame s) (lit< tt)
    (and_both (lt-ltb s.step (16 ^ 2) (omega (arith, r.step))) (and_both (lt-ltb s.count (16 ^ 2) (omega (arith, r.count)))
    (and_both (lt-ltb s.ty (16 ^ 2) (omega (arith, r.ty))) (and_both (lt-ltb s.bucket (16 ^ 4) (omega (arith, r.bucket))) refl))))

single : (k v w : ℕ) → k < 6 → layout k ≡ w ∷ [] → v < 16 ^ w → good_frame (frame k (v ∷ [])) ≡ true
unfolding fits
single k v w h e l = frame-is-good (frame k (v ∷ [])) h (rw e (and_both (lt-ltb v (16 ^ w) l) refl))

rows : {A : Type 0} (f : A → Frame) (p : A → Bool) (xs : List A) → ((x : A) → p x ≡ true → good_frame (f x) ≡ true)
    → every p xs ≡ true → every good_frame (map f xs) ≡ true
rows f p xs h e = rw (every_map good_frame f xs) (every-mono p (λ (x : _). good_frame (f x)) xs h e)

-- two tests that give a third
every_two : {A : Type 0} (p q r : A → Bool) (xs : List A) → ((x : A) → p x ≡ true → q x ≡ true → r x ≡ true)
    → every p xs ≡ true → every q xs ≡ true → every r xs ≡ true
unfolding every
every_two p q r [] h a b = refl
every_two p q r (x ∷ xs) h a b =
    and_both (h x (every-head p x xs a) (every-head q x xs b)) (every_two p q r xs h (every-tail p x xs a) (every-tail q x xs b))

-- ---- a loadable map's text

module _ (m : Map) (L : Loadable m) where
  abbrev tail4 : List Frame
  tail4 = frame 5 (size_of m ∷ []) ∷ []

  counted-good : good_frame (frame 5 (size_of m ∷ [])) ≡ true
  unfolding layouts
  counted-good = let b = bounds m L in single 5 (size_of m) 4 (lit< tt) refl (omega (arith, b.devices, b.buckets, b.links, b.steps))

  buckets-whole : every bucket_whole m.buckets ≡ true
  unfolding summed
  buckets-whole =
      every_two bucket_ranged (λ (b : Bucket). eqb b.weight (weight_of m (bucket_item b.number))) bucket_whole m.buckets
      (λ b r e. and_both r (le-leb b.weight 67107840 (omega (arith, eqb-true b.weight _ e, weight-most m L (bucket_item b.number)))))
      (ranged-is m L.ranged).buckets L.summed

  -- each field has room
  pub loadable-fits : Fits m ≡ true
  unfolding frames_of every layouts
  loadable-fits =
      let r = ranged-is m L.ranged in
      let s = map step_frame m.steps in
      let l = map link_frame m.links in
      let b = map bucket_frame m.buckets in
      let d = map device_frame m.devices in
      and_both (single 0 m.groups 8 (lit< tt) refl (omega (arith, r.most)))
      (rw (every_append good_frame d (b ++ (l ++ (s ++ tail4))), every_append good_frame b (l ++ (s ++ tail4)), every_append good_frame l (s ++ tail4), every_append good_frame s tail4)
      (and_both (rows device_frame device_ranged m.devices device-good r.devices)
      (and_both (rows bucket_frame bucket_whole m.buckets bucket-good buckets-whole)
      (and_both (rows link_frame link_ranged m.links link-good r.links)
      (and_both (rows step_frame step_ranged m.steps step-good r.steps) (and_both counted-good refl))))))

  section-length : {A : Type 0} (k : ℕ) (f : A → Frame) (p : A → Bool) (xs : List A) → ((x : A) → (f x).kind ≡ k)
      → ((x : A) → p x ≡ true → good_frame (f x) ≡ true) → every p xs ≡ true → length (text_of (map f xs)) ≡ length xs * (line_length k + 1)
  section-length k f p xs h g e = length-text k (map f xs) (rows f p xs g e) (uniform k f xs h) ∙ ap (λ (n : ℕ). n * (line_length k + 1)) (length-map xs f)

  -- it is well below the 65,536 bytes of question 1
  pub loadable-length : length (map_text m) ≤ 65536
  unfolding frames_of bytes_of layouts sum
  loadable-length =
      let r = ranged-is m L.ranged in
      let z = bounds m L in
      let s = map step_frame m.steps in
      let l = map link_frame m.links in
      let b = map bucket_frame m.buckets in
      let d = map device_frame m.devices in
      let f = frame 0 (m.groups ∷ []) in
      let n0 = length-line f (single 0 m.groups 8 (lit< tt) refl (omega (arith, r.most))) in
      let n1 = section-length 1 device_frame device_ranged m.devices (λ x. refl) device-good r.devices in
      let n2 = section-length 2 bucket_frame bucket_whole m.buckets (λ x. refl) bucket-good buckets-whole in
      let n3 = section-length 3 link_frame link_ranged m.links (λ x. refl) link-good r.links in
      let n4 = section-length 4 step_frame step_ranged m.steps (λ x. refl) step-good r.steps in
      let n5 = length-line (frame 5 (size_of m ∷ [])) counted-good in
      let e1 = length-append (line_of f) (10 ∷ text_of (d ++ (b ++ (l ++ (s ++ tail4))))) in
      let e2 = ap length (text-append d (b ++ (l ++ (s ++ tail4)))) ∙ length-append (text_of d) (text_of (b ++ (l ++ (s ++ tail4)))) in
      let e3 = ap length (text-append b (l ++ (s ++ tail4))) ∙ length-append (text_of b) (text_of (l ++ (s ++ tail4))) in
      let e4 = ap length (text-append l (s ++ tail4)) ∙ length-append (text_of l) (text_of (s ++ tail4)) in
      let e5 = ap length (text-append s tail4) ∙ length-append (text_of s) (text_of tail4) in
      let e6 = length-append (line_of (frame 5 (size_of m ∷ []))) (10 ∷ []) in
      omega (arith, n0, n1, n2, n3, n4, n5, e1, e2, e3, e4, e5, e6, z.devices, z.buckets, z.links, z.steps)

  -- WRITE THEN LOAD: load takes the text, and reads the map from it
  pub written-map : map_of (map_text m) ≡ m
  written-map = map-of-text m loadable-fits

  pub written-loads : load_number (map_text m) ≡ 0
  unfolding loadable
  written-loads =
      behind-text (map_text m) (framed m loadable-fits loadable-length) ∙ rw written-map (eqb-true _ _ (is-loadable m L))

-- LOAD THEN WRITE: bytes that load takes are the text of the map read from them, which is loadable
pub loaded-text : (t : List ℕ) → load_number t ≡ 0 → map_text (map_of t) ≡ t
loaded-text t e = text-of-map t (loaded t e).framed

pub loaded-map : (t : List ℕ) → load_number t ≡ 0 → Loadable (map_of t)
unfolding loadable
loaded-map t e = loadable-is (map_of t) (eq-eqb _ 0 (sym (behind-text t (loaded t e).framed) ∙ e))

-- on the record and on the bytes
pub loads-agree : (m : Map) → (loadable m ≡ true → load_number (map_text m) ≡ 0) × ((t : List ℕ) → load_number t ≡ 0 → map_of t ≡ m → loadable m ≡ true)
loads-agree m = (λ e. written-loads m (loadable-is m e), λ t e q. rw (← q) (is-loadable (map_of t) (loaded-map t e)))
