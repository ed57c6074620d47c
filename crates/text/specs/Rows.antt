-- The places of the lines: row k of section j starts at the base of j plus k lines. Assumes nothing.
use Rattle.std.specs.Prelude.{◌≡◌, refl, true, ℕ, zero, suc, ◌+◌, ◌-◌, ◌*◌, ◌<◌, ◌≤◌, take, drop}
use Rattle.std.proofs.Common.{sym, ◌∙◌, subst, arith, add-zero, zero-add, add-suc, suc-add, length-take-le, eqb-true, lt-ltb}
use Rattle.std.proofs.Math.Path.{ap}
use mathlib.Core.List.{List, ◌∷◌, ◌++◌, append_assoc, append-nil}
use Rattle.std.proofs.Math.ListN.{length, get_or, length-append, get_or-append}
use Rattle.std.proofs.Math.Seq.{split_at, get_or-append-add}
use Rattle.text.specs.declared.Shape.{Shape}
use Rattle.definitions.specs.Lists.{every, sum}
use Rattle.definitions.specs.Frames.{is_digit, value, bytes_of, Frame, layouts, layout, line_length, line_of, text_of, section, field, no_frame}
use Rattle.definitions.specs.Load.{sorted}
use Rattle.laws.specs.Lists.{every_take, every-at, every-mono}
use Rattle.text.specs.Frames.{good_frame, good-kind, length-line, line-digits, line_bytes}
use Rattle.text.specs.Shape.{shape_of, is}
use Rattle.text.specs.Sections.{sections, below, by-sections}
use Rattle.text.specs.Places.{offset, digits_of, text-append, read_at, of_kind, length-text}
use Rattle.text.specs.Map.{section-kind, section-good, Ordered}

-- where section j starts
unfoldable pub base : ℕ → List Frame → ℕ
base zero fs = 0
base (suc j) fs = base j fs + length (section j fs) * (line_length j + 1)

split : (a b k : ℕ) (fs : List Frame) → sections k (a + suc b) fs ≡ sections k a fs ++ (section (k + a) fs ++ sections (suc (k + a)) b fs)
unfolding sections
split zero b k fs = rw (zero-add, add-zero)
split (suc a) b k fs = rw (suc-add, split a b (suc k) fs, suc-add, ← add-suc) (sym (append_assoc (section k fs) (sections (suc k) a fs) _))

split-zero : (j b : ℕ) (fs : List Frame) → sections 0 (j + suc b) fs ≡ sections 0 j fs ++ (section j fs ++ sections (suc j) b fs)
split-zero j b fs = split j b 0 fs ∙ rw zero-add

-- the length of the sections before j
start : (j : ℕ) (fs : List Frame) → every good_frame fs ≡ true → length (text_of (sections 0 j fs)) ≡ base j fs
unfolding base bytes_of sections
start zero fs g = refl
start (suc j) fs g =
    let k : suc j ≡ j + 1 = omega arith in
    let e : sections 0 (suc j) fs ≡ sections 0 j fs ++ section j fs = ap (λ (n : ℕ). sections 0 n fs) k ∙ split-zero j 0 fs ∙ rw append-nil in
    ap (λ (l : List Frame). length (text_of l)) e ∙ ap length (text-append (sections 0 j fs) (section j fs))
    ∙ length-append (text_of (sections 0 j fs)) (text_of (section j fs))
    ∙ rw (start j fs g, length-text j (section j fs) (section-good j fs g) (section-kind j fs))

-- row k of section j: the frames before it and after it, and where its line starts
pub record Row (fs : List Frame) (j k : ℕ) : Type 0 where
  pub before : List Frame
  pub after : List Frame
  pub is : fs ≡ before ++ (get_or (section j fs) k no_frame ∷ after)
  pub starts : length (text_of before) ≡ base j fs + k * (line_length j + 1)
  pub good : good_frame (get_or (section j fs) k no_frame) ≡ true
  pub kind : (get_or (section j fs) k no_frame).kind ≡ j

-- each section has its rows
pub row : (fs : List Frame) (j k : ℕ) → every good_frame fs ≡ true → sorted fs ≡ true → j < 6 → k < length (section j fs) → Row fs j k
row fs j k g o h l =
    let s = section j fs in
    let f = get_or s k no_frame in
    let xs = sections 0 j fs ++ take k s in
    let bs = drop (suc k) s ++ sections (suc j) (5 - j) fs in
    let six : 6 ≡ j + suc (5 - j) = omega arith in
    let e1 : fs ≡ sections 0 j fs ++ (s ++ sections (suc j) (5 - j) fs) =
    sym (by-sections 6 0 6 fs refl o (every-mono good_frame (below 6) fs (λ x p. lt-ltb _ _ (good-kind x p)) g))
    ∙ ap (λ (n : ℕ). sections 0 n fs) six ∙ split-zero j (5 - j) fs in
    let e2 : s ++ sections (suc j) (5 - j) fs ≡ take k s ++ (f ∷ bs) =
    ap (λ (x : List Frame). x ++ sections (suc j) (5 - j) fs) (split_at s k no_frame l) ∙ append_assoc (take k s) (f ∷ drop (suc k) s)
    (sections (suc j) (5 - j) fs) in
    let m : length (take k s) ≡ k = length-take-le k s (omega arith) in
    record {
      before = xs;
      after = bs;
      is = e1 ∙ ap (λ (x : List Frame). sections 0 j fs ++ x) e2 ∙ sym (append_assoc (sections 0 j fs) (take k s) (f ∷ bs));
      starts = ap length (text-append (sections 0 j fs) (take k s)) ∙ length-append (text_of (sections 0 j fs)) (text_of (take k s))
          ∙ rw (start j fs g, length-text j (take k s) (every_take good_frame k s (section-good j fs g)) (every_take (of_kind j) k s (section-kind j fs)), m);
      good = every-at good_frame s k no_frame (section-good j fs g) l;
      kind = eqb-true _ _ (every-at (of_kind j) s k no_frame (section-kind j fs) l);
    }

module _ (fs : List Frame) (j k : ℕ) (r : Row fs j k) where
  -- field i of the row
  pub row_field : (i : ℕ) → i < length (layout j)
      → value (digits_of j i) (drop (base j fs + k * (line_length j + 1) + offset j i) (text_of fs)) ≡ field i (get_or (section j fs) k no_frame)
  row_field i w =
      let f = get_or (section j fs) k no_frame in
      let p = base j fs + k * (line_length j + 1) in
      let q = read_at r.before r.after f i p r.good (subst (λ (x : ℕ). i < length (layout x)) (sym r.kind) w) r.starts in
      subst (λ (x : List Frame). value (digits_of j i) (drop (p + offset j i) (text_of x)) ≡ field i f) (sym r.is)
      (subst (λ (x : ℕ). value (digits_of x i) (drop (p + offset x i) (text_of (r.before ++ (f ∷ r.after)))) ≡ field i f) r.kind q)

  -- its line is within the text
  pub row_room : base j fs + k * (line_length j + 1) + (line_length j + 1) ≤ length (text_of fs)
  unfolding bytes_of
  row_room =
      let f = get_or (section j fs) k no_frame in
      let a : length (line_of f) ≡ line_length j = length-line f r.good ∙ ap (λ (x : ℕ). line_length x) r.kind in
      let b = length-append (line_of f) (10 ∷ text_of r.after) in
      let c : length (text_of fs) ≡ length (text_of r.before) + length (text_of (f ∷ r.after)) =
      ap (λ (x : List Frame). length (text_of x)) r.is ∙ ap length (text-append r.before (f ∷ r.after))
      ∙ length-append (text_of r.before) (text_of (f ∷ r.after)) in
      omega (arith, a, b, c, r.starts)

  -- and is of digits
  pub row-digits : (i : ℕ) → i < line_length j → is_digit (get_or (text_of fs) (base j fs + k * (line_length j + 1) + i) 0) ≡ true
  unfolding bytes_of
  row-digits i h =
      let f = get_or (section j fs) k no_frame in
      let p = base j fs + k * (line_length j + 1) in
      let xs = text_of r.before in
      let l : i < length (line_of f) = rw (length-line f r.good, r.kind) h in
      let e : get_or (text_of fs) (p + i) 0 ≡ get_or (line_of f) i 0 =
      ap (λ (x : List Frame). get_or (text_of x) (p + i) 0) r.is ∙ ap (λ (x : List ℕ). get_or x (p + i) 0) (text-append r.before (f ∷ r.after))
      ∙ ap (λ (x : ℕ). get_or (xs ++ text_of (f ∷ r.after)) (x + i) 0) (sym r.starts) ∙ get_or-append-add xs (text_of (f ∷ r.after)) i 0
      ∙ get_or-append (line_of f) (10 ∷ text_of r.after) 0 i l in
      rw e (every-at is_digit (line_of f) i 0 (line-digits f) l)

-- where device k starts
abbrev pub device_start : ℕ → ℕ
device_start k = line_bytes 0 + k * line_bytes 1

-- where its weight stands in its line
abbrev pub weight_at : ℕ
weight_at = 6

-- and its acceptance
abbrev pub acceptance_at : ℕ
acceptance_at = 14

-- where a bucket's weight stands in its line
abbrev pub sum_at : ℕ
sum_at = 10

-- where the buckets start, by a shape
abbrev pub buckets_start : Shape → ℕ
buckets_start s = device_start s.devices

-- where the links start
abbrev pub links_start : Shape → ℕ
links_start s = buckets_start s + s.buckets * line_bytes 2

-- where the steps start
abbrev pub steps_start : Shape → ℕ
steps_start s = links_start s + s.links * line_bytes 3

-- these are the bases
pub base-devices : (fs : List Frame) → Ordered fs → base 1 fs ≡ line_bytes 0
unfolding base layouts sum
base-devices fs o = omega (arith, o.one-first)

module _ (fs : List Frame) (s : Shape) (e : s ≡ shape_of fs) (o : Ordered fs) where
  -- of the buckets
  pub base-buckets : base 2 fs ≡ buckets_start s
  unfolding base layouts sum shape_of
  base-buckets = rw e (omega (arith, o.one-first))

  -- of the links
  pub base-links : base 3 fs ≡ links_start s
  unfolding base layouts sum shape_of
  base-links = rw e (omega (arith, o.one-first))

  -- of the steps
  pub base-steps : base 4 fs ≡ steps_start s
  unfolding base layouts sum shape_of
  base-steps = rw e (omega (arith, o.one-first))
