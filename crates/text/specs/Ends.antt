-- Where the 05 stands, and what it counts: questions 3 and 4 by a shape. Assumes nothing.
use Rattle.std.specs.Prelude.{◌≡◌, refl, Bool, true, false, ◌&&◌, ℕ, ◌+◌, ◌-◌, ◌≤◌, eqb, drop}
use Rattle.std.proofs.Common.{sym, ◌∙◌, subst, arith, lit<, eqb-true, eq-eqb, ne_eqb}
use Rattle.std.proofs.Math.Path.{ap}
use mathlib.Core.List.{List, [], ◌∷◌, ◌++◌, append_assoc}
use Rattle.std.proofs.Math.ListN.{length, length-append}
use Rattle.std.proofs.lemmas.Bool.{eqb-false}
use Rattle.text.specs.declared.Shape.{Shape}
use Rattle.definitions.specs.Lists.{every, sum}
use Rattle.definitions.specs.Frames.{value, bytes_of, Frame, layouts, line_of, frames_in, text_of, section, first_field}
use Rattle.definitions.specs.Writing.{frame}
use Rattle.definitions.specs.Load.{sized, formed, sorted, ordered, counted}
use Rattle.laws.specs.Lists.{every-head, every-parts}
use Rattle.text.specs.Lines.{plain}
use Rattle.text.specs.Frames.{good_frame, length-line, text-frames, good-frames, line_bytes}
use Rattle.text.specs.Shape.{shape_of}
use Rattle.text.specs.Sections.{in-sections}
use Rattle.text.specs.Places.{text-append, read_at}
use Rattle.text.specs.Map.{single, Ordered, in_order, counts}

-- a frame of kind 5 at the end of a text
module _ (xs : List Frame) (v : ℕ) (g : good_frame (frame 5 (v ∷ [])) ≡ true) where
  length-end : length (text_of (xs ++ (frame 5 (v ∷ []) ∷ []))) ≡ length (text_of xs) + line_bytes 5
  unfolding bytes_of layouts sum
  length-end =
      ap length (text-append xs (frame 5 (v ∷ []) ∷ [])) ∙ length-append (text_of xs) (text_of (frame 5 (v ∷ []) ∷ []))
      ∙ rw (length-append (line_of (frame 5 (v ∷ []))) (10 ∷ [])) (omega (arith, length-line (frame 5 (v ∷ [])) g))

  read-end : value 4 (drop (length (text_of (xs ++ (frame 5 (v ∷ []) ∷ []))) - 5) (text_of (xs ++ (frame 5 (v ∷ []) ∷ [])))) ≡ v
  unfolding layouts sum
  read-end =
      let k : length (text_of (xs ++ (frame 5 (v ∷ []) ∷ []))) - 5 ≡ length (text_of xs) + 2 = omega (arith, length-end) in
      rw k (read_at xs [] (frame 5 (v ∷ [])) 0 (length (text_of xs)) g (lit< tt) refl)

few : (fs : List Frame) → length fs ≤ length (text_of fs)
unfolding bytes_of
few [] = omega arith
few (f ∷ fs) = omega (arith, length-append (line_of f) (10 ∷ text_of fs), few fs)

-- the frames before the 05
abbrev head : List Frame → List Frame
head fs = section 0 fs ++ (section 1 fs ++ (section 2 fs ++ (section 3 fs ++ section 4 fs)))

at-end : (fs : List Frame) → every good_frame fs ≡ true → Ordered fs → fs ≡ head fs ++ (frame 5 (first_field 5 fs ∷ []) ∷ [])
unfolding layouts
at-end fs g o = in-sections fs g o.sorted ∙ rw (single fs g 5 (first_field 5 fs) refl o.one_last refl) (sym (simp append_assoc))

-- the number of frames before the last, by a shape
abbrev pub total : Shape → ℕ
total s = s.groups + s.devices + s.buckets + s.links + s.steps

-- what question 4 needs: room for the 05, a count that fits, and the answer
pub record Ends (t : List ℕ) (s : Shape) : Type 0 where
  pub long : line_bytes 5 ≤ length t
  pub few : total s ≤ 65536
  pub count : eqb (value 4 (drop (length t - 5) t)) (total s) ≡ counted (frames_in t)

same_test : (a b c d : ℕ) → a ≡ c → b + 1 ≡ d → eqb a b ≡ eqb (c + 1) d
same_test a b c d p q = go (eqb a b) refl
  where
    go : (e : Bool) → eqb a b ≡ e → e ≡ eqb (c + 1) d
    go true e = sym (eq-eqb (c + 1) d (omega (arith, eqb-true a b e)))
    go false e = sym (ne_eqb (c + 1) d (λ r. eqb-false a b e (omega arith)))

at-the-end : (fs : List Frame) → every good_frame fs ≡ true → Ordered fs
    → (line_bytes 5 ≤ length (text_of fs)) × (value 4 (drop (length (text_of fs) - 5) (text_of fs)) ≡ first_field 5 fs)
at-the-end fs g o =
    let v = first_field 5 fs in
    let e = at-end fs g o in
    let h : good_frame (frame 5 (v ∷ [])) ≡ true =
    every-head good_frame _ [] (every-parts good_frame (head fs) _ (subst (λ (l : List Frame). every good_frame l ≡ true) e g)).1 in
    subst (λ (l : List Frame). (line_bytes 5 ≤ length (text_of l)) × (value 4 (drop (length (text_of l) - 5) (text_of l)) ≡ v)) (sym e)
    (omega (arith, length-end (head fs) v h), read-end (head fs) v h)

-- it is so after questions 1 to 3
pub ends : (t : List ℕ) (s : Shape) → sized t ≡ true → formed t ≡ true → ordered (frames_in t) ≡ true → s ≡ shape_of (frames_in t) → Ends t s
unfolding shape_of counted
ends t s a b c e =
    let fs = frames_in t in
    let g = good-frames t b in
    let o = in_order fs c in
    let i : text_of fs ≡ t = text-frames t (λ _. (plain t a).last) (plain t a).digits b in
    let r = subst (λ (u : List ℕ). (line_bytes 5 ≤ length u) × (value 4 (drop (length u - 5) u) ≡ first_field 5 fs)) i (at-the-end fs g o) in
    let n : total (shape_of fs) + 1 ≡ length fs = omega (arith, counts fs g o, o.one-first) in
    rw e (record { long = r.0; few = omega (arith, n, few fs, ap length i, (plain t a).most); count = same_test _ _ _ _ r.1 n })

-- question 3 by a shape
pub by_shape : (fs : List Frame) (s : Shape) (o : Bool) → s ≡ shape_of fs → o ≡ sorted fs → o && eqb s.groups 1 && eqb s.ends 1 ≡ ordered fs
unfolding shape_of ordered
by_shape fs s o e p = rw (e, p)
