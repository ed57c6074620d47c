-- All layers together: a text that questions 1 to 4 take is the text of its map, and a map that fits is the map of its text. Assumes nothing.
use Rattle.std.specs.Prelude.{◌≡◌, refl, Bool, true, ℕ, ◌+◌, ◌-◌, ◌<◌, ◌≤◌, length}
use Rattle.std.proofs.Common.{ap, ◌∙◌, arith, length-append, get_or-append-add}
use Rattle.std.proofs.Math.Bool.{or-true}
use mathlib.Core.List.{List, [], ◌∷◌, ◌++◌, map}
use Rattle.definitions.specs.Lists.{every, last_of}
use Rattle.definitions.specs.Frames.{is_digit, bytes_of, Frame, line_of, frames_in, text_of}
use Rattle.definitions.specs.Map.{Map, map_in, map_of}
use Rattle.definitions.specs.Writing.{frame, device_frame, later_frames, frames_of, map_text}
use Rattle.definitions.specs.Load.{allowed, sized, formed, ordered, counted}
use Rattle.laws.specs.Lists.{and_both, every_append, every-mono}
use Rattle.text.specs.Lines.{plain, is_plain}
use Rattle.text.specs.Frames.{good_frame, line-digits, text-frames, frames-text, text-formed, good-frames}
use Rattle.text.specs.Map.{frames-map, map-frames, map-ordered, map-counted}

-- each field of the map has room in its frame
abbrev pub Fits : Map → Bool
Fits m = every good_frame (frames_of m)

-- the first four questions answered yes
pub record Framed (t : List ℕ) : Type 0 where
  pub sized : sized t ≡ true
  pub formed : formed t ≡ true
  pub ordered : ordered (frames_in t) ≡ true
  pub counted : counted (frames_in t) ≡ true

-- the frames of its map are its frames
pub frames-of-map : (t : List ℕ) → Framed t → frames_of (map_of t) ≡ frames_in t
frames-of-map t h = frames-map (frames_in t) (good-frames t h.formed) h.ordered h.counted

-- a framed text is the text of its frames
pub text-of-frames : (t : List ℕ) → Framed t → text_of (frames_in t) ≡ t
text-of-frames t h = text-frames t (λ _. (plain t h.sized).last) (plain t h.sized).digits h.formed

-- a framed text is the text of its map
pub text-of-map : (t : List ℕ) → Framed t → map_text (map_of t) ≡ t
text-of-map t h = ap text_of (frames-of-map t h) ∙ text-of-frames t h

-- the map of a framed text fits
pub map-fits : (t : List ℕ) → Framed t → Fits (map_of t) ≡ true
map-fits t h = rw (frames-of-map t h) (good-frames t h.formed)

-- the bytes of a text of frames
text-allowed : (fs : List Frame) → every allowed (text_of fs) ≡ true
unfolding bytes_of every
text-allowed [] = refl
text-allowed (f ∷ fs) =
    rw (every_append allowed (line_of f) (10 ∷ text_of fs))
    (and_both (every-mono is_digit allowed (line_of f) (λ b e. rw e) (line-digits f)) (and_both (or-true (is_digit 10)) (text-allowed fs)))

last-after : (xs ys : List ℕ) → 0 < length ys → last_of (xs ++ ys) ≡ last_of ys
last-after xs ys h =
    let k : length (xs ++ ys) - 1 ≡ length xs + (length ys - 1) = omega (arith, length-append xs ys) in
    rw k (get_or-append-add xs ys (length ys - 1) 0)

text-some : (f : Frame) (fs : List Frame) → 0 < length (text_of (f ∷ fs))
unfolding bytes_of
text-some f fs = simp length-append (omega arith)

text-last : (f : Frame) (fs : List Frame) → last_of (text_of (f ∷ fs)) ≡ 10
unfolding bytes_of
text-last f [] = last-after (line_of f) (10 ∷ []) (omega arith)
text-last f (g ∷ fs) =
    last-after (line_of f) (10 ∷ text_of (g ∷ fs)) (omega arith) ∙ last-after (10 ∷ []) (text_of (g ∷ fs)) (text-some g fs) ∙ text-last g fs

module _ (m : Map) (g : Fits m ≡ true) where
  -- a map that fits is the map of its text
  pub map-of-text : map_of (map_text m) ≡ m
  map-of-text = ap map_in (frames-text (frames_of m) g) ∙ map-frames m

  -- and its text is framed
  pub framed : length (map_text m) ≤ 65536 → Framed (map_text m)
  unfolding frames_of
  framed b =
      let f = frame 0 (m.groups ∷ []) in
      let fs = map device_frame m.devices ++ later_frames m in
      record {
        sized = is_plain (map_text m) (record { some = text-some f fs; most = b; last = text-last f fs; digits = text-allowed (f ∷ fs) });
        formed = text-formed (frames_of m) g;
        ordered = rw (frames-text (frames_of m) g) (map-ordered m);
        counted = rw (frames-text (frames_of m) g) (map-counted m);
      }
