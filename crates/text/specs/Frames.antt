-- The layer of lines and frames: a text that questions 1 and 2 take is the text of its frames, and good frames are the frames of their text.
-- Assumes nothing.
use Rattle.std.specs.Prelude.{◌≡◌, refl, Bool, true, false, ◌&&◌, List, [], ◌∷◌, ◌++◌, map, ℕ, zero, suc, ◌+◌, ◌-◌, ◌^◌, ◌<◌, ◌≤◌, leb, ltb, eqb, length, get_or, take, drop}
use Rattle.std.proofs.Common.{sym, ap, ◌∙◌, append_assoc, append-nil, arith, add-one, lit≤, length-append, length-drop, drop_of_length-le, take-append-drop, drop-drop, drop_at, length-take-le, leb-true, ltb-true, eqb-true, lt-ltb, le-leb, eq-eqb}
use Rattle.std.proofs.Math.Bool.{and_assoc}
use Rattle.std.proofs.lemmas.Simd.{map-map}
use Rattle.std.proofs.Math.Dec.{eqb-suc-suc}
use Rattle.std.proofs.lemmas.Bool.{lt-leb}
use Rattle.definitions.specs.Lists.{every, linked_from, sum, same, last_of}
use Rattle.definitions.specs.Frames.{is_digit, value, hex, fields_of, written, lines_of, bytes_of, Frame, layouts, layout, line_length, kind_of, frame_of, line_of, frames_in, text_of}
use Rattle.definitions.specs.Load.{allowed, line_formed, formed, kinds_of}
use Rattle.laws.specs.Lists.{both, and_both, every-head, every-tail, every_append, every_drop, every_map, every-mono, map_same}
use Rattle.text.specs.Digits.{length-hex, value-lt, not-both, hex-of, value-hex, hex-digits, value-take}
use Rattle.text.specs.Lines.{first, lines_split, Ended, ended-drop, bytes-lines, lines-bytes, digit-lines, first-take, first-lt}

-- numbers that fields of these counts of digits can hold
unfoldable pub fits : List ℕ → List ℕ → Bool
fits [] [] = true
fits [] (v ∷ vs) = false
fits (w ∷ ws) [] = false
fits (w ∷ ws) (v ∷ vs) = ltb v (16 ^ w) && fits ws vs

-- a frame that a line can hold
unfoldable pub good_frame : Frame → Bool
good_frame f = ltb f.kind 6 && fits (layout f.kind) f.fields

-- what is read fits
pub read_fits : (ws l : List ℕ) → fits ws (fields_of ws l) ≡ true
unfolding fits fields_of
read_fits [] l = refl
read_fits (w ∷ ws) l = and_both (lt-ltb _ _ (value-lt w l)) (read_fits ws (drop w l))

-- digits, read in fields and written
pub written_read : (ws l : List ℕ) → length l ≡ sum ws → every is_digit l ≡ true → written ws (fields_of ws l) ≡ l
unfolding written fields_of sum
written_read [] [] h d = refl
written_read [] (x ∷ l) h d = absurd (omega (arith, h))
written_read (w ∷ ws) l h d =
    rw (hex-of w l (omega (arith, h)) d, written_read ws (drop w l) (length-drop w l ∙ omega (arith, h)) (every_drop is_digit w l d))
    (take-append-drop w l)

-- the first number fits its field
pub fits_head : (w v : ℕ) (ws vs : List ℕ) → fits (w ∷ ws) (v ∷ vs) ≡ true → v < 16 ^ w
unfolding fits
fits_head w v ws vs e = ltb-true _ _ (both _ _ e).0

-- and so do those behind it
pub fits-tail : (w v : ℕ) (ws vs : List ℕ) → fits (w ∷ ws) (v ∷ vs) ≡ true → fits ws vs ≡ true
unfolding fits
fits-tail w v ws vs e = (both (ltb v (16 ^ w)) (fits ws vs) e).1

-- as many numbers as fields
pub fits-length : (ws vs : List ℕ) → fits ws vs ≡ true → length vs ≡ length ws
unfolding fits
fits-length [] [] e = refl
fits-length [] (v ∷ vs) e = not-both false e refl
fits-length (w ∷ ws) [] e = not-both false e refl
fits-length (w ∷ ws) (v ∷ vs) e = ap suc (fits-length ws vs (fits-tail w v ws vs e))

-- numbers that fit, written and read
pub read-written : (ws vs r : List ℕ) → fits ws vs ≡ true → fields_of ws (written ws vs ++ r) ≡ vs
unfolding written fields_of fits
read-written [] [] r e = refl
read-written [] (v ∷ vs) r e = not-both false e refl
read-written (w ∷ ws) [] r e = not-both false e refl
read-written (w ∷ ws) (v ∷ vs) r e =
    rw (
      append_assoc,
      value-hex w v _ (fits_head w v ws vs e),
      drop_at (hex w v) (written ws vs ++ r) w (length-hex w v),
      read-written ws vs r (fits-tail w v ws vs e),
    )

-- how long fields are
pub length-written : (ws vs : List ℕ) → fits ws vs ≡ true → length (written ws vs) ≡ sum ws
unfolding written fits sum
length-written [] [] e = refl
length-written [] (v ∷ vs) e = not-both false e refl
length-written (w ∷ ws) [] e = not-both false e refl
length-written (w ∷ ws) (v ∷ vs) e = length-append (hex w v) (written ws vs) ∙ omega (arith, length-hex w v, length-written ws vs (fits-tail w v ws vs e))

-- fields are digits
pub written-digits : (ws vs : List ℕ) → every is_digit (written ws vs) ≡ true
unfolding written every
written-digits [] vs = refl
written-digits (w ∷ ws) [] = refl
written-digits (w ∷ ws) (v ∷ vs) = rw (every_append is_digit (hex w v) (written ws vs)) (and_both (hex-digits w v) (written-digits ws vs))

-- question 2 of a line, taken apart: its kind
pub line-kind : (l : List ℕ) → line_formed l ≡ true → kind_of l < 6
unfolding line_formed
line-kind l g = omega (arith, leb-true (kind_of l) 5 (both (leb (kind_of l) 5) (eqb (length l) (line_length (kind_of l))) g).0)

-- its length
pub line-length : (l : List ℕ) → line_formed l ≡ true → length l ≡ line_length (kind_of l)
unfolding line_formed
line-length l g = eqb-true _ _ (both (leb (kind_of l) 5) (eqb (length l) (line_length (kind_of l))) g).1

-- and put together
pub line-is-formed : (l : List ℕ) → kind_of l < 6 → length l ≡ line_length (kind_of l) → line_formed l ≡ true
unfolding line_formed
line-is-formed l h e = rw (le-leb (kind_of l) 5 (omega arith)) (eq-eqb _ _ e)

-- a good frame, taken apart: its kind
pub good-kind : (f : Frame) → good_frame f ≡ true → f.kind < 6
unfolding good_frame
good-kind f g = ltb-true _ _ (both (ltb f.kind 6) (fits (layout f.kind) f.fields) g).0

-- its fields
pub good-fits : (f : Frame) → good_frame f ≡ true → fits (layout f.kind) f.fields ≡ true
unfolding good_frame
good-fits f g = (both (ltb f.kind 6) (fits (layout f.kind) f.fields) g).1

-- and put together
pub frame-is-good : (f : Frame) → f.kind < 6 → fits (layout f.kind) f.fields ≡ true → good_frame f ≡ true
unfolding good_frame
frame-is-good f h e = rw (lt-ltb f.kind 6 h) e

-- a line, read and written
pub line_frame : (l : List ℕ) → line_formed l ≡ true → every is_digit l ≡ true → line_of (frame_of l) ≡ l
unfolding line_of frame_of
line_frame l g d =
    let n = line-length l g in
    rw (hex-of 2 l (omega (arith, n)) d, written_read (layout (kind_of l)) (drop 2 l) (length-drop 2 l ∙ omega (arith, n)) (every_drop is_digit 2 l d))
    (take-append-drop 2 l)

-- the frame of a good line is good
pub frame-good : (l : List ℕ) → line_formed l ≡ true → good_frame (frame_of l) ≡ true
unfolding frame_of
frame-good l g = frame-is-good (frame_of l) (line-kind l g) (read_fits (layout (kind_of l)) (drop 2 l))

-- the kind of a frame, written and read
pub kind-line : (f : Frame) → good_frame f ≡ true → kind_of (line_of f) ≡ f.kind
unfolding line_of
kind-line f g = value-hex 2 f.kind _ (omega (arith, good-kind f g))

-- a frame, written and read
pub frame-line : (f : Frame) → good_frame f ≡ true → frame_of (line_of f) ≡ f
unfolding frame_of line_of
frame-line f g =
    rw (kind-line f g, drop_at (hex 2 f.kind) (written (layout f.kind) f.fields) 2 (length-hex 2 f.kind))
    (ap (λ (vs : List ℕ). record { kind = f.kind; fields = vs }) (rw append-nil at (read-written (layout f.kind) f.fields [] (good-fits f g))))

-- how long its line is
pub length-line : (f : Frame) → good_frame f ≡ true → length (line_of f) ≡ line_length f.kind
unfolding line_of
length-line f g = length-append (hex 2 f.kind) _ ∙ omega (arith, length-hex 2 f.kind, length-written (layout f.kind) f.fields (good-fits f g))

-- question 2 of its line
pub line-formed : (f : Frame) → good_frame f ≡ true → line_formed (line_of f) ≡ true
line-formed f g = line-is-formed (line_of f) (rw (kind-line f g) (good-kind f g)) (rw (kind-line f g) (length-line f g))

-- its line is of digits
pub line-digits : (f : Frame) → every is_digit (line_of f) ≡ true
unfolding line_of
line-digits f = rw (every_append is_digit (hex 2 f.kind) (written (layout f.kind) f.fields)) (and_both (hex-digits 2 f.kind) (written-digits _ _))

-- a text that questions 1 and 2 take is the text of its frames
pub text-frames : (t : List ℕ) → Ended t → every allowed t ≡ true → formed t ≡ true → text_of (frames_in t) ≡ t
unfolding formed
text-frames t h a g =
    rw (map-map line_of frame_of (lines_of t))
    (ap bytes_of (go (lines_of t) g (digit-lines t a)) ∙ bytes-lines t h)
  where
    go : (ls : List (List ℕ)) → every line_formed ls ≡ true → every (every is_digit) ls ≡ true → map (λ l. line_of (frame_of l)) ls ≡ ls
    go [] p q = refl
    go (l ∷ ls) p q =
        rw (
          line_frame l (every-head line_formed l ls p) (every-head (every is_digit) l ls q),
          go ls (every-tail line_formed l ls p) (every-tail (every is_digit) l ls q),
        )

lines-text : (fs : List Frame) → lines_of (text_of fs) ≡ map line_of fs
unfolding every
lines-text fs = lines-bytes (map line_of fs) (go fs)
  where
    go : (gs : List Frame) → every (every is_digit) (map line_of gs) ≡ true
    go [] = refl
    go (g ∷ gs) = and_both (line-digits g) (go gs)

-- good frames are the frames of their text
pub frames-text : (fs : List Frame) → every good_frame fs ≡ true → frames_in (text_of fs) ≡ fs
frames-text fs g = rw (lines-text fs, map-map frame_of line_of fs) (map_same good_frame (λ (f : Frame). frame_of (line_of f)) fs frame-line g)

-- question 2 of their text
pub text-formed : (fs : List Frame) → every good_frame fs ≡ true → formed (text_of fs) ≡ true
unfolding formed
text-formed fs g = rw (lines-text fs, every_map line_formed line_of fs) (every-mono good_frame (λ (f : Frame). line_formed (line_of f)) fs line-formed g)

-- the frames of a text that question 2 takes are good
pub good-frames : (t : List ℕ) → formed t ≡ true → every good_frame (frames_in t) ≡ true
unfolding formed
good-frames t g = rw (every_map good_frame frame_of (lines_of t)) (every-mono line_formed (λ (l : List ℕ). good_frame (frame_of l)) (lines_of t) frame-good g)

-- how many bytes a line of each kind has, the byte 10 that ends it among them
abbrev pub lengths : List ℕ
lengths = 11 ∷ 23 ∷ 19 ∷ 15 ∷ 13 ∷ 7 ∷ []

-- of one kind
abbrev pub line_bytes : ℕ → ℕ
line_bytes kind = get_or lengths kind 0

-- what holds of each kind
pub kinds : (P : ℕ → Type 0) → P 0 → P 1 → P 2 → P 3 → P 4 → P 5 → (k : ℕ) → k < 6 → P k
kinds P a b c d e f zero h = a
kinds P a b c d e f (suc zero) h = b
kinds P a b c d e f (suc (suc zero)) h = c
kinds P a b c d e f (suc (suc (suc zero))) h = d
kinds P a b c d e f (suc (suc (suc (suc zero)))) h = e
kinds P a b c d e f (suc (suc (suc (suc (suc zero))))) h = f
kinds P a b c d e f (suc (suc (suc (suc (suc (suc k)))))) h = absurd (omega arith)

-- these are the definitions' digits and the byte 10
pub length-table : (k : ℕ) → k < 6 → line_bytes k ≡ line_length k + 1
unfolding layouts sum
length-table = kinds (λ k. line_bytes k ≡ line_length k + 1) refl refl refl refl refl refl

-- none is shorter than a line of kind 05
pub length-least : (k : ℕ) → k < 6 → line_bytes 5 ≤ line_bytes k
length-least = kinds (λ k. line_bytes 5 ≤ line_bytes k) (lit≤ tt) (lit≤ tt) (lit≤ tt) (lit≤ tt) (lit≤ tt) (lit≤ tt)

-- question 2 of a line by its length and kind: a shorter one is not formed
pub bad-short : (l : List ℕ) → length l + 1 < line_bytes 5 → line_formed l ≡ false
bad-short l h = go (line_formed l) refl
  where
    go : (b : Bool) → line_formed l ≡ b → b ≡ false
    go true e = absurd (omega (arith, line-length l e, length-least (kind_of l) (line-kind l e), length-table (kind_of l) (line-kind l e)))
    go false e = refl

-- one of a kind above 5 is not
pub bad_kind : (l : List ℕ) → 5 < kind_of l → line_formed l ≡ false
unfolding line_formed
bad_kind l h = rw (lt-leb (kind_of l) 5 h)

-- any other by its length
pub by_length : (l : List ℕ) (n k : ℕ) → length l ≡ n → kind_of l ≡ k → k < 6 → eqb (n + 1) (line_bytes k) ≡ line_formed l
unfolding line_formed
by_length l n k p q h = rw (length-table k h, p, q, le-leb k 5 (omega arith), add-one n, add-one (line_length k), eqb-suc-suc)

-- the kind of a part of a text
pub part-kind : (t : List ℕ) (at n : ℕ) → 2 ≤ n → kind_of (take n (drop at t)) ≡ value 2 (drop at t)
part-kind t at n h = value-take 2 n (drop at t) h

-- and its length
pub part_length : (t : List ℕ) (at e : ℕ) → at ≤ e → e ≤ length t → length (take (e - at) (drop at t)) ≡ e - at
part_length t at e h l = length-take-le (e - at) (drop at t) (rw (length-drop at t) (omega arith))

-- what is known of the line that starts at `at`, where all from there on are good; k is its kind
pub record Known (t : List ℕ) (at k : ℕ) : Type 0 where
  pub kind : (frame_of (first (drop at t))).kind ≡ k
  pub small : k < 6
  pub two : at + 2 ≤ length t
  pub room : at + line_bytes k ≤ length t
  pub frames : frames_in (drop at t) ≡ frame_of (first (drop at t)) ∷ frames_in (drop (at + line_bytes k) t)
  pub rest : every line_formed (lines_of (drop (at + line_bytes k) t)) ≡ true

-- it is known
pub known : (t : List ℕ) (at : ℕ) → at < length t → last_of t ≡ 10 → every line_formed (lines_of (drop at t)) ≡ true → Known t at (value 2 (drop at t))
unfolding frame_of
known t at h z g =
    let s = drop at t in
    let l = first s in
    let n : 0 < length s = rw (length-drop at t) (omega arith) in
    let split : lines_of s ≡ l ∷ lines_of (drop (suc (length l)) s) = lines_split s n in
    let good : line_formed l ≡ true = every-head line_formed l (lines_of (drop (suc (length l)) s)) (rw split at g) in
    let six : kind_of l < 6 = line-kind l good in
    let long : length l + 1 ≡ line_bytes (kind_of l) = ap (λ (n : ℕ). n + 1) (line-length l good) ∙ sym (length-table (kind_of l) six) in
    let same : kind_of l ≡ value 2 s = ap (value 2) (first-take s) ∙ value-take 2 (length l) s (omega (arith, long, length-least (kind_of l) six)) in
    let lt : length l < length s = first-lt s (ended-drop at t (λ _. z)) n in
    let long2 : length l + 1 ≡ line_bytes (value 2 s) = long ∙ ap (λ (k : ℕ). line_bytes k) same in
    let k : at + suc (length l) ≡ at + line_bytes (value 2 s) = omega (arith, long2) in
    let next : drop (suc (length l)) s ≡ drop (at + line_bytes (value 2 s)) t = drop-drop (suc (length l)) at t ∙ ap (λ (k : ℕ). drop k t) k in
    record {
      kind = same;
      small = rw (← same) six;
      two = omega (arith, long, length-least (kind_of l) six, lt, length-drop at t);
      room = omega (arith, long2, lt, length-drop at t);
      frames = ap (map frame_of) (split ∙ ap (λ (r : List ℕ). l ∷ lines_of r) next);
      rest = rw (← next) (every-tail line_formed l (lines_of (drop (suc (length l)) s)) (rw split at g));
    }

-- a loop over the kinds: one more, joined to the answer so far
pub sorted_more : (fs gs : List Frame) (f : Frame) (k last : ℕ) (o : Bool) → fs ≡ f ∷ gs → k ≡ f.kind
    → o && leb last k && linked_from leb k (kinds_of gs) ≡ o && linked_from leb last (kinds_of fs)
unfolding linked_from
sorted_more fs gs f k last o e p = rw (e, ← p) (and_assoc o _ _)

-- no frames are left at the end
pub none_left : (t : List ℕ) (at : ℕ) → length t ≤ at → frames_in (drop at t) ≡ []
unfolding lines_of
none_left t at h = rw (drop_of_length-le t {i = at} h)
