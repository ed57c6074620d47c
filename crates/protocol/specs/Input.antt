-- Document 01, "Samples": "The map is the input through the first line that begins with `05`, or all of it if there is none." Assumes
-- nothing.
use Rattle.std.specs.Prelude.{◌≡◌, refl, Bool, true, false, cond, ◌&&◌, List, [], ◌∷◌, ◌++◌, ℕ, suc, ◌+◌, ◌<◌, ◌≤◌, eqb, length, get_or, drop}
use Rattle.std.proofs.Common.{sym, ap, ◌∙◌, add-one, drop_of_length-le, drop-cons, ne_eqb, eqb-true}
use Rattle.std.proofs.lemmas.Bool.{false≢true}
use native.Mathlib.Omega.{arith}
use Rattle.protocol.specs.declared.input.Spot.{Spot}
use Rattle.protocol.specs.declared.input.Spot.TheVariants.{Start, Zero, Last, Inside, Whole}

-- how many bytes a line has, its byte 10 included, or all of them where it is unended
unfoldable pub line_bytes : List ℕ → ℕ
line_bytes [] = 0
line_bytes (b ∷ bs) = suc (cond (eqb b 10) 0 (line_bytes bs))

-- "begins with `05`": the bytes 48 and 53
unfoldable pub begins05 : List ℕ → Bool
begins05 [] = false
begins05 (a ∷ []) = false
begins05 (a ∷ b ∷ bs) = eqb a 48 && eqb b 53

-- how many of these bytes are the map; `start` says whether a line begins with the first of them
unfoldable pub map_from : Bool → List ℕ → ℕ
map_from start [] = 0
map_from start (b ∷ bs) = cond (start && begins05 (b ∷ bs)) (line_bytes (b ∷ bs)) (suc (map_from (eqb b 10) bs))

unfoldable pub map_length : List ℕ → ℕ
map_length bs = map_from true bs

-- ---- the same byte by byte, for an input that is read in parts

-- the byte 10 ends a line, and with the line that begins with `05` the map
unfoldable pub ended_at : Spot → Spot
ended_at Start = Start
ended_at Zero = Start
ended_at Last = Whole
ended_at Inside = Start
ended_at Whole = Whole

-- another byte is one more of the line
unfoldable pub longer_at : Spot → ℕ → Spot
longer_at Start b = cond (eqb b 48) Zero Inside
longer_at Zero b = cond (eqb b 53) Last Inside
longer_at Last b = Last
longer_at Inside b = Inside
longer_at Whole b = Whole

unfoldable pub spot_of : Spot → ℕ → Spot
spot_of s b = cond (eqb b 10) (ended_at s) (longer_at s b)

-- where these bytes lead to
unfoldable pub spot_after : Spot → List ℕ → Spot
spot_after s [] = s
spot_after s (b ∷ bs) = spot_after (spot_of s b) bs

unfoldable pub is_whole : Spot → Bool
is_whole Start = false
is_whole Zero = false
is_whole Last = false
is_whole Inside = false
is_whole Whole = true

-- and how many of them are the map's
unfoldable pub map_bytes : Spot → List ℕ → ℕ
map_bytes s [] = 0
map_bytes s (b ∷ bs) = cond (is_whole s) 0 (suc (map_bytes (spot_of s b) bs))

-- ---- it is the same

whole-spot : (s : Spot) → is_whole s ≡ true → s ≡ Whole
unfolding is_whole
whole-spot Start e = absurd (false≢true e)
whole-spot Zero e = absurd (false≢true e)
whole-spot Last e = absurd (false≢true e)
whole-spot Inside e = absurd (false≢true e)
whole-spot Whole e = refl

whole-none : (s : Spot) (bs : List ℕ) → is_whole s ≡ true → map_bytes s bs ≡ 0
unfolding map_bytes
whole-none s [] e = refl
whole-none s (b ∷ bs) e = rw e

-- in the line that ends the map
from_last : (bs : List ℕ) → map_bytes Last bs ≡ line_bytes bs
unfolding map_bytes line_bytes is_whole spot_of ended_at longer_at
from_last [] = refl
from_last (b ∷ bs) = ap suc (go (eqb b 10) (from_last bs))
  where
    go : (t : Bool) → map_bytes Last bs ≡ line_bytes bs → map_bytes (cond t Whole Last) bs ≡ cond t 0 (line_bytes bs)
    go true e = whole-none Whole bs refl
    go false e = e

-- where a line begins, inside another, and behind a first byte `0`
record Same (bs : List ℕ) : Type 0 where
  start : map_bytes Start bs ≡ map_from true bs
  inside : map_bytes Inside bs ≡ map_from false bs
  zero : map_bytes Zero bs ≡ cond (begins05 (48 ∷ bs)) (line_bytes bs) (map_from false bs)

begins-not : (b : ℕ) (bs : List ℕ) → eqb b 48 ≡ false → begins05 (b ∷ bs) ≡ false
unfolding begins05
begins-not b [] e = refl
begins-not b (c ∷ bs) e = rw e

cond-suc : (t : Bool) (m n : ℕ) → suc (cond t m n) ≡ cond t (suc m) (suc n)
cond-suc true m n = refl
cond-suc false m n = refl

same_more : (b : ℕ) (bs : List ℕ) → Same bs → Same (b ∷ bs)
unfolding map_bytes map_from is_whole begins05 line_bytes spot_of ended_at longer_at
same_more b bs S = record { start = start (eqb b 10) refl (eqb b 48) refl; inside = ap suc (inside (eqb b 10)); zero = zero (eqb b 10) refl (eqb b 53) refl }
  where
    inside : (t : Bool) → map_bytes (cond t Start Inside) bs ≡ map_from t bs
    inside true = S.start
    inside false = S.inside

    start : (t : Bool) → eqb b 10 ≡ t → (u : Bool) → eqb b 48 ≡ u → map_bytes Start (b ∷ bs) ≡ map_from true (b ∷ bs)
    start true e u f = rw (begins-not b bs (ne_eqb b 48 (λ q. omega (arith, q, eqb-true b 10 e))), e) (ap suc S.start)
    start false e true f =
        rw (e, f, ap (λ (a : ℕ). begins05 (a ∷ bs)) (eqb-true b 48 f)) (ap suc S.zero ∙ cond-suc (begins05 (48 ∷ bs)) (line_bytes bs) (map_from false bs))
    start false e false f = rw (begins-not b bs f, e, f) (ap suc S.inside)

    zero : (t : Bool) → eqb b 10 ≡ t → (u : Bool) → eqb b 53 ≡ u → map_bytes Zero (b ∷ bs) ≡ cond (begins05 (48 ∷ b ∷ bs)) (line_bytes (b ∷ bs)) (map_from false (b ∷ bs))
    zero true e u f = rw (ne_eqb b 53 (λ q. omega (arith, q, eqb-true b 10 e)), e) (ap suc S.start)
    zero false e true f = rw (e, f) (ap suc (from_last bs))
    zero false e false f = rw (e, f) (ap suc S.inside)

same : (bs : List ℕ) → Same bs
unfolding map_bytes map_from begins05
same [] = record { start = refl; inside = refl; zero = refl }
same (b ∷ bs) = same_more b bs (same bs)

-- how many bytes of an input are the map
pub map-from-start : (bs : List ℕ) → map_bytes Start bs ≡ map_length bs
unfolding map_length
map-from-start bs = (same bs).start

-- ---- however the input is cut

pub spot-cut : (s : Spot) (xs ys : List ℕ) → spot_after s (xs ++ ys) ≡ spot_after (spot_after s xs) ys
unfolding spot_after
spot-cut s [] ys = refl
spot-cut s (x ∷ xs) ys = spot-cut (spot_of s x) xs ys

spot-whole : (xs : List ℕ) → spot_after Whole xs ≡ Whole
unfolding spot_after spot_of ended_at longer_at
spot-whole [] = refl
spot-whole (x ∷ xs) = ap (λ (s : Spot). spot_after s xs) (go (eqb x 10)) ∙ spot-whole xs
  where
    go : (t : Bool) → cond t Whole Whole ≡ Whole
    go true = refl
    go false = refl

-- the map has ended before these bytes
after-whole : (s : Spot) (xs : List ℕ) → is_whole s ≡ true → spot_after s xs ≡ s
after-whole s xs e = rw (whole-spot s e) (spot-whole xs)

pub map-cut : (s : Spot) (xs ys : List ℕ) → map_bytes s (xs ++ ys) ≡ map_bytes s xs + map_bytes (spot_after s xs) ys
unfolding map_bytes spot_after
map-cut s [] ys = omega arith
map-cut s (x ∷ xs) ys = go (is_whole s) refl (map-cut (spot_of s x) xs ys)
  where
    go : (t : Bool) → is_whole s ≡ t → map_bytes (spot_of s x) (xs ++ ys) ≡ map_bytes (spot_of s x) xs + map_bytes (spot_after (spot_of s x) xs) ys
        → cond t 0 (suc (map_bytes (spot_of s x) (xs ++ ys))) ≡ cond t 0 (suc (map_bytes (spot_of s x) xs)) + map_bytes (spot_after (spot_of s x) xs) ys
    go true e r = sym (rw (after-whole s (x ∷ xs) e) (omega (arith, whole-none s ys e)))
    go false e r = omega (arith, r)

-- a whole map stays as it is, whatever is read behind it
pub map_whole : (xs ys : List ℕ) → is_whole (spot_after Start xs) ≡ true → map_length (xs ++ ys) ≡ map_length xs
map_whole xs ys e = sym (map-from-start (xs ++ ys)) ∙ map-cut Start xs ys ∙ omega (arith, whole-none (spot_after Start xs) ys e, map-from-start xs)

-- and the bytes of a map that is not are all its own
pub map-all : (s : Spot) (xs : List ℕ) → is_whole (spot_after s xs) ≡ false → map_bytes s xs ≡ length xs
unfolding map_bytes spot_after
map-all s [] e = refl
map-all s (x ∷ xs) e = go (is_whole s) refl (map-all (spot_of s x) xs e)
  where
    go : (t : Bool) → is_whole s ≡ t → map_bytes (spot_of s x) xs ≡ length xs → cond t 0 (suc (map_bytes (spot_of s x) xs)) ≡ suc (length xs)
    go true w r = absurd (false≢true (sym e ∙ ap is_whole (after-whole s (x ∷ xs) w) ∙ w))
    go false w r = ap suc r

pub map-within : (s : Spot) (xs : List ℕ) → map_bytes s xs ≤ length xs
unfolding map_bytes
map-within s [] = omega arith
map-within s (x ∷ xs) = go (is_whole s) (map-within (spot_of s x) xs)
  where
    go : (t : Bool) → map_bytes (spot_of s x) xs ≤ length xs → cond t 0 (suc (map_bytes (spot_of s x) xs)) ≤ suc (length xs)
    go true r = omega arith
    go false r = omega (arith, r)

-- ---- what the loop needs: the bytes from i on

module _ (s : Spot) (t : List ℕ) (i : ℕ) where
  pub part_none : length t ≤ i → (map_bytes s (drop i t) ≡ 0) × (spot_after s (drop i t) ≡ s)
  unfolding map_bytes spot_after
  part_none h = rw (drop_of_length-le t h) (refl, refl)

  pub part-next : i < length t → is_whole s ≡ false
      → (map_bytes s (drop i t) ≡ 1 + map_bytes (spot_of s (get_or t i 0)) (drop (i + 1) t)) × (spot_after s (drop i t) ≡ spot_after (spot_of s (get_or t i 0)) (drop (i + 1) t))
  unfolding map_bytes spot_after
  part-next h e = rw (drop-cons t i 0 h, e, add-one) (omega arith, refl)

  pub part-whole : is_whole s ≡ true → (map_bytes s (drop i t) ≡ 0) × (spot_after s (drop i t) ≡ s)
  part-whole e = (whole-none s (drop i t) e, after-whole s (drop i t) e)
