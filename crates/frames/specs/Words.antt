-- Digits read side by side in one word: a byte for each, then each byte's value, then the values together. Assumes nothing.
use Rattle.std.specs.Prelude.{◌≡◌, refl, true, List, ℕ, zero, suc, ◌+◌, ◌-◌, ◌*◌, ◌/◌, ◌%◌, ◌^◌, ◌<◌, ◌≤◌, get_or, drop}
use Rattle.std.proofs.Common.{ap, ◌∙◌, arith, add-zero, add_assoc, lit<, get_or-drop, drop-drop}
use Rattle.std.proofs.Math.Nat.{pow-le-pow_right}
use Rattle.std.specs.Int.Bits.{bit_and, and_zero_r}
use Rattle.std.proofs.lemmas.Nat.{and_block, and_mask}
use Rattle.definitions.specs.Frames.{is_digit, digit_value, value}
use Rattle.text.specs.Records.{DigitsAt}
use Rattle.text.specs.Digits.{low, decimal, between, letter, above, ranges, not-both, digit_lt}

-- the first n bytes, as a number
unfoldable pub word_of : ℕ → List ℕ → ℕ
word_of zero bs = 0
word_of (suc n) bs = word_of n bs * 256 + get_or bs n 0

-- 1 in each of n bytes
unfoldable pub ones : ℕ → ℕ
ones zero = 0
ones (suc n) = ones n * 256 + 1

-- in the byte of a digit its value
abbrev pub spread : ℕ → ℕ → ℕ
spread w o = w - 48 * o - 39 * bit_and (w / 64) o

-- the values two and two, each pair in the lower byte of two
abbrev pub paired : ℕ → ℕ
paired d = d + d / 16

-- and those of eight digits together
abbrev pub packed : ℕ → ℕ
packed d =
    paired d / 2 ^ 48 % 256 * 2 ^ 24 + paired d / 2 ^ 32 % 256 * 2 ^ 16 + paired d / 2 ^ 16 % 256 * 2 ^ 8 + paired d % 256

-- the first n bytes are digits
abbrev pub Digits : ℕ → List ℕ → Type 0
Digits n bs = (i : ℕ) → i < n → is_digit (get_or bs i 0) ≡ true

-- a field of n digits, q behind the start p of a line
pub digits_in : (t : List ℕ) (p q n l : ℕ) → DigitsAt t p l → q + n ≤ l → Digits n (drop (p + q) t)
digits_in t p q n l d h i k = rw (get_or-drop (p + q) t i 0, add_assoc p q i) (d (q + i) (omega (arith, h, k)))

-- what the first n digits are worth, a byte for each
unfoldable values_of : ℕ → List ℕ → ℕ
values_of zero bs = 0
values_of (suc n) bs = values_of n bs * 256 + digit_value (get_or bs n 0)

-- 1 in the byte of each digit that is a letter
unfoldable letters_of : ℕ → List ℕ → ℕ
letters_of zero bs = 0
letters_of (suc n) bs = letters_of n bs * 256 + get_or bs n 0 / 64

-- a digit is below 128, and above its value by 48, or by 87 where it is a letter
of-digit : (b : ℕ) → is_digit b ≡ true → (b < 128) × (digit_value b + 48 + 39 * (b / 64) ≡ b)
of-digit b e =
    ranges ((b < 128) × (digit_value b + 48 + 39 * (b / 64) ≡ b)) b (λ h. not-both (is_digit b) e (low b h).0)
    (λ h g. (omega arith, omega (arith, (decimal b h g).1)))
    (λ h g. not-both (is_digit b) e (between b h g).0)
    (λ h g. (omega arith, omega (arith, (letter b h g).1))) (λ h. not-both (is_digit b) e (above b h).0)

-- the lowest byte of a mask of ones takes the lowest bit
mask_one : (y m : ℕ) → bit_and y (m * 256 + 1) ≡ bit_and (y / 256) m * 256 + y % 2
mask_one y m =
    let e : y ≡ y / 256 * 2 ^ 8 + y % 256 = omega arith in
    let f : y % 256 % 2 ≡ y % 2 = omega arith in
    ap (λ (x : ℕ). bit_and x (m * 2 ^ 8 + 1)) e ∙ and_block 8 (y / 256) m (y % 256) 1 (omega arith) (omega arith)
    ∙ ap (λ (x : ℕ). bit_and (y / 256) m * 256 + x) (and_mask (y % 256) 1 ∙ f)

-- so the mask takes the bit that tells a letter
letters : (n : ℕ) (bs : List ℕ) → Digits n bs → bit_and (word_of n bs / 64) (ones n) ≡ letters_of n bs
unfolding word_of ones letters_of
letters zero bs d = and_zero_r 0
letters (suc n) bs d =
    let w = word_of n bs in
    let b = get_or bs n 0 in
    let l = (of-digit b (d n (omega arith))).0 in
    let p : (w * 256 + b) / 64 / 256 ≡ w / 64 = omega (arith, l) in
    let q : (w * 256 + b) / 64 % 2 ≡ b / 64 = omega (arith, l) in
    mask_one ((w * 256 + b) / 64) (ones n) ∙ rw (p, q, letters n bs (λ i h. d i (omega arith))) refl

-- and what is left in each byte is the digit's value
parted : (n : ℕ) (bs : List ℕ) → Digits n bs → values_of n bs + 48 * ones n + 39 * letters_of n bs ≡ word_of n bs
unfolding values_of word_of ones letters_of
parted zero bs d = refl
parted (suc n) bs d = omega (arith, parted n bs (λ i h. d i (omega arith)), (of-digit (get_or bs n 0) (d n (omega arith))).1)

-- nothing is taken from less
pub spread-room : (n : ℕ) (bs : List ℕ) → Digits n bs → 48 * ones n + 39 * bit_and (word_of n bs / 64) (ones n) ≤ word_of n bs
spread-room n bs d = rw (letters n bs d) (omega (arith, parted n bs d))

spread-values : (n : ℕ) (bs : List ℕ) → Digits n bs → spread (word_of n bs) (ones n) ≡ values_of n bs
spread-values n bs d = rw (letters n bs d) (omega (arith, parted n bs d))

-- the lowest value apart
paired-low : (y h : ℕ) → h < 16 → paired (y * 256 + h) ≡ y * 272 + h
paired-low y h l = let e : (y * 256 + h) / 16 ≡ y * 16 = omega (arith, l) in rw e (omega arith)

-- the lowest pair, and the pairs above it
pair : (x f g h : ℕ) → f < 16 → g < 16 → h < 16
    → (paired (((x * 256 + f) * 256 + g) * 256 + h) % 256 ≡ g * 16 + h) × (paired (((x * 256 + f) * 256 + g) * 256 + h) / 2 ^ 16 ≡ paired (x * 256 + f))
pair x f g h lf lg lh =
    let e = paired-low ((x * 256 + f) * 256 + g) h lh in
    let k : paired (((x * 256 + f) * 256 + g) * 256 + h) ≡ (x * 272 + f) * 2 ^ 16 + ((f * 16 + g) * 256 + (g * 16 + h)) = e ∙ omega arith in
    (rw k (omega (arith, lf, lg, lh)), rw (k, paired-low x f lf) (omega (arith, lf, lg, lh)))

-- the highest pair
pair-top : (a b : ℕ) → a < 16 → b < 16 → paired (a * 256 + b) % 256 ≡ a * 16 + b
pair-top a b la lb = rw (paired-low a b lb) (omega (arith, la, lb))

-- eight values together
module _ (a b c d e f g h : ℕ) (lb : b < 16) (lc : c < 16) (ld : d < 16) (le : e < 16) (lf : f < 16) (lg : g < 16) (lh : h < 16) (la : a < 16) where
  pack : packed (((((((a * 256 + b) * 256 + c) * 256 + d) * 256 + e) * 256 + f) * 256 + g) * 256 + h)
      ≡ ((((((a * 16 + b) * 16 + c) * 16 + d) * 16 + e) * 16 + f) * 16 + g) * 16 + h
  pack =
      let d2 = a * 256 + b in
      let d4 = (d2 * 256 + c) * 256 + d in
      let d6 = (d4 * 256 + e) * 256 + f in
      let s = paired ((d6 * 256 + g) * 256 + h) in
      let p = pair (d4 * 256 + e) f g h lf lg lh in
      let q = pair (d2 * 256 + c) d e f ld le lf in
      let r = pair a b c d lb lc ld in
      let l1 : s / 2 ^ 16 % 256 ≡ e * 16 + f = rw p.1 q.0 in
      let h2 : s / 2 ^ 32 ≡ paired d4 = let z : s / 2 ^ 32 ≡ s / 2 ^ 16 / 2 ^ 16 = omega arith in z ∙ rw p.1 q.1 in
      let l2 : s / 2 ^ 32 % 256 ≡ c * 16 + d = rw h2 r.0 in
      let h3 : s / 2 ^ 48 ≡ paired d2 = let z : s / 2 ^ 48 ≡ s / 2 ^ 32 / 2 ^ 16 = omega arith in z ∙ rw h2 r.1 in
      let l3 : s / 2 ^ 48 % 256 ≡ a * 16 + b = rw h3 (pair-top a b la lb) in
      rw (l3, l2, l1, p.0) (omega arith)

-- the values of n digits leave room in each byte
values-lt : (n : ℕ) (bs : List ℕ) → values_of n bs * 16 < 256 ^ n
unfolding values_of
values-lt zero bs = omega arith
values-lt (suc n) bs = omega (arith, values-lt n bs, digit_lt (get_or bs n 0))

-- eight digits are read
pack-eight : (bs : List ℕ) → packed (values_of 8 bs) ≡ value 8 bs
unfolding values_of value
pack-eight bs =
    let l : (i : ℕ) → digit_value (get_or bs i 0) < 16 = λ i. digit_lt (get_or bs i 0) in
    pack (0 + digit_value (get_or bs 0 0)) _ _ _ _ _ _ _ (l 1) (l 2) (l 3) (l 4) (l 5) (l 6) (l 7) (omega (arith, l 0))

-- and four, with four zeros before them
pack-four : (bs : List ℕ) → packed (values_of 4 bs) ≡ value 4 bs
unfolding values_of value
pack-four bs =
    let l : (i : ℕ) → digit_value (get_or bs i 0) < 16 = λ i. digit_lt (get_or bs i 0) in
    let z : 0 < 16 = omega arith in
    pack 0 0 0 0 _ _ _ _ z z z (l 0) (l 1) (l 2) (l 3) z

-- at most eight digits spread over a word
pub spread-lt : (n : ℕ) (bs : List ℕ) → Digits n bs → n ≤ 8 → spread (word_of n bs) (ones n) < 2 ^ 60
spread-lt n bs d h = rw (spread-values n bs d) (omega (arith, values-lt n bs, pow-le-pow_right {n = 256} (lit< tt) {i = n} {j = 8} h))

-- their number
pub read-eight : (bs : List ℕ) → Digits 8 bs → packed (spread (word_of 8 bs) (ones 8)) ≡ value 8 bs
read-eight bs d = rw (spread-values 8 bs d) (pack-eight bs)

pub read-four : (bs : List ℕ) → Digits 4 bs → packed (spread (word_of 4 bs) (ones 4)) ≡ value 4 bs
read-four bs d = rw (spread-values 4 bs d) (pack-four bs)

-- the bytes of a word
pub word-four : (t : List ℕ) (at : ℕ)
    → get_or t at 0 * 2 ^ 24 + get_or t (at + 1) 0 * 2 ^ 16 + get_or t (at + 2) 0 * 2 ^ 8 + get_or t (at + 3) 0 ≡ word_of 4 (drop at t)
unfolding word_of
word-four t at = simp (get_or-drop, add-zero) (omega arith)

-- a word of two halves
halves : (bs : List ℕ) → word_of 4 bs * 2 ^ 32 + word_of 4 (drop 4 bs) ≡ word_of 8 bs
unfolding word_of
halves bs = simp get_or-drop (omega arith)

pub word-eight : (t : List ℕ) (at : ℕ) → word_of 4 (drop at t) * 2 ^ 32 + word_of 4 (drop (at + 4) t) ≡ word_of 8 (drop at t)
word-eight t at = rw (← drop-drop 4 at t) (halves (drop at t))
