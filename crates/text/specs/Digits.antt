-- The lowest layer: digits and numbers of n digits, read and written. Assumes nothing.
use Rattle.std.specs.Prelude.{◌≡◌, refl, Bool, true, false, List, [], ◌∷◌, ◌++◌, ℕ, zero, suc, ◌+◌, ◌-◌, ◌*◌, ◌/◌, ◌%◌, ◌^◌, ◌<◌, ◌≤◌, leb, ltb, length, get_or, take, drop, set}
use Rattle.std.proofs.Common.{sym, ◌∙◌, append_assoc, arith, add-one, lit<, length-append, get_or-drop, get_or-take, take-suc, drop-cons, lt-length-set, get_or-set_same, drop-set-lt, leb-true, leb-false, ltb-true, ltb-false, lt-ltb, le-ltb, le-leb}
use Rattle.std.proofs.Math.Nat.{pow-le-pow_right}
use Rattle.std.proofs.lemmas.List.{get_or_at}
use Rattle.std.proofs.lemmas.Bool.{lt-leb}
use Rattle.definitions.specs.Lists.{every}
use Rattle.definitions.specs.Frames.{is_digit, digit_value, digit_byte, value, hex}
use Rattle.laws.specs.Lists.{and_both, every_append, every-at}

-- n digits are n bytes
pub length-hex : (n v : ℕ) → length (hex n v) ≡ n
unfolding hex
length-hex zero v = refl
length-hex (suc n) v = length-append (hex n (v / 16)) _ ∙ omega (arith, length-hex n (v / 16))

-- bytes below `0`: the first of the five ranges of a byte
pub low : (b : ℕ) → b < 48 → (is_digit b ≡ false) × (digit_value b ≡ 0)
unfolding is_digit digit_value
low b h = simp (lt-leb 48 b h, lt-leb 97 b (omega arith)) (refl, refl)

-- `0` to `9`
pub decimal : (b : ℕ) → 48 ≤ b → b ≤ 57 → (is_digit b ≡ true) × (digit_value b ≡ b - 48)
unfolding is_digit digit_value
decimal b h g = simp (le-leb 48 b h, le-leb b 57 g) (refl, refl)

-- bytes between `9` and `a`
pub between : (b : ℕ) → 57 < b → b < 97 → (is_digit b ≡ false) × (digit_value b ≡ 0)
unfolding is_digit digit_value
between b h g = simp (le-leb 48 b (omega arith), lt-leb b 57 h, lt-leb 97 b g) (refl, refl)

-- `a` to `f`
pub letter : (b : ℕ) → 97 ≤ b → b ≤ 102 → (is_digit b ≡ true) × (digit_value b ≡ b - 87)
unfolding is_digit digit_value
letter b h g = simp (le-leb 48 b (omega arith), lt-leb b 57 (omega arith), le-leb 97 b h, le-leb b 102 g) (refl, refl)

-- bytes above `f`
pub above : (b : ℕ) → 102 < b → (is_digit b ≡ false) × (digit_value b ≡ 0)
unfolding is_digit digit_value
above b h = simp (le-leb 48 b (omega arith), lt-leb b 57 (omega arith), le-leb 97 b (omega arith), lt-leb b 102 h) (refl, refl)

-- what holds in each range holds of each byte
pub ranges : (P : Type 0) (b : ℕ) → (b < 48 → P) → (48 ≤ b → b ≤ 57 → P) → (57 < b → b < 97 → P) → (97 ≤ b → b ≤ 102 → P) → (102 < b → P) → P
ranges P b f1 f2 f3 f4 f5 = go (ltb b 48) (leb b 57) (ltb b 97) (leb b 102) refl refl refl refl
  where
    go : (p q r s : Bool) → ltb b 48 ≡ p → leb b 57 ≡ q → ltb b 97 ≡ r → leb b 102 ≡ s → P
    go true q r s e1 e2 e3 e4 = f1 (ltb-true b 48 e1)
    go false true r s e1 e2 e3 e4 = f2 (ltb-false b 48 e1) (leb-true b 57 e2)
    go false false true s e1 e2 e3 e4 = f3 (leb-false b 57 e2) (ltb-true b 97 e3)
    go false false false true e1 e2 e3 e4 = f4 (ltb-false b 97 e3) (leb-true b 102 e4)
    go false false false false e1 e2 e3 e4 = f5 (leb-false b 102 e4)

-- the value of a byte is below 16
pub digit_lt : (b : ℕ) → digit_value b < 16
digit_lt b =
    ranges (digit_value b < 16) b (λ h. omega (arith, (low b h).1)) (λ h g. omega (arith, (decimal b h g).1))
    (λ h g. omega (arith, (between b h g).1)) (λ h g. omega (arith, (letter b h g).1)) (λ h. omega (arith, (above b h).1))

-- a number of n digits is below 16 ^ n
pub value-lt : (n : ℕ) (t : List ℕ) → value n t < 16 ^ n
unfolding value
value-lt zero t = omega arith
value-lt (suc n) t = omega (arith, value-lt n t, digit_lt (get_or t n 0))

-- the digits of values below 10
pub byte_small : (v : ℕ) → v < 10 → digit_byte v ≡ v + 48
unfolding digit_byte
byte_small v h = simp (lt-ltb v 10 h)

-- the digits of values from 10 on
pub byte-large : (v : ℕ) → 10 ≤ v → digit_byte v ≡ v + 87
unfolding digit_byte
byte-large v h = simp (le-ltb v 10 h)

-- the value of the digit of a value
pub digit-byte : (v : ℕ) → v < 16 → digit_value (digit_byte v) ≡ v
digit-byte v h = go (ltb v 10) refl
  where
    go : (p : Bool) → ltb v 10 ≡ p → digit_value (digit_byte v) ≡ v
    go true e = rw (byte_small v (ltb-true v 10 e)) ((decimal (v + 48) (omega arith) (omega (arith, ltb-true))).1 ∙ omega arith)
    go false e = rw (byte-large v (ltb-false v 10 e)) ((letter (v + 87) (omega (arith, ltb-false)) (omega arith)).1 ∙ omega arith)

-- the digit of a value is a digit
pub byte-is : (v : ℕ) → v < 16 → is_digit (digit_byte v) ≡ true
byte-is v h = go (ltb v 10) refl
  where
    go : (p : Bool) → ltb v 10 ≡ p → is_digit (digit_byte v) ≡ true
    go true e = rw (byte_small v (ltb-true v 10 e)) (decimal (v + 48) (omega arith) (omega (arith, ltb-true))).0
    go false e = rw (byte-large v (ltb-false v 10 e)) (letter (v + 87) (omega (arith, ltb-false)) (omega arith)).0

-- a test is not answered twice
pub not-both : {P : Type 0} (b : Bool) → b ≡ true → b ≡ false → P
not-both b p q = absurd (let z : ◌≡◌ {A = ℕ} 0 1 = cc in omega arith)

-- the digit of the value of a digit
pub byte-digit : (b : ℕ) → is_digit b ≡ true → digit_byte (digit_value b) ≡ b
byte-digit b e =
    ranges (digit_byte (digit_value b) ≡ b) b (λ h. not-both (is_digit b) e (low b h).0)
    (λ h g. rw (decimal b h g).1 (byte_small (b - 48) (omega arith) ∙ omega arith))
    (λ h g. not-both (is_digit b) e (between b h g).0)
    (λ h g. rw (letter b h g).1 (byte-large (b - 87) (omega arith) ∙ omega arith)) (λ h. not-both (is_digit b) e (above b h).0)

-- the first n digits of a text, read and written
pub hex-value : (n : ℕ) (t : List ℕ) → n ≤ length t → ((i : ℕ) → i < n → is_digit (get_or t i 0) ≡ true) → hex n (value n t) ≡ take n t
unfolding value hex
hex-value zero t h d = refl
hex-value (suc n) t h d =
    let b = get_or t n 0 in
    let q : (value n t * 16 + digit_value b) / 16 ≡ value n t = omega (arith, digit_lt b) in
    let r : (value n t * 16 + digit_value b) % 16 ≡ digit_value b = omega (arith, digit_lt b) in
    rw (q, r, hex-value n t (omega arith) (λ i l. d i (omega arith)), byte-digit b (d n (omega arith)), take-suc t n 0)

-- the same of a text of digits
pub hex-of : (n : ℕ) (t : List ℕ) → n ≤ length t → every is_digit t ≡ true → hex n (value n t) ≡ take n t
hex-of n t h d = hex-value n t h (λ i l. every-at is_digit t i 0 d (omega arith))

-- a number that fits n digits, written and read
pub value-hex : (n v : ℕ) (r : List ℕ) → v < 16 ^ n → value n (hex n v ++ r) ≡ v
unfolding value hex
value-hex zero v r h = omega arith
value-hex (suc n) v r h =
    rw (
      append_assoc,
      value-hex n (v / 16) _ (omega arith),
      get_or_at (hex n (v / 16)) (digit_byte (v % 16)) r 0 n (length-hex n (v / 16)),
      digit-byte (v % 16) (omega arith),
    )
    (omega arith)

-- a loop that writes the last digit first
pub put-more : (i w : ℕ) (out r : List ℕ) → 0 < i → i ≤ length out → hex i w ++ drop i out ≡ r
    → hex (i - 1) (w / 16) ++ drop (i - 1) (set out (i - 1) (digit_byte (w % 16))) ≡ r
unfolding hex
put-more zero w out r p h e = absurd (omega arith)
put-more (suc j) w out r p h e =
    let k : suc j - 1 ≡ j = omega arith in
    rw (
      k,
      drop-cons (set out j (digit_byte (w % 16))) j 0 (lt-length-set out j _ (omega arith)),
      get_or-set_same out j (digit_byte (w % 16)) 0 (omega arith),
      drop-set-lt (suc j) out j _ (omega arith),
    )
    (sym (append_assoc (hex j (w / 16)) _ _) ∙ e)

-- seven digits and one more fit 32 bits
pub value-small : (n : ℕ) (t : List ℕ) → n < 8 → value n t < 2 ^ 28
value-small n t h = omega (arith, value-lt n t, pow-le-pow_right {n = 16} (lit< tt) {i = n} {j = 7} (omega arith))

-- a loop that reads one digit more
pub value-next : (i at v d : ℕ) (s : List ℕ) → v ≡ value i (drop at s) → d ≡ digit_value (get_or s (at + i) 0) → v * 16 + d ≡ value (i + 1) (drop at s)
unfolding value
value-next i at v d s e f = rw (add-one i, get_or-drop, e, f)

-- what is written are digits
pub hex-digits : (n v : ℕ) → every is_digit (hex n v) ≡ true
unfolding hex every
hex-digits zero v = refl
hex-digits (suc n) v =
    rw (every_append is_digit (hex n (v / 16)) (digit_byte (v % 16) ∷ []))
    (and_both (hex-digits n (v / 16)) (and_both (byte-is (v % 16) (omega arith)) refl))

-- digits beyond the first n do not count
pub value-take : (n m : ℕ) (t : List ℕ) → n ≤ m → value n (take m t) ≡ value n t
unfolding value
value-take zero m t h = refl
value-take (suc n) m t h = rw (value-take n m t (omega arith), get_or-take m t n 0 (omega arith))
