-- Document 01, "The straw draw": laws of the logarithm L and of its parts. Assumes nothing.
use Rattle.std.specs.Prelude.{◌≡◌, refl, Bool, true, false, cond, ℕ, zero, suc, ◌+◌, ◌-◌, ◌*◌, ◌/◌, ◌^◌, ◌≤◌, ◌<◌, leb}
use Rattle.std.proofs.Common.{ap, sym, ◌∙◌, subst, ⊎_elim, lt_of_not-le, eq-or-lt_of_le, le_of_suc-le-suc, add-zero, add-suc, suc-add, sub-add_cancel, mul-zero, mul-suc, mul-one, mul-le-mul, mul-le-mul_left, mul-le-mul_right, le_of_mul-le-mul_right, lt_of_mul-lt-mul_right, pow-suc, le-div_iff_mul-le, div-lt_iff_lt-mul, add-one, arith, leb-true, leb-false, lit<, lit≤, pow_mono, pow_pos, pow-add}
use Rattle.std.proofs.Math.Nat.{mul-lt-mul_of_pos_left, one-le-mul, one-le-pow, pow-zero, div-mul_cancel, dvd-mul_left, dvd-mul_left_of_dvd}
use Rattle.std.proofs.Math.Pow.{suc_ones}
use Rattle.definitions.specs.declared.Digits.{Digits}
use Rattle.definitions.specs.Straw.{floor_to, floor_log, digit, digits, mantissa, L}

-- ---- the whole part

floor_to-le : (u n : ℕ) → 1 ≤ u → 2 ^ floor_to u n ≤ u
unfolding floor_to
floor_to-le u zero h = omega arith
floor_to-le u (suc n) h = go (leb (2 ^ suc n) u) refl (floor_to-le u n h)
  where
    go : (b : Bool) → leb (2 ^ suc n) u ≡ b → 2 ^ floor_to u n ≤ u → 2 ^ cond b (suc n) (floor_to u n) ≤ u
    go true e r = leb-true _ _ e
    go false e r = r

floor_to-lt : (u n : ℕ) → u < 2 ^ suc n → u < 2 ^ suc (floor_to u n)
unfolding floor_to
floor_to-lt u zero h = h
floor_to-lt u (suc n) h = go (leb (2 ^ suc n) u) refl (floor_to-lt u n)
  where
    go : (b : Bool) → leb (2 ^ suc n) u ≡ b → (u < 2 ^ suc n → u < 2 ^ suc (floor_to u n)) → u < 2 ^ suc (cond b (suc n) (floor_to u n))
    go true e r = h
    go false e r = r (leb-false _ _ e)

-- "the whole part of its binary logarithm"
pub floor-law : (u : ℕ) → 1 ≤ u → u ≤ 2 ^ 32 → (2 ^ floor_log u ≤ u) × (u < 2 ^ suc (floor_log u))
unfolding floor_log
floor-law u p h = (floor_to-le u 32 p, floor_to-lt u 32 (omega arith))

-- a number below 2 ^ k has it below k
pub floor-lt : (u k : ℕ) → 1 ≤ u → u ≤ 2 ^ 32 → u < 2 ^ k → floor_log u < k
floor-lt u k p h l = lt_of_not-le (λ (g : k ≤ floor_log u). omega (arith, pow_mono g, (floor-law u p h).0))

-- no other e has 2 ^ e ≤ u < 2 ^ (e + 1)
pub floor-is : (u e : ℕ) → 1 ≤ u → u ≤ 2 ^ 32 → 2 ^ e ≤ u → u < 2 ^ suc e → floor_log u ≡ e
floor-is u e p h l g =
    let a : floor_log u < suc e = floor-lt u (suc e) p h g in
    let b : e < suc (floor_log u) = lt_of_not-le (λ (n : suc (floor_log u) ≤ e). omega (arith, pow_mono n, (floor-law u p h).1)) in
    omega arith

-- ---- the mantissa

-- it begins from 2 ^ 31 on
pub mantissa-ge : (u : ℕ) → 1 ≤ u → u ≤ 2 ^ 32 → 2 ^ 31 ≤ (mantissa u).m
unfolding mantissa
mantissa-ge u p h = (le-div_iff_mul-le (pow_pos (floor_log u))).1 (omega (arith, (floor-law u p h).0))

-- it begins below 2 ^ 32
pub mantissa-m : (u : ℕ) → 1 ≤ u → u ≤ 2 ^ 32 → (mantissa u).m < 2 ^ 32
unfolding mantissa
mantissa-m u p h = (div-lt_iff_lt-mul (pow_pos (floor_log u))).1 (omega (arith, (floor-law u p h).1))

exact_below : (u : ℕ) → floor_log u ≤ 31 → (mantissa u).m * 2 ^ floor_log u ≡ u * 2 ^ 31
unfolding mantissa
exact_below u l =
    let e : 2 ^ (31 - floor_log u) * 2 ^ floor_log u ≡ 2 ^ 31 = sym (pow-add 2 (31 - floor_log u) (floor_log u)) ∙ ap (λ (k : ℕ). 2 ^ k) (sub-add_cancel l) in
    div-mul_cancel _ (dvd-mul_left_of_dvd _ (rw e at (dvd-mul_left (2 ^ floor_log u) (2 ^ (31 - floor_log u)))) u)

-- "m = u × 2^31 / 2^e, exact"
pub mantissa-exact : (u : ℕ) → 1 ≤ u → u ≤ 2 ^ 32 → (mantissa u).m * 2 ^ floor_log u ≡ u * 2 ^ 31
unfolding mantissa floor_log floor_to
mantissa-exact u p h =
    ⊎_elim (λ e. subst (λ (n : ℕ). (mantissa n).m * 2 ^ floor_log n ≡ n * 2 ^ 31) (sym e) refl)
    (λ l. exact_below u (le_of_suc-le-suc (floor-lt u 32 p h l))) (eq-or-lt_of_le h)

-- its square is below 2 ^ 64
pub product_lt : (m : ℕ) → m < 2 ^ 32 → m * m < 2 ^ 64
product_lt m h = let g : m ≤ 2 ^ 32 - 1 = omega arith in omega (arith, mul-le-mul g g)

-- ---- the digits

-- what holds of the outcome for the digit 1 and for the digit 0 holds of it
digit-cases : (P : Digits → Type 0) (s : Digits)
    → (2 ^ 32 ≤ s.m * s.m / 2 ^ 31 → P (record { m = s.m * s.m / 2 ^ 31 / 2; d = s.d * 2 + 1 }))
    → (s.m * s.m / 2 ^ 31 < 2 ^ 32 → P (record { m = s.m * s.m / 2 ^ 31; d = s.d * 2 }))
    → P (digit s)
unfolding digit
digit-cases P s f g = go (leb (2 ^ 32) (s.m * s.m / 2 ^ 31)) refl
  where
    go : (b : Bool) → leb (2 ^ 32) (s.m * s.m / 2 ^ 31) ≡ b
        → P (cond b (record { m = s.m * s.m / 2 ^ 31 / 2; d = s.d * 2 + 1 }) (record { m = s.m * s.m / 2 ^ 31; d = s.d * 2 }))
    go true e = f (leb-true _ _ e)
    go false e = g (leb-false _ _ e)

-- the digit is what stands above the 32 bits, and the mantissa is shifted by it: the same without a branch
pub digit_shift : (s : Digits) (q b : ℕ) → s.m < 2 ^ 32 → q ≡ s.m * s.m / 2 ^ 31 → b ≡ q / 2 ^ 32
    → (b ≤ 1) × (record { m = q / 2 ^ b; d = s.d * 2 + b } ≡ digit s)
digit_shift s q b h e f =
    digit-cases (λ t. (b ≤ 1) × (record { m = q / 2 ^ b; d = s.d * 2 + b } ≡ t)) s
    (λ l.
    let one : b ≡ 1 = omega (arith, product_lt s.m h) in
    (omega arith, rw (one, e)))
    (λ l.
    let none : b ≡ 0 = omega arith in
    let whole : q / 2 ^ b ≡ s.m * s.m / 2 ^ 31 = rw none (omega arith) in
    (omega arith, rw (whole, none) (ap (λ (d : ℕ). record { m = s.m * s.m / 2 ^ 31; d = d }) (add-zero (s.d * 2)))))

-- a digit leaves the mantissa below 2 ^ 32
pub digit-m : (s : Digits) → s.m < 2 ^ 32 → (digit s).m < 2 ^ 32
digit-m s h = digit-cases (λ t. t.m < 2 ^ 32) s (λ l. omega (arith, product_lt s.m h)) (λ l. l)

-- k digits and one more are k + 1
pub digit-d : (s : Digits) (k : ℕ) → s.d < 2 ^ k → (digit s).d < 2 ^ (k + 1)
digit-d s k h = rw (add-one k) (digit-cases (λ t. t.d < 2 ^ suc k) s (λ l. omega arith) (λ l. omega arith))

-- j digits and k more are j + k
pub digits-d : (k j : ℕ) (s : Digits) → s.d < 2 ^ j → (digits k s).d < 2 ^ (j + k)
unfolding digits
digits-d zero j s h = rw add-zero h
digits-d (suc k) j s h = rw (add-suc, ← suc-add) (digits-d k (suc j) (digit s) (rw (add-one j) at (digit-d s j h)))

-- the (i + 1)th of twenty digits
pub one_more : (i : ℕ) (s : Digits) → i < 20 → digits (20 - (i + 1)) (digit s) ≡ digits (20 - i) s
unfolding digits
one_more i s h = let e : 20 - i ≡ suc (20 - (i + 1)) = omega arith in rw e

-- "cost 32 × 2^20 − L(u)" does not go below 0
pub log-le : (u : ℕ) → 1 ≤ u → u ≤ 2 ^ 32 → L u ≤ 32 * 2 ^ 20
unfolding L floor_log floor_to mantissa digits digit
log-le u p h =
    ⊎_elim (λ e. subst (λ (n : ℕ). L n ≤ 32 * 2 ^ 20) (sym e) (lit≤ tt))
    (λ l. omega (arith, floor-lt u 32 p h l, digits-d 20 0 (mantissa u) (lit< tt))) (eq-or-lt_of_le h)

-- ---- what L is: N is 2 ^ 31, A the mantissa at the beginning, and suc j is 2 ^ k after k digits

-- a lower bound of m squared, into the lower bound of a power of A
square-low : (A N P B j m n : ℕ) → P * m * N ^ j ≤ A ^ suc j → n * N * B ≤ m * m → P * P * B * n * N ^ (j + suc j) ≤ A ^ suc (j + suc j)
square-low A N P B j m n h g =
    rw (← suc-add j (suc j), pow-add A (suc j) (suc j), pow-add N j (suc j), pow-suc N j)
    (omega (arith, mul-le-mul h h, mul-le-mul_left (P * N ^ j * (P * N ^ j)) g))

-- an upper bound into the upper bound
square-high : (A N P B j m n : ℕ) → A ^ suc j ≤ P * m * N ^ j → m * m ≤ n * N * B → A ^ suc (j + suc j) ≤ P * P * B * n * N ^ (j + suc j)
square-high A N P B j m n h g =
    rw (← suc-add j (suc j), pow-add A (suc j) (suc j), pow-add N j (suc j), pow-suc N j)
    (omega (arith, mul-le-mul h h, mul-le-mul_left (P * N ^ j * (P * N ^ j)) g))

-- (1 + 1 / N) ^ j × (1 - j / N) is at most 1
pub compound : (N j n : ℕ) → j + n ≡ N → (N + 1) ^ j * n ≤ N ^ j * N
compound N zero n h = rw (pow-zero (N + 1), pow-zero N) (omega arith)
compound N (suc j) n h =
    let r : (N + 1) ^ j * suc n ≤ N ^ j * N = compound N j (suc n) (omega arith) in
    let l : n ≤ N = omega arith in
    rw (pow-suc (N + 1) j, pow-suc N j) (omega (arith, mul-le-mul_right N r, mul-le-mul_left ((N + 1) ^ j) l))

-- (1 + 1 / N) ^ j is at most 2
errors : (N j : ℕ) → 0 < N → j + j ≤ N → (N + 1) ^ j ≤ 2 * N ^ j
errors N j p h =
    let l : N ≤ (N - j) + (N - j) = omega arith in
    le_of_mul-le-mul_right (omega (arith, compound N j (N - j) (omega arith), mul-le-mul_left ((N + 1) ^ j) l)) p

-- A × 2 ^ e = u × N, to the power K
scaled : (A u N e K : ℕ) → A * 2 ^ e ≡ u * N → 2 ^ (e * K) * A ^ K ≡ u ^ K * N ^ K
scaled A u N e zero h = rw (mul-zero e, pow-zero A, pow-zero u, pow-zero N)
scaled A u N e (suc K) h =
    let r : 2 ^ (e * K) * A ^ K * (A * 2 ^ e) ≡ u ^ K * N ^ K * (u * N) = rw (scaled A u N e K h, h) in
    rw (mul-suc e K, pow-add 2 (e * K) e, pow-suc A K, pow-suc u K, pow-suc N K) (omega arith)

module _ (A u N e j d m : ℕ) (p : 0 < N) (h : A * 2 ^ e ≡ u * N) where
  end_low : N ≤ m → 2 ^ d * m * N ^ j ≤ A ^ suc j → 2 ^ (e * suc j + d) ≤ u ^ suc j
  end_low l g =
      let t : 2 ^ d * N ^ suc j ≤ A ^ suc j = rw (pow-suc N j) (omega (arith, mul-le-mul_left (2 ^ d * N ^ j) l)) in
      le_of_mul-le-mul_right {k = N ^ suc j}
      (rw (pow-add 2 (e * suc j) d) (omega (arith, scaled A u N e (suc j) h, mul-le-mul_left (2 ^ (e * suc j)) t)))
      (one-le-pow (suc j) N p)

  end-high : m < 2 * N → j + j ≤ N → A ^ suc j ≤ 2 ^ d * m * (N + 1) ^ j → u ^ suc j < 2 ^ (e * suc j + d + 2)
  end-high l f g =
      let s : 2 ^ d * N ^ j * m < 2 ^ d * N ^ j * (2 * N) = mul-lt-mul_of_pos_left l (one-le-mul (pow_pos d) (one-le-pow j N p)) in
      let t : A ^ suc j < 2 ^ d * 4 * N ^ suc j = rw (pow-suc N j) (omega (arith, mul-le-mul_left (2 ^ d * m) (errors N j p f))) in
      lt_of_mul-lt-mul_right (N ^ suc j)
      (rw (pow-add 2 (e * suc j + d) 2, pow-add 2 (e * suc j) d)
      (omega (arith, scaled A u N e (suc j) h, mul-lt-mul_of_pos_left t (pow_pos (e * suc j)))))

-- what holds before the first digit and after each
record Holds (A j : ℕ) (s : Digits) : Type 0 where
  least : 2 ^ 31 ≤ s.m
  most : s.m < 2 ^ 32
  low : 2 ^ s.d * s.m * (2 ^ 31) ^ j ≤ A ^ suc j
  high : A ^ suc j ≤ 2 ^ s.d * s.m * (2 ^ 31 + 1) ^ j

begins : (u : ℕ) → 1 ≤ u → u ≤ 2 ^ 32 → Holds (mantissa u).m 0 (mantissa u)
unfolding mantissa
begins u p h =
    let e : (mantissa u).m ^ 1 ≡ (mantissa u).m = rw (pow-suc (mantissa u).m 0, pow-zero (mantissa u).m) (omega arith) in
    record { least = mantissa-ge u p h; most = mantissa-m u p h; low = omega arith; high = omega arith }

-- one digit: B is 2 or 1
next : (A j B : ℕ) (s t : Digits) → Holds A j s → 2 ^ t.d ≡ 2 ^ s.d * 2 ^ s.d * B → 2 ^ 31 ≤ t.m → t.m < 2 ^ 32
    → t.m * 2 ^ 31 * B ≤ s.m * s.m → s.m * s.m ≤ t.m * (2 ^ 31 + 1) * B → Holds A (j + suc j) t
next A j B s t h e a b l g = record {
  least = a;
  most = b;
  low = rw e (square-low A (2 ^ 31) (2 ^ s.d) B j s.m t.m h.low l);
  high = rw e (square-high A (2 ^ 31 + 1) (2 ^ s.d) B j s.m t.m h.high g);
}

step : (A j : ℕ) (s : Digits) → Holds A j s → Holds A (j + suc j) (digit s)
step A j s h =
    let l : 2 ^ 31 * 2 ^ 31 ≤ s.m * s.m = mul-le-mul h.least h.least in
    let g : s.m * s.m < 2 ^ 64 = product_lt s.m h.most in
    let e : s.d * 2 ≡ s.d + s.d = omega arith in
    let twice : 2 ^ (s.d * 2) ≡ 2 ^ s.d * 2 ^ s.d = rw e (pow-add 2 s.d s.d) in
    digit-cases (Holds A (j + suc j)) s
    (λ k. next A j 2 s _ h (rw (add-one (s.d * 2), pow-suc 2 (s.d * 2), twice)) (omega arith) (omega arith) (omega arith) (omega arith))
    (λ k. next A j 1 s _ h (rw twice (sym (mul-one _))) (omega arith) (omega arith) (omega arith) (omega arith))

steps : (A k j i : ℕ) (s : Digits) → Holds A j s → suc i ≡ 2 ^ k * suc j → Holds A i (digits k s)
unfolding digits
steps A zero j i s h e = let d : i ≡ j = omega arith in rw d h
steps A (suc k) j i s h e = steps A k (j + suc j) i (digit s) (step A j s h) (omega (arith, rw (pow-suc 2 k) at e))

-- the law for k digits
with-digits : (u k : ℕ) → 1 ≤ u → u ≤ 2 ^ 32 → k ≤ 30
    → (2 ^ (floor_log u * 2 ^ k + (digits k (mantissa u)).d) ≤ u ^ (2 ^ k)) × (u ^ (2 ^ k) < 2 ^ (floor_log u * 2 ^ k + (digits k (mantissa u)).d + 2))
with-digits u k p h l =
    let j = 2 ^ k - 1 in
    let e : suc j ≡ 2 ^ k = suc_ones k in
    let A = (mantissa u).m in
    let s = digits k (mantissa u) in
    let r : Holds A j s = steps A k 0 j (mantissa u) (begins u p h) (e ∙ sym (mul-one _)) in
    rw (← e) (
      end_low A u (2 ^ 31) (floor_log u) j s.d s.m (lit< tt) (mantissa-exact u p h) r.least r.low,
      end-high A u (2 ^ 31) (floor_log u) j s.d s.m (lit< tt) (mantissa-exact u p h) r.most (omega (arith, pow_mono l)) r.high,
    )

-- L u is 2 ^ 20 times the binary logarithm of u, or below it by less than 2
pub log-law : (u : ℕ) → 1 ≤ u → u ≤ 2 ^ 32 → (2 ^ L u ≤ u ^ (2 ^ 20)) × (u ^ (2 ^ 20) < 2 ^ (L u + 2))
unfolding L
log-law u p h = with-digits u 20 p h (lit≤ tt)
