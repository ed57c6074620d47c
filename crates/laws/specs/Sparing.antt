-- Document 01, "The straw draw": bounds of the cost, from below and from above, that need no logarithm, and when a key is greater for certain.
-- Assumes nothing.
use Rattle.std.specs.Prelude.{◌≡◌, refl, ℕ, zero, suc, ◌+◌, ◌-◌, ◌*◌, ◌/◌, ◌^◌, ◌≤◌, ◌<◌}
use Rattle.std.proofs.Common.{ap, lt_of_not-le, le_of_suc-le-suc, mul-zero, mul-suc, pow-suc, mul-le-mul, mul-le-mul_left, mul-le-mul_right, le_of_mul-le-mul_right, le-div_iff_mul-le, div-mul-le_self, arith, lit<, lit≤, pow-add, pow_pos}
use Rattle.std.proofs.Math.Nat.{pow-zero, one-le-pow, one-le-mul, pow-lt-pow_left, lt-div-mul-add}
use Rattle.std.proofs.Math.Decide.{dec_lt}
use Rattle.definitions.specs.Straw.{L, cost, key}
use Rattle.laws.specs.Logarithm.{log-le, log-law, compound}

pow-mul : (a m n : ℕ) → a ^ (m * n) ≡ (a ^ m) ^ n
pow-mul a m zero = rw (mul-zero m, pow-zero a, pow-zero (a ^ m))
pow-mul a m (suc n) = rw (mul-suc m n, pow-add a (m * n) m, pow-mul a m n, pow-suc (a ^ m) n)

-- an inequality of products, to the power n
powers : (a b c d n : ℕ) → a * b ≤ c * d → a ^ n * b ^ n ≤ c ^ n * d ^ n
powers a b c d zero h = rw (pow-zero a, pow-zero b, pow-zero c, pow-zero d) (lit≤ tt)
powers a b c d (suc n) h = rw (pow-suc a n, pow-suc b n, pow-suc c n, pow-suc d n) (omega (arith, mul-le-mul (powers a b c d n h) h))

-- (1 + 1 / B) ^ q is at least 1 + q / B
growth : (B q : ℕ) → (B + q) * B ^ q ≤ B * (B + 1) ^ q
growth B zero = rw (pow-zero B, pow-zero (B + 1)) (omega arith)
growth B (suc q) = rw (pow-suc B q, pow-suc (B + 1) q) (omega (arith, mul-le-mul_right (B + 1) (growth B q)))

-- where B is a × q, and 1 + 1 / a to the power k is at least 2, so is 1 + 1 / B to the power q × k
doubles : (B q a k : ℕ) → 0 < q → 0 < a → B ≡ a * q → 2 * a ^ k ≤ (a + 1) ^ k → 2 * B ^ (q * k) ≤ (B + 1) ^ (q * k)
doubles B q a k p r e h =
    let g : (a + 1) * B ^ q ≤ a * (B + 1) ^ q = le_of_mul-le-mul_right {k = q}
    (omega (arith, growth B q, ap (λ (n : ℕ). n * B ^ q) e, ap (λ (n : ℕ). n * (B + 1) ^ q) e)) p in
    rw (pow-mul B q k, pow-mul (B + 1) q k)
    (le_of_mul-le-mul_right {k = a ^ k}
    (omega (arith, mul-le-mul_right ((B ^ q) ^ k) h, powers (a + 1) (B ^ q) a ((B + 1) ^ q) k g))
    (one-le-pow k a r))

-- twice x at most y, to the power n
doubled : (x y n : ℕ) → 2 * x ≤ y → 2 ^ n * x ^ n ≤ y ^ n
doubled x y zero h = rw (pow-zero 2, pow-zero x, pow-zero y) (lit≤ tt)
doubled x y (suc n) h = rw (pow-suc 2 n, pow-suc x n, pow-suc y n) (omega (arith, mul-le-mul (doubled x y n h) h))

-- powers of 1 + 1 / B rise with the exponent
exponents : (B i j : ℕ) → 0 < B → (B + 1) ^ i * B ^ j ≤ B ^ i * (B + 1) ^ j → i ≤ j
exponents B i j p h =
    le_of_suc-le-suc (lt_of_not-le (λ (l : suc j ≤ i).
    let d = i - j in
    let e : i ≡ j + d = omega arith in
    let s : B ^ d < (B + 1) ^ d = pow-lt-pow_left (omega arith) (λ (z : d ≡ 0). omega arith) in
    let t : (B + 1) ^ d * ((B + 1) ^ j * B ^ j) ≤ B ^ d * ((B + 1) ^ j * B ^ j) =
    omega (arith, rw (e, pow-add (B + 1) j d, pow-add B j d) at h) in
    omega (arith, le_of_mul-le-mul_right {k = (B + 1) ^ j * B ^ j} t (one-le-mul (one-le-pow j (B + 1) (omega arith)) (one-le-pow j B p)))))

-- the bound for a logarithm l of u in N-ths: 2 ^ b is the greatest u, t what u is below it, and c the cost
bound : (b N q a k t u l c : ℕ) → 0 < q → 0 < a → 2 ^ b ≡ a * q → 2 * a ^ k ≤ (a + 1) ^ k → t + u ≡ 2 ^ b → 0 < u → l + c ≡ b * N
    → 2 ^ l ≤ u ^ N → t * N ≤ q * k * c
bound b N q a k t u l c p r e h s g z m =
    let B = 2 ^ b in
    let top : B ^ N ≤ 2 ^ c * u ^ N = rw (← pow-mul 2 b N, ← z, pow-add 2 l c) (omega (arith, mul-le-mul_left (2 ^ c) m)) in
    let less : (B + 1) ^ (t * N) ≤ B ^ (t * N) * 2 ^ c =
    rw (pow-mul (B + 1) t N, pow-mul B t N)
    (le_of_mul-le-mul_right {k = u ^ N}
    (omega (arith, powers ((B + 1) ^ t) u (B ^ t) B N (compound B t u s), mul-le-mul_left ((B ^ t) ^ N) top))
    (one-le-pow N u g)) in
    let more : 2 ^ c * B ^ (q * k * c) ≤ (B + 1) ^ (q * k * c) =
    rw (pow-mul B (q * k) c, pow-mul (B + 1) (q * k) c) (doubled (B ^ (q * k)) ((B + 1) ^ (q * k)) c (doubles B q a k p r e h)) in
    exponents B (t * N) (q * k * c) (pow_pos b)
    (omega (arith, mul-le-mul_right (B ^ (q * k * c)) less, mul-le-mul_left (B ^ (t * N)) more))

-- u, below 2 ^ 32 by t, costs at least t / 2848: it costs 2 ^ 20 × log2 (1 / (1 - t / 2 ^ 32)) or more, 2848 / 2 ^ 12 is just above the natural
-- logarithm of 2, and 1 + 1 / 256 to the power 178 is above 2
pub cost-least : (t u : ℕ) → 0 < u → t + u ≡ 2 ^ 32 → t ≤ 2848 * cost u
unfolding cost
cost-least t u p e =
    let h : u ≤ 2 ^ 32 = omega arith in
    let s : L u + (32 * 2 ^ 20 - L u) ≡ 32 * 2 ^ 20 = omega (arith, log-le u p h) in
    omega (arith, bound 32 (2 ^ 20) (2 ^ 24) 256 178 t u (L u) (32 * 2 ^ 20 - L u) (lit< tt) (lit< tt) refl (lit≤ tt) e p s (log-law u p h).0)

-- where B is (a + 1) × q, and 1 + 1 / a to the power k is at most 2, so is 1 + 1 / B to the power q × k
halves : (B q a k : ℕ) → 0 < q → 0 < a → B ≡ (a + 1) * q → (a + 1) ^ k ≤ 2 * a ^ k → (B + 1) ^ (q * k) ≤ 2 * B ^ (q * k)
halves B q a k p r e h =
    let g : (B + 1) ^ q * a ≤ B ^ q * (a + 1) = le_of_mul-le-mul_right {k = q}
    (omega (arith, compound B q (a * q) (omega arith), ap (λ (n : ℕ). B ^ q * n) e)) p in
    rw (pow-mul B q k, pow-mul (B + 1) q k)
    (le_of_mul-le-mul_right {k = a ^ k}
    (omega (arith, powers ((B + 1) ^ q) a (B ^ q) (a + 1) k g, mul-le-mul_left ((B ^ q) ^ k) h))
    (one-le-pow k a r))

-- y at most twice x, to the power n
halved : (x y n : ℕ) → y ≤ 2 * x → y ^ n ≤ 2 ^ n * x ^ n
halved x y zero h = rw (pow-zero 2, pow-zero x, pow-zero y) (lit≤ tt)
halved x y (suc n) h = rw (pow-suc 2 n, pow-suc x n, pow-suc y n) (omega (arith, mul-le-mul (halved x y n h) h))

-- the bound from above for a cost of d + 2: j / 2 ^ b is at least t / u
bound-above : (b N q a k j t u l d : ℕ) → 0 < q → 0 < a → 2 ^ b ≡ (a + 1) * q → (a + 1) ^ k ≤ 2 * a ^ k → t + u ≡ 2 ^ b → 2 ^ b * t ≤ j * u
    → l + (d + 2) ≡ b * N → u ^ N ≤ 2 ^ (l + 2) → q * k * d ≤ j * N
bound-above b N q a k j t u l d p r e h s g z m =
    let B = 2 ^ b in
    let grown : B * B ^ j ≤ u * (B + 1) ^ j = le_of_mul-le-mul_right {k = B}
    (omega (arith, mul-le-mul_left u (growth B j), mul-le-mul_right (B ^ j) g, ap (λ (n : ℕ). n * B * B ^ j) s))
    (pow_pos b) in
    let top : B ^ N ≡ 2 ^ l * 2 ^ d * 4 = rw (← pow-mul 2 b N, ← z, pow-add 2 l (d + 2), pow-add 2 d 2) (omega arith) in
    let more : 2 ^ d * B ^ (j * N) ≤ (B + 1) ^ (j * N) =
    rw (pow-mul (B + 1) j N, pow-mul B j N)
    (le_of_mul-le-mul_right {k = 2 ^ l * 4}
    (omega (arith, powers B (B ^ j) u ((B + 1) ^ j) N grown, ap (λ (n : ℕ). n * (B ^ j) ^ N) top, mul-le-mul_right (((B + 1) ^ j) ^ N) m, ap (λ (n : ℕ). n * ((B + 1) ^ j) ^ N) (pow-add 2 l 2)))
    (omega (arith, pow_pos l))) in
    let less : (B + 1) ^ (q * k * d) ≤ 2 ^ d * B ^ (q * k * d) =
    rw (pow-mul B (q * k) d, pow-mul (B + 1) (q * k) d) (halved (B ^ (q * k)) ((B + 1) ^ (q * k)) d (halves B q a k p r e h)) in
    exponents B (q * k * d) (j * N) (pow_pos b)
    (omega (arith, mul-le-mul_right (B ^ (j * N)) less, mul-le-mul_left (B ^ (q * k * d)) more))

-- u, below 2 ^ 32 by t, costs at most 2 ^ 32 × t / u / 2832, and 3: it costs 2 ^ 20 × log2 (1 + t / u) or less than 2 more, 2832 / 2 ^ 12 is just
-- below the natural logarithm of 2, and 1 + 1 / 255 to the power 177 is below 2
pub cost-most : (t u : ℕ) → 0 < u → t + u ≡ 2 ^ 32 → cost u ≤ 2 ^ 32 * t / u / 2832 + 3
unfolding cost
cost-most t u p e = go (dec_lt (32 * 2 ^ 20 - L u) 2)
  where
    h : u ≤ 2 ^ 32
    h = omega arith

    j : ℕ
    j = 2 ^ 32 * t / u + 1

    go : Dec (32 * 2 ^ 20 - L u < 2) → 32 * 2 ^ 20 - L u ≤ 2 ^ 32 * t / u / 2832 + 3
    go (yes l) = omega arith
    go (no l) =
        let d = 32 * 2 ^ 20 - L u - 2 in
        let s : L u + (d + 2) ≡ 32 * 2 ^ 20 = omega (arith, log-le u p h) in
        let g : 2 ^ 32 * t ≤ j * u = omega (arith, lt-div-mul-add {a = 2 ^ 32 * t} p) in
        omega (arith, bound-above 32 (2 ^ 20) (2 ^ 24) 255 177 j t u (L u) d (lit< tt) (lit< tt) refl (lit≤ tt) e g s (omega (arith, (log-law u p h).1)))

-- a cost d, at least n, has at weight k a greater key than cost c at weight w: by the 4 the keys differ by 1 even at the greatest weight
pub key-less : (c w n d k : ℕ) → 0 < k → 0 < w → w ≤ 2 ^ 32 → n ≤ d → (c + 4) * k ≤ n * w → key c w < key d k
unfolding key
key-less c w n d k p q h l g =
    (le-div_iff_mul-le p).1
    (le_of_mul-le-mul_right {k = w}
    (omega (arith, mul-le-mul_left k (div-mul-le_self (c * 2 ^ 30) w), mul-le-mul_left k h, mul-le-mul_right w l, g))
    q)
