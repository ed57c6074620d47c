-- "The hash's constants and argument order are those of libcrush": its `crush_hash32_2`, `crush_hash32_3` and `crush_hash32_4`, type
-- `CRUSH_HASH_RJENKINS1`, as the Linux kernel 6.1.190 has them in `net/ceph/crush/hash.c`, compiled and called, gave these hashes.
use Rattle.std.specs.Prelude.{◌≡◌, refl, List, [], ◌∷◌, map, ℕ}
use Rattle.definitions.specs.Hash.{S, hash2, hash3, hash4}
use Rattle.definitions.specs.Open.{computing}

-- four numbers, and the hashes of the first two, of the first three and of all
pub record Hashed : Type 0 where
  pub p : ℕ
  pub q : ℕ
  pub s : ℕ
  pub z : ℕ
  pub two : ℕ
  pub three : ℕ
  pub four : ℕ

abbrev hashed : ℕ → ℕ → ℕ → ℕ → ℕ → ℕ → ℕ → Hashed
hashed p q s z two three four = record { p = p; q = q; s = s; z = z; two = two; three = three; four = four }

abbrev pub libcrush : List Hashed
libcrush =
    hashed 0 0 0 0 430787817 2050749362 1068478541
    ∷ hashed 1 2 3 4 3079532188 1935332395 1768759062
    ∷ hashed 0 1023 1 65536 30111600 1596922125 1526227975
    ∷ hashed 65535 65791 50 65791 3201633469 2968452764 2329483592
    ∷ hashed 4294967295 4294967295 4294967295 4294967295 2671514060 3112661447 2697901196
    ∷ hashed 1315423911 231232 1232 1315423911 2090921953 3213457204 1671902587
    ∷ hashed 2147483648 1 2147483647 2147483648 796675626 3949426441 4200045011
    ∷ hashed 20261115 65536 816 20261115 2426736377 3509003225 1315681321
    ∷ hashed 4096 65600 7 64 4251519879 2550914034 3746020512
    ∷ hashed 31 512 31 65599 2815523221 2244252102 4241387041
    ∷ []

pub libcrush-two : map (λ (h : Hashed). hash2 S h.p h.q) libcrush ≡ map (λ (h : Hashed). h.two) libcrush
unfolding computing
libcrush-two = refl

pub libcrush-three : map (λ (h : Hashed). hash3 S h.p h.q h.s) libcrush ≡ map (λ (h : Hashed). h.three) libcrush
unfolding computing
libcrush-three = refl

pub libcrush-four : map (λ (h : Hashed). hash4 S h.p h.q h.s h.z) libcrush ≡ map (λ (h : Hashed). h.four) libcrush
unfolding computing
libcrush-four = refl
