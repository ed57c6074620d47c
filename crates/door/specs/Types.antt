-- The types of buckets, read from the table of levels. Assumes nothing.
use Rattle.std.specs.Prelude.{◌≡◌, refl, Bool, true, false, cond, List, ℕ, zero, suc, ◌+◌, ◌-◌, ◌<◌, ◌≤◌, eqb, length, get_or, set, replicate}
use Rattle.std.proofs.Common.{sym, ap, ◌∙◌, inr, ⊎_elim, arith, eq-or-lt_of_le, add-one, length-set, get_or-set_same, get_or-set_other, le-leb}
use Rattle.definitions.specs.declared.Bucket.{Bucket}
use Rattle.definitions.specs.Lists.{some_of}
use Rattle.definitions.specs.Map.{Map, bucket_item, bucket_number}
use Rattle.definitions.specs.View.{bucket_type, type_by, type_of}
use Rattle.definitions.specs.Load.{has_bucket, has_item}
use Rattle.laws.specs.Counting.{lookup-none}
use Rattle.members.specs.Levels.{level_of, looked_up, Levels}

-- the types of the buckets below k: a level less 1, which is 0 where the level is 0
unfoldable pub types_to : List ℕ → ℕ → List ℕ
types_to table zero = replicate 256 0
types_to table (suc k) = set (types_to table k) k (looked_up table (bucket_item k) - 1)

pub types-length : (table : List ℕ) (k : ℕ) → length (types_to table k) ≡ 256
unfolding types_to
types-length table zero = refl
types-length table (suc k) = length-set (types_to table k) k _ ∙ types-length table k

types-at : (table : List ℕ) (k b : ℕ) → k ≤ 256 → b < k → get_or (types_to table k) b 0 ≡ looked_up table (bucket_item b) - 1
unfolding types_to
types-at table zero b h l = absurd (omega arith)
types-at table (suc k) b h l =
    ⊎_elim
    (λ (e : b ≡ k). rw e (get_or-set_same (types_to table k) k _ 0 (omega (arith, types-length table k))))
    (λ (g : b < k). get_or-set_other (types_to table k) k b _ 0 (λ e. omega (arith, e)) ∙ types-at table k b (omega arith) g) (eq-or-lt_of_le (omega arith))

-- a level less 1 is the bucket's type
level-type : (m : Map) (b : ℕ) → level_of m (bucket_item b) - 1 ≡ bucket_type m b
unfolding level_of has_item type_of type_by has_bucket bucket_type
level-type m b =
    let z : bucket_number (bucket_item b) ≡ b = omega arith in
    rw (le-leb 65536 (bucket_item b) (omega arith), z) (go (some_of (λ (k : Bucket). eqb k.number b) m.buckets) refl)
  where
    go : (p : Bool) → some_of (λ (k : Bucket). eqb k.number b) m.buckets ≡ p → cond p (bucket_type m b + 1) 0 - 1 ≡ bucket_type m b
    go true e = omega arith
    go false e = sym (lookup-none (λ (k : Bucket). k.number) (λ (k : Bucket). k.ty) b m.buckets e)

pub types_are : (m : Map) (table : List ℕ) → Levels m table → (b : ℕ) → b < 256 → get_or (types_to table 256) b 0 ≡ bucket_type m b
types_are m table L b h =
    types-at table 256 b (omega arith) h
    ∙ ap (λ (n : ℕ). n - 1) (L.level (bucket_item b) (inr (omega arith, omega arith))) ∙ level-type m b

-- one bucket more, whose level is 0 or above it
pub types_more : (table : List ℕ) (k v : ℕ) → v ≡ looked_up table (bucket_item k) → set (types_to table k) k (v - 1) ≡ types_to table (k + 1)
unfolding types_to
types_more table k v e = rw (add-one k, e)
