-- Cells of a list written one after another, and what stands in those written so far. Assumes nothing.
use Rattle.std.specs.Prelude.{◌≡◌, refl, List, ℕ, ◌+◌, ◌-◌, ◌<◌, ◌≤◌, length, get_or, take, drop, set}
use Rattle.std.proofs.Common.{sym, ◌∙◌, subst, add-one, arith, length-set, length-drop, get_or-set_same, get_or-set_other, get_or-append-add, length-take-le, get_or-take}
use Rattle.std.proofs.Math.Decide.{dec_lt}
use borrow.Rule.Slice.PartMut.{mid_of, put_mid, same_len_mid}
use Rattle.std.proofs.Math.ListN.{get_or-append}
use Rattle.laws.specs.Draw.{one_more}

-- of k cells the first n hold f's values
pub record Filled (f : ℕ → ℕ) (k n : ℕ) (l : List ℕ) : Type 0 where
  pub long : length l ≡ k
  pub at : (j : ℕ) → j < n → get_or l j 0 ≡ f j

-- none does
pub filled_none : (f : ℕ → ℕ) (k : ℕ) (l : List ℕ) → length l ≡ k → Filled f k 0 l
filled_none f k l e = record { long = e; at = λ j h. absurd (omega arith) }

-- one cell more
pub filled_more : (f : ℕ → ℕ) (k n v : ℕ) (l : List ℕ) → n < k → Filled f k n l → v ≡ f n → Filled f k (n + 1) (set l n v)
filled_more f k n v l h p e = record {
  long = length-set l n v ∙ p.long;
  at = rw (add-one n) (one_more (λ (j : ℕ). get_or (set l n v) j 0 ≡ f j) n
      (λ j i. get_or-set_other l n j v 0 (omega arith) ∙ p.at j i) (get_or-set_same l n v 0 (omega (arith, p.long)) ∙ e));
}

-- of eight cells the first n of either half
pub record Halves (f : ℕ → ℕ) (n : ℕ) (l : List ℕ) : Type 0 where
  pub low : Filled f 8 n l
  pub high : (j : ℕ) → j < n → get_or l (j + 4) 0 ≡ f (j + 4)

pub halves-none : (f : ℕ → ℕ) (l : List ℕ) → length l ≡ 8 → Halves f 0 l
halves-none f l e = record { low = filled_none f 8 l e; high = λ j h. absurd (omega arith) }

-- a cell more in each
pub halves-more : (f : ℕ → ℕ) (n v w : ℕ) (l : List ℕ) → n < 4 → Halves f n l → v ≡ f n → w ≡ f (n + 4) → Halves f (n + 1) (set (set l n v) (n + 4) w)
halves-more f n v w l h p d e =
    let one = filled_more f 8 n v l (omega arith) p.low d in record {
      low = record {
        long = length-set (set l n v) (n + 4) w ∙ one.long;
        at = λ j i. get_or-set_other (set l n v) (n + 4) j w 0 (omega arith) ∙ one.at j i;
      };
      high = rw (add-one n) (one_more (λ (j : ℕ). get_or (set (set l n v) (n + 4) w) (j + 4) 0 ≡ f (j + 4)) n
          (λ j i. get_or-set_other (set l n v) (n + 4) (j + 4) w 0 (omega arith) ∙ get_or-set_other l n (j + 4) v 0 (omega arith) ∙ p.high j i)
          (get_or-set_same (set l n v) (n + 4) w 0 (omega (arith, one.long)) ∙ e));
    }

-- both halves are all eight
pub halves-all : (f : ℕ → ℕ) (l : List ℕ) → Halves f 4 l → Filled f 8 8 l
halves-all f l p = record { long = p.low.long; at = λ j h. go j h (dec_lt j 4) }
  where
    go : (j : ℕ) → j < 8 → Dec (j < 4) → get_or l j 0 ≡ f j
    go j h (yes i) = p.low.at j i
    go j h (no i) = let e : (j - 4) + 4 ≡ j = omega arith in subst (λ (k : ℕ). get_or l k 0 ≡ f k) e (p.high (j - 4) (omega arith))

-- the cells of a part more, from cell a on
pub part_filled : (f g : ℕ → ℕ) (k a n s : ℕ) (l part : List ℕ) → a + n ≤ k → s ≡ n → Filled f k a l → Filled g n n part → ((j : ℕ) → j < n → g j ≡ f (a + j))
    → Filled f k (a + n) (put_mid a s l part)
part_filled f g k a n s l part h z p q e =
    record { long = same_len_mid a s l part (q.long ∙ sym middle) ∙ p.long; at = λ j i. go j i (dec_lt j a) }
  where
    middle : length (mid_of a s l) ≡ n
    middle = length-take-le s (drop a l) (omega (arith, length-drop a l, p.long)) ∙ z

    front : length (take a l) ≡ a
    front = length-take-le a l (omega (arith, p.long))

    go : (j : ℕ) → j < a + n → Dec (j < a) → get_or (put_mid a s l part) j 0 ≡ f j
    go j i (yes m) = get_or-append (take a l) _ 0 j (omega (arith, front)) ∙ get_or-take a l j 0 m ∙ p.at j m
    go j i (no m) =
        let d : length (take a l) + (j - a) ≡ j = omega (arith, front) in
        let y : a + (j - a) ≡ j = omega arith in
        subst (λ (o : ℕ). get_or (put_mid a s l part) o 0 ≡ f j) d
        (get_or-append-add (take a l) _ (j - a) 0
        ∙ get_or-append part _ 0 (j - a) (omega (arith, q.long))
        ∙ q.at (j - a) (omega arith)
        ∙ e (j - a) (omega arith)
        ∙ subst (λ (o : ℕ). f (a + (j - a)) ≡ f o) y refl)
