-- The width W as code counts it: a product above 16 stands still, and a block that is too wide counts 33. Assumes nothing.
use Rattle.std.specs.Prelude.{◌≡◌, refl, Bool, true, false, cond, ◌&&◌, ◌⊎◌, ℕ, ◌+◌, ◌*◌, ◌<◌, ◌≤◌, List, [], ◌∷◌, leb, ltb, length, get_or, drop}
use Rattle.std.proofs.Common.{subst, inl, inr, arith, mul-le-mul, add-one, drop_of_length-le, lt-ltb, leb-true, ltb-true}
use Rattle.std.proofs.lemmas.Bool.{false≢true, lt-leb}
use Rattle.std.proofs.Math.Seq.{drop-cons}
use Rattle.definitions.specs.declared.Action.{Action}
use Rattle.definitions.specs.declared.Action.TheVariants.{Take, Select, Emit, Idle}
use Rattle.definitions.specs.Lists.{every, sum}
use Rattle.definitions.specs.Map.{Map, actions_of}
use Rattle.definitions.specs.Rule.{widths_from, widths, width_of}
use Rattle.definitions.specs.Load.{ranged, slim}
use Rattle.blocks.specs.declared.widths.Tally.{Tally}
use Rattle.blocks.specs.Actions.{AllRanged, actions-ranged}

-- the product after a select of n
unfoldable pub grown : ℕ → ℕ → ℕ
grown p n = cond (ltb 16 p) p (p * n)

-- what an emit adds to the sum
unfoldable pub emitted : ℕ → ℕ
emitted p = cond (leb p 16) p 33

-- one action more
unfoldable pub widened : Tally → Action → Tally
widened w (Take b) = record { block = 1; whole = w.whole }
widened w (Select mode n t) = record { block = grown w.block n; whole = w.whole }
widened w Emit = record { block = w.block; whole = w.whole + emitted w.block }
widened w Idle = w

-- and all of a list
unfoldable pub widened_by : Tally → List Action → Tally
widened_by w [] = w
widened_by w (a ∷ rest) = widened_by (widened w a) rest

abbrev pub start : Tally
start = record { block = 1; whole = 0 }

-- W, or more than 32 where the map is not slim
pub record Whole (m : Map) (r : ℕ) : Type 0 where
  pub told : leb r 32 ≡ slim m
  pub width : slim m ≡ true → r ≡ width_of m

-- ---- the loop over the actions

module _ (w : Tally) (xs : List Action) (k : ℕ) where
  pub widened-next : k < length xs → widened_by (widened w (get_or xs k Idle)) (drop (k + 1) xs) ≡ widened_by w (drop k xs)
  unfolding widened_by
  widened-next h = rw (add-one k, drop-cons xs k Idle h)

  pub widened-end : length xs ≤ k → widened_by w (drop k xs) ≡ w
  unfolding widened_by
  widened-end h = rw (drop_of_length-le xs {i = k} h)

pub emitted-small : (p : ℕ) → emitted p ≤ 33
unfolding emitted
emitted-small p = go (leb p 16) refl
  where
    go : (b : Bool) → leb p 16 ≡ b → cond b p 33 ≤ 33
    go true e = omega (arith, leb-true p 16 e)
    go false e = omega arith

-- the sum rises by 33 at most
pub widened_small : (w : Tally) (a : Action) → (widened w a).whole ≤ w.whole + 33
unfolding widened
widened_small w (Take b) = omega arith
widened_small w (Select mode n t) = omega arith
widened_small w Emit = omega (arith, emitted-small w.block)
widened_small w Idle = omega arith

-- ---- that this is W

-- the sum does not fall
widened-rises : (w : Tally) (xs : List Action) → w.whole ≤ (widened_by w xs).whole
unfolding widened_by widened
widened-rises w [] = omega arith
widened-rises w (Take b ∷ xs) = widened-rises (widened w (Take b)) xs
widened-rises w (Select mode n t ∷ xs) = widened-rises (widened w (Select mode n t)) xs
widened-rises w (Emit ∷ xs) = omega (arith, widened-rises (widened w Emit) xs)
widened-rises w (Idle ∷ xs) = widened-rises w xs

-- two products that are as good as the same: from above 16 on nothing depends on them
abbrev Alike : ℕ → ℕ → Type 0
Alike p q = (p ≡ q) ⊎ ((16 < p) × (16 < q))

-- a product stays above 16, since each count is 1 at least
stays : (p n : ℕ) → 16 < p → 1 ≤ n → 16 < p * n
stays p n h l = omega (arith, mul-le-mul h l)

alike-grown : (p q n : ℕ) → 1 ≤ n → Alike p q → Alike (p * n) (grown q n)
unfolding grown
alike-grown p q n l (inl e) = go (ltb 16 q) refl
  where
    go : (b : Bool) → ltb 16 q ≡ b → Alike (p * n) (cond b q (q * n))
    go true h = inr (stays p n (omega (arith, ltb-true 16 q h)) l, ltb-true 16 q h)
    go false h = inl (rw e)
alike-grown p q n l (inr h) = inr (stays p n h.0 l, rw (lt-ltb 16 q h.1) h.1)

-- what question 12 asks of a block's width
abbrev pub narrow : ℕ → Bool
narrow w = leb w 16

-- the sum of widths, where no block is too wide, and else more than 32
abbrev Counts : Bool → ℕ → ℕ → Type 0
Counts true v r = r ≡ v
Counts false v r = 32 < r

-- a block adds its width, or 33 where it is too wide
adds : (p q : ℕ) → Alike p q → (b : Bool) → narrow p ≡ b → emitted q ≡ cond b p 33
unfolding emitted
adds p q (inl e) b h = rw (← e, h)
adds p q (inr l) true h = absurd (omega (arith, leb-true p 16 h))
adds p q (inr l) false h = rw (lt-leb q 16 l.1)

counts : (xs : List Action) (p q s : ℕ) → AllRanged xs → Alike p q
    → Counts (every narrow (widths_from p xs)) (s + sum (widths_from p xs)) (widened_by (record { block = q; whole = s }) xs).whole
unfolding every widths_from sum widened_by widened AllRanged
counts [] p q s r a = omega arith
counts (Take b ∷ xs) p q s r a = counts xs 1 1 s r.1 (inl refl)
counts (Select mode n t ∷ xs) p q s r a = counts xs (p * n) (grown q n) s r.1 (alike-grown p q n r.0.0 a)
counts (Emit ∷ xs) p q s r a =
    go (narrow p) (every narrow (widths_from p xs)) (sum (widths_from p xs)) _ (adds p q a (narrow p) refl) (counts xs p q (s + emitted q) r.1 a)
    (widened-rises (record { block = q; whole = s + emitted q }) xs)
  where
    go : (b n : Bool) (v w : ℕ) → emitted q ≡ cond b p 33 → Counts n (s + emitted q + v) w → s + emitted q ≤ w → Counts (b && n) (s + (p + v)) w
    go true n v w e c l = let k : s + emitted q + v ≡ s + (p + v) = omega arith in subst (λ (u : ℕ). Counts n u w) k c
    go false n v w e c l = omega arith
counts (Idle ∷ xs) p q s r a = absurd r.0

-- what the sum tells of a map
pub whole_is : (m : Map) (r : ℕ) → ranged m ≡ true → (widened_by start (actions_of m)).whole ≡ r → Whole m r
unfolding slim width_of widths
whole_is m r g e =
    let c = rw e at (counts (actions_of m) 1 1 0 (actions-ranged m g) (inl refl)) in
    let b = every narrow (widths m) in
    record { told = tells b (width_of m) c; width = gives b (width_of m) c }
  where
    tells : (b : Bool) (v : ℕ) → Counts b (0 + v) r → leb r 32 ≡ b && leb v 32
    tells true v c = let k : r ≡ v = omega arith in rw k
    tells false v c = lt-leb r 32 c

    gives : (b : Bool) (v : ℕ) → Counts b (0 + v) r → b && leb v 32 ≡ true → r ≡ v
    gives true v c h = omega arith
    gives false v c h = absurd (false≢true h)
