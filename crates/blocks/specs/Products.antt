-- The products in the blocks of a rule, and the sums of the blocks' widths, after its first k steps: how large they are in a map that
-- questions 5, 11 and 12 take. Assumes nothing.
use Rattle.std.proofs.Math.Path.{◌≡◌, refl}
use Rattle.std.proofs.Common.{sym, ap, ◌∙◌, drop_of_length-le, drop-cons}
use Rattle.std.specs.Prelude.{true, List, ◌∷◌, drop}
use Rattle.std.proofs.lemmas.Bool.{false≢true}
use Prim.Native.Nat.{ℕ, zero, suc, ◌+◌, ◌-◌, ◌*◌, ◌≤◌}
use native.Mathlib.Omega.{arith}
use Rattle.std.proofs.Math.Nat.{le-mul_of_pos_right}
use Rattle.std.proofs.Math.ListN.{length, get_or}
use borrow.Author.Tests.{leb-true}
use Rattle.definitions.specs.declared.Action.{Action}
use Rattle.definitions.specs.declared.Action.TheVariants.{Take, Select, Emit, Idle}
use Rattle.definitions.specs.declared.Standing.{Standing}
use Rattle.definitions.specs.declared.Standing.TheVariants.{Inside}
use Rattle.definitions.specs.Lists.{every, sum}
use Rattle.definitions.specs.Map.{Map, actions_of}
use Rattle.definitions.specs.Rule.{widths_from, widths, width_of}
use Rattle.definitions.specs.Load.{ranged, reaches, standing, is_outside, in_blocks, slim}
use Rattle.laws.specs.Lists.{every-head, every-tail}
use Rattle.laws.specs.Loadable.{slim-is}
use Rattle.blocks.specs.Actions.{action-ranged}
use Rattle.blocks.specs.Widths.{narrow}
use Rattle.laws.specs.Blocks.{InOrder, takes, selects, emits, length-actions, ends-outside, step-in-order}

-- the product in the block, p before it, after one action more
unfoldable pub product_after : ℕ → Action → ℕ
product_after p (Take b) = 1
product_after p (Select mode n t) = p * n
product_after p Emit = p
product_after p Idle = p

-- and what that action adds to the sum
unfoldable pub added_by : ℕ → Action → ℕ
added_by p (Take b) = 0
added_by p (Select mode n t) = 0
added_by p Emit = p
added_by p Idle = 0

-- the product in the block after the first k actions
unfoldable pub product_to : List Action → ℕ → ℕ
product_to xs zero = 1
product_to xs (suc k) = product_after (product_to xs k) (get_or xs k Idle)

-- the sum of the widths of the blocks that these emit
unfoldable pub emitted_to : List Action → ℕ → ℕ
emitted_to xs zero = 0
emitted_to xs (suc k) = emitted_to xs k + added_by (product_to xs k) (get_or xs k Idle)

-- ---- the widths behind the first k actions

sum-after : (p : ℕ) (a : Action) (xs : List Action) → sum (widths_from p (a ∷ xs)) ≡ added_by p a + sum (widths_from (product_after p a) xs)
unfolding widths_from sum added_by product_after
sum-after p (Take b) xs = omega arith
sum-after p (Select mode n t) xs = omega arith
sum-after p Emit xs = refl
sum-after p Idle xs = omega arith

every-after : (p : ℕ) (a : Action) (xs : List Action) → every narrow (widths_from p (a ∷ xs)) ≡ true → every narrow (widths_from (product_after p a) xs) ≡ true
unfolding widths_from product_after
every-after p (Take b) xs e = e
every-after p (Select mode n t) xs e = e
every-after p Emit xs e = every-tail narrow p (widths_from p xs) e
every-after p Idle xs e = e

module _ (xs : List Action) where
  -- what is emitted and what is still to come are the whole
  pub sum_to : (k : ℕ) → k ≤ length xs → emitted_to xs k + sum (widths_from (product_to xs k) (drop k xs)) ≡ sum (widths_from 1 xs)
  unfolding product_to emitted_to
  sum_to zero h = omega arith
  sum_to (suc k) h =
      let a = get_or xs k Idle in
      let e = rw (drop-cons xs k Idle (omega arith)) at (sum_to k (omega arith)) in
      omega (arith, e, sum-after (product_to xs k) a (drop (suc k) xs))

  every-to : (k : ℕ) → k ≤ length xs → every narrow (widths_from 1 xs) ≡ true → every narrow (widths_from (product_to xs k) (drop k xs)) ≡ true
  unfolding product_to
  every-to zero h e = e
  every-to (suc k) h e =
      every-after (product_to xs k) (get_or xs k Idle) (drop (suc k) xs) (rw (drop-cons xs k Idle (omega arith)) at (every-to k (omega arith) e))

-- ---- blocks

-- what is emitted so far is at most W
pub emitted-most : (m : Map) (k : ℕ) → k ≤ length (actions_of m) → emitted_to (actions_of m) k ≤ width_of m
unfolding width_of widths
emitted-most m k h = omega (arith, sum_to (actions_of m) k h)

-- and at the end is W
pub emitted-all : (m : Map) → emitted_to (actions_of m) (length (actions_of m)) ≡ width_of m
unfolding width_of widths widths_from sum
emitted-all m =
    let xs = actions_of m in
    omega (arith, rw (drop_of_length-le xs {i = length xs} (omega arith)) at (sum_to xs (length xs) (omega arith)))

module _ (m : Map) (r : ranged m ≡ true) (b : in_blocks m ≡ true) (s : slim m ≡ true) where
  -- the product after the first k steps is at most 16, and with what they emit at most W
  abbrev Small : ℕ → Type 0
  Small k = (product_to (actions_of m) k ≤ 16) × (emitted_to (actions_of m) k + product_to (actions_of m) k ≤ width_of m)

  -- inside a block, n steps before the end: an emit is to come, whose width is at least the product so far, since each count is 1 at least
  inside-from : (n k u : ℕ) → n + k ≡ length (actions_of m) → standing m k ≡ Inside u → Small k
  unfolding is_outside product_to emitted_to product_after added_by widths widths_from
  inside-from zero k u h e =
      let z : length (actions_of m) ≡ k = omega arith in
      absurd (false≢true (sym (ap is_outside (ap (standing m) z ∙ e)) ∙ ends-outside m b))
  inside-from (suc n) k u h e = go (step-in-order m b k (omega arith)) refl e refl (λ t. inside-from n (suc k) t (omega arith))
    where
      go : {st st' : Standing} {a : Action} → InOrder m st a st' → get_or (actions_of m) k Idle ≡ a → st ≡ Inside u → standing m (suc k) ≡ st'
          → ((t : ℕ) → standing m (suc k) ≡ Inside t → Small (suc k)) → Small k
      go takes q f o rest = absurd (let z : ◌≡◌ {A = ℕ} 0 1 = cc in omega arith)
      go (selects {n = c} {t} {mode} l) q f o rest =
          let g = rw q at (rest (reaches mode t) o) in
          let w = action-ranged m k _ r (omega (arith, length-actions m)) (sym q) in
          let d : product_to (actions_of m) k ≤ product_to (actions_of m) k * c = le-mul_of_pos_right (product_to (actions_of m) k) w.0 in
          (omega (arith, g.0), omega (arith, g.1))
      go emits q f o rest = (
        leb-true _ 16 (every-head narrow _ _ (rw (drop-cons (actions_of m) k Idle (omega arith), q) at (every-to (actions_of m) k (omega arith) (slim-is m s).blocks))),
        rw q at (emitted-most m (suc k) (omega arith)),
      )

  inside-small : (k u : ℕ) → k ≤ length (actions_of m) → standing m k ≡ Inside u → Small k
  inside-small k u h e = inside-from (length (actions_of m) - k) k u (omega arith) e

  -- the product so far is at most 16
  pub product_small : (k : ℕ) → k ≤ length (actions_of m) → product_to (actions_of m) k ≤ 16
  unfolding product_to product_after
  product_small zero h = omega arith
  product_small (suc k) h = go (step-in-order m b k h) refl refl (product_small k (omega arith))
    where
      go : {st st' : Standing} {a : Action} → InOrder m st a st' → get_or (actions_of m) k Idle ≡ a → standing m (suc k) ≡ st'
          → product_to (actions_of m) k ≤ 16 → product_after (product_to (actions_of m) k) a ≤ 16
      go takes q o l = omega arith
      go (selects {t} {mode} g) q o l = rw q at (inside-small (suc k) (reaches mode t) h o).0
      go emits q o l = l

  -- and inside a block, with what is emitted, at most 32
  pub sum-small : (k u : ℕ) → k ≤ length (actions_of m) → standing m k ≡ Inside u → emitted_to (actions_of m) k + product_to (actions_of m) k ≤ 32
  sum-small k u h e = omega (arith, (inside-small k u h e).1, (slim-is m s).width)
