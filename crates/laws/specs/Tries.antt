-- Document 02, change 1: how many tries a rank makes. An inner walk makes at most 50 and a rank at most 2,550. Assumes nothing.
use Rattle.std.specs.Prelude.{◌≡◌, Bool, cond, List, ◌⊎◌, eqb, Option, None, Some}
use Rattle.std.proofs.Math.Path.{refl}
use Rattle.std.proofs.Math.Bool.{true, false}
use Rattle.std.proofs.Common.{inl, inr}
use Prim.Native.Nat.{ℕ, zero, suc, ◌+◌, ◌*◌, ◌<◌, ◌≤◌}
use native.Mathlib.Omega.{arith}
use Rattle.std.proofs.lemmas.Bool.{eqb-false}
use Rattle.definitions.specs.declared.Mode.{Mode}
use Rattle.definitions.specs.declared.Mode.TheVariants.{FirstN, Independent, Through}
use Rattle.definitions.specs.declared.Ranked.{Ranked}
use Rattle.definitions.specs.declared.State.{State}
use Rattle.definitions.specs.declared.Turn.{Turn}
use Rattle.definitions.specs.declared.Turn.TheVariants.{Fill, Fail}
use Rattle.definitions.specs.declared.Verdict.{Verdict}
use Rattle.definitions.specs.declared.Verdict.TheVariants.{Held, Rejected, Passed}
use Rattle.definitions.specs.declared.Event.{Event}
use Rattle.definitions.specs.Lists.{has}
use Rattle.definitions.specs.Map.{bucket_number}
use Rattle.definitions.specs.View.{View}
use Rattle.definitions.specs.Walk.{hole, Trial, plain, plain_test, RankEvents, try_number, descend, failed_to, rank_start, rank_end, on_verdict, on_tried, tested, untested, onward, after_turn, on_turn, on_type, on_landed, on_descent, turn_of, rank_from, rank_by, tries_in, inner_walk, found, sought, through_by, through_test, test_of, rank_of}
use Rattle.laws.specs.Fuel.{rank-ends}

-- what a turn from s adds to the tries made in inner walks is at most c
abbrev pub Adds : ℕ → State → Turn → Type 0
Adds c s (Fill i e k) = k ≤ c
Adds c s (Fail z) = z.inner ≤ s.inner + c

-- c is the most that one test adds
module _ (v : View) (x : ℕ) (mode : Mode) (n t : ℕ) (test : ℕ → ℕ → Trial) (start r c : ℕ) (short : (q i : ℕ) → (test q i).tried.inner ≤ c) where
  verdict-adds : (s : State) (b i e k : ℕ) (w : Verdict) → k ≤ c → Adds c s (on_verdict start s b i e k w)
  unfolding on_verdict failed_to
  verdict-adds s b i e k Held h = omega arith
  verdict-adds s b i e k Rejected h = omega arith
  verdict-adds s b i e k Passed h = h

  landed-adds : (s : State) (q b : ℕ) (es : List Event) (d : Option ℕ) → Adds c s (on_landed v x mode n t test start r s q b es d).turn
  unfolding on_landed on_type tested untested on_tried failed_to
  landed-adds s q b es None = omega arith
  landed-adds s q b es (Some i) = go (eqb (v.type i) t)
    where
      go : (u : Bool) → Adds c s (on_type v x mode n t test start r s q b es i u).turn
      go true = let w = (test q i).tried in verdict-adds s b i w.entry w.inner w.verdict (short q i)
      go false = omega arith

  pub turn-adds : (s : State) → Adds c s (turn_of v x mode n t test start r s).turn
  unfolding turn_of on_descent
  turn-adds s =
      let q = try_number mode n r s in
      let d = descend v x t q s.at in
      landed-adds s q d.landed.bucket d.events d.landed.drawn

  from-adds : (k : ℕ) (s : State) → (rank_from v x mode n t test start r k s).ranked.inner ≤ s.inner + k * c
  unfolding rank_from rank_end on_turn after_turn onward
  from-adds zero s = omega arith
  from-adds (suc k) s = go (turn_of v x mode n t test start r s).turn (turn-adds s) (from-adds k)
    where
      after : State → RankEvents
      after = rank_from v x mode n t test start r k

      go : (u : Turn) → Adds c s u → ((z : State) → (after z).ranked.inner ≤ z.inner + k * c)
          → (after_turn after s (turn_of v x mode n t test start r s).events u).ranked.inner ≤ s.inner + suc k * c
      go (Fill i e j) h rest = omega arith
      go (Fail z) h rest = omega (arith, rest z)

  -- the inner walks of a rank
  rank-adds : (f₀ : ℕ) → (rank_by v x mode n t test start r f₀).ranked.inner ≤ 50 * c
  unfolding rank_by rank_start
  rank-adds f₀ = omega (arith, from-adds 50 (rank_start start f₀))

  -- a rank that ends in a hole has failed 50 times, and any other fewer
  tries-most : (f₀ : ℕ) → tries_in (rank_by v x mode n t test start r f₀).ranked ≤ 50 + 50 * c
  unfolding rank_by rank_start tries_in
  tries-most f₀ = go (eqb (rank_by v x mode n t test start r f₀).ranked.entry hole) refl (rank-ends v x mode n t test start r 50 (rank_start start f₀))
    where
      k : Ranked
      k = (rank_from v x mode n t test start r 50 (rank_start start f₀)).ranked

      go : (u : Bool) → eqb k.entry hole ≡ u → (k.fr < 50) ⊎ ((k.entry ≡ hole) × (k.fr ≡ 50))
          → k.fr + cond u 0 1 + k.inner ≤ 50 + 50 * c
      go true e (inl h) = omega (arith, rank-adds f₀)
      go true e (inr h) = omega (arith, rank-adds f₀)
      go false e (inl h) = omega (arith, rank-adds f₀)
      go false e (inr h) = absurd (eqb-false k.entry hole e h.0)

module _ (v : View) (x n : ℕ) (held : List ℕ) where
  plain-short : (q i : ℕ) → (plain_test v x held q i).tried.inner ≤ 0
  unfolding plain_test plain
  plain-short q i = omega arith

  -- "it gives up after 50"
  pub inner-tries : (q i : ℕ) → tries_in (inner_walk v x n held q i).ranked ≤ 50
  unfolding inner_walk
  inner-tries q i = omega (arith, tries-most v x Independent n 0 (plain_test v x held) (bucket_number i) q 0 plain-short 0)

  -- a test makes at most 50 tries within
  pub test_short : (mode : Mode) (q i : ℕ) → (test_of mode v x n held q i).tried.inner ≤ 50
  unfolding test_of through_test through_by plain sought found
  test_short FirstN q i = omega (arith, plain-short q i)
  test_short Independent q i = omega (arith, plain-short q i)
  test_short Through q i = go (has i held)
    where
      go : (u : Bool) → (through_by v x n held q i u).tried.inner ≤ 50
      go true = omega arith
      go false = inner-tries q i

  -- a rank makes at most 2,500 of its tries in inner walks
  pub rank-inner : (mode : Mode) (t start r f₀ : ℕ) → (rank_of v x mode n t held start r f₀).ranked.inner ≤ 2500
  unfolding rank_of
  rank-inner mode t start r f₀ = omega (arith, rank-adds v x mode n t (test_of mode v x n held) start r 50 (test_short mode) f₀)

  -- and at most 2,550 in all
  pub rank-tries : (mode : Mode) (t start r f₀ : ℕ) → tries_in (rank_of v x mode n t held start r f₀).ranked ≤ 2550
  unfolding rank_of
  rank-tries mode t start r f₀ = omega (arith, tries-most v x mode n t (test_of mode v x n held) start r 50 (test_short mode) f₀)
