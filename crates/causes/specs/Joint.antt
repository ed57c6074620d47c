-- Two runs made at once, as long as their walks are one. Assumes nothing.
use Rattle.definitions.specs.declared.Parting.{Parting}
use Rattle.std.specs.Prelude.{◌≡◌, List, Result, Ok, Err, IfOk}
use Rattle.std.proofs.Math.Path.{refl, ap}
use Prim.Native.Nat.{ℕ, zero, suc, ◌+◌, ◌≤◌}
use native.Mathlib.Omega.{arith}
use Rattle.definitions.specs.declared.Action.{Action}
use Rattle.definitions.specs.declared.Action.TheVariants.{Take, Select, Emit, Idle}
use Rattle.definitions.specs.declared.Mode.{Mode}
use Rattle.definitions.specs.declared.State.{State}
use Rattle.definitions.specs.declared.Turn.{Turn}
use Rattle.definitions.specs.declared.Turn.TheVariants.{Fill, Fail}
use Rattle.definitions.specs.declared.Ranked.{Ranked}
use Rattle.definitions.specs.Map.{bucket_number}
use Rattle.definitions.specs.View.{View}
use Rattle.definitions.specs.Walk.{hole, Trial, RankEvents, rank_start, rank_end, onward, after_turn, on_turn, turn_of, rank_from, rank_by, test_of, rank_of}
use Rattle.laws.specs.Fuel.{turn-fails}
use Rattle.laws.specs.Tries.{rank-inner}
use Rattle.walk.specs.declared.Wanted.{Wanted}
use Rattle.placement.specs.declared.progress.Progress.{Progress}
use Rattle.placement.specs.Bare.{unranked, ranked_under, bare_act}
use Rattle.placement.specs.Chosen.{UnderBounds, hole-ranked, hole-bounds, bucket-ranked, bucket-tries}
use Rattle.placement.specs.Progress.{Acted}
use Rattle.lockstep.specs.Rounds.{rank-failures}
use Rattle.causes.specs.Ends.{RankEnds}

-- k is what rank r makes under entry a in both runs
abbrev pub Under : View → View → ℕ → Wanted → ℕ → ℕ → List ℕ → ℕ → Ranked → Type 0
Under v w x s a r held f k =
    (k ≡ ranked_under v x s.mode s.n s.t a r held f) × (k ≡ ranked_under w x s.mode s.n s.t a r held f) × UnderBounds f k

-- ---- the counts of a rank

module _ (v : View) (x : ℕ) (mode : Mode) (n t : ℕ) (test : ℕ → ℕ → Trial) (start r : ℕ) where
  from-f : (k : ℕ) (s : State) → (rank_from v x mode n t test start r k s).ranked.f ≤ s.f + k
  unfolding rank_from rank_end on_turn after_turn onward
  from-f zero s = omega arith
  from-f (suc k) s = go (turn_of v x mode n t test start r s).turn refl (from-f k)
    where
      after : State → RankEvents
      after = rank_from v x mode n t test start r k

      go : (u : Turn) → (turn_of v x mode n t test start r s).turn ≡ u → ((z : State) → (after z).ranked.f ≤ z.f + k)
          → (after_turn after s (turn_of v x mode n t test start r s).events u).ranked.f ≤ s.f + suc k
      go (Fill i j o) e rest = omega arith
      go (Fail z) e rest = omega (arith, rest z, (turn-fails v x mode n t test start r s z e).1)

module _ (v : View) (x : ℕ) (mode : Mode) (n t : ℕ) (held : List ℕ) (b r f : ℕ) where
  rank-f : (rank_of v x mode n t held b r f).ranked.f ≤ f + 50
  unfolding rank_of rank_by rank_start
  rank-f = from-f v x mode n t (test_of mode v x n held) b r 50 (rank_start b f)

-- ---- a rank of both

module _ (v w : View) (x : ℕ) (s : Wanted) (a r : ℕ) (held : List ℕ) (f : ℕ) where
  pub shares-hole : a ≡ hole → Under v w x s a r held f (unranked f)
  shares-hole e = (hole-ranked v x s.mode s.n s.t a r held f e, hole-ranked w x s.mode s.n s.t a r held f e, hole-bounds f)

  -- from the two ranks at the bucket of the entry
  pub shares-rank : (b : ℕ) (c : Result Ranked Parting) → (a ≡ hole → ⊥) → b ≡ bucket_number a
      → RankEnds c (rank_of v x s.mode s.n s.t held b r f) (rank_of w x s.mode s.n s.t held b r f) → IfOk c (Under v w x s a r held f)
  shares-rank b (Err p) h e q = tt
  shares-rank b (Ok k) h e (i, j) = (
    bucket-ranked v x s.mode s.n s.t a r held f b k e i h,
    bucket-ranked w x s.mode s.n s.t a r held f b k e j h,
    (
      omega (arith, ap (λ (u : Ranked). u.fr) i, rank-failures v x (record { wanted = s; start = b; r = r }) held f),
      omega (arith, ap (λ (u : Ranked). u.f) i, rank-f v x s.mode s.n s.t held b r f),
      omega (arith, ap (λ (u : Ranked). u.inner) i, rank-inner v x s.n held s.mode s.t b r f),
      bucket-tries v x s.mode s.n s.t a r held f b k e i,
    ),
  )

-- ---- a step of both

-- what is no select leads any run to the same
abbrev pub Steady : Action → Type 0
Steady (Take b) = Unit {0}
Steady (Select mode n t) = ⊥
Steady Emit = Unit {0}
Steady Idle = Unit {0}

pub steady : (v w : View) (x : ℕ) (p q : Progress) (a : Action) → Steady a → Acted v x p a q → Acted w x p a q
unfolding bare_act
steady v w x p q (Take b) s h = h
steady v w x p q (Select mode n t) s h = absurd s
steady v w x p q Emit s h = h
steady v w x p q Idle s h = h
