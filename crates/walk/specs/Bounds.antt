-- The bounds of what a test, a turn and a rank come to, for those who call them.
use Rattle.std.proofs.Math.Path.{◌≡◌, refl, subst}
use Rattle.std.proofs.Common.{sym, ◌∙◌, inl, inr, arith, mul-le-mul, eq-eqb}
use Rattle.std.specs.Prelude.{List, Bool, true, false, ltb, eqb, ◌⊎◌, ℕ, ◌+◌, ◌*◌, ◌<◌, ◌≤◌}
use Rattle.std.proofs.Math.Bool.{cond}
use Rattle.definitions.specs.declared.Mode.TheVariants.{Through}
use Rattle.definitions.specs.declared.State.{State}
use Rattle.definitions.specs.declared.Tried.{Tried}
use Rattle.definitions.specs.declared.Turn.{Turn}
use Rattle.definitions.specs.declared.Turn.TheVariants.{Fill, Fail}
use Rattle.definitions.specs.declared.Ranked.{Ranked}
use Rattle.definitions.specs.declared.Verdict.{Verdict}
use Rattle.definitions.specs.declared.Verdict.TheVariants.{Held, Rejected, Passed}
use Rattle.definitions.specs.Walk.{hole, plain, try_number, failed_to, retry_at, rank_end, on_verdict, on_tried, found}
use Rattle.definitions.specs.View.{View}
use Rattle.laws.specs.Tries.{Adds, turn-adds, test_short}
use Rattle.hierarchy.specs.Arrays.{type_in, ItemRange}
use Rattle.walk.specs.declared.Search.{Search}
use Rattle.walk.specs.Searches.{Inward, SearchBounds, try_at, test_at, turn_at}

-- the counts of a rank that is not at its end: f_r below 50, f at most 1,000 more, and at most 50 tries within each test so far
-- A clause, since `State` is the definitions' own type, which holds any counts.
abbrev pub Going : State → Type 0
Going s = (s.fr < 50) × (s.f ≤ 1000 + s.fr) × (s.inner ≤ 50 * s.fr)

-- an item in range, of type t
abbrev pub Typed : List ℕ → ℕ → ℕ → Type 0
Typed plan t i = ItemRange i × (type_in plan i ≡ t)

-- item i, drawn with r' = q, can be tested: in a select through an inner walk can begin at it with that r'
abbrev pub Testable : List ℕ → Search → ℕ → ℕ → Type 0
Testable plan k q i =
    (k.wanted.n ≤ 16) × Inward k.wanted.mode k.wanted.t × (k.wanted.mode ≡ Through → q ≤ 1000) × Typed plan k.wanted.t i

-- what a pass puts out has type u
abbrev pub TriedBounds : List ℕ → ℕ → Tried → Type 0
TriedBounds plan u w = w.verdict ≡ Passed → Typed plan u w.entry

-- a filled place puts out an item of type u, and a failure leads to a bucket below 256
abbrev pub TurnBounds : List ℕ → ℕ → Turn → Type 0
TurnBounds plan u k = ((i e j : ℕ) → k ≡ Fill i e j → Typed plan u e) × ((s : State) → k ≡ Fail s → s.at < 256)

-- at most 50 failures, and 50 within each test; and a hole or an item of type u
abbrev pub RankBounds : List ℕ → ℕ → ℕ → Ranked → Type 0
RankBounds plan u f₀ k = (k.fr ≤ 50) × (k.f ≤ f₀ + 50) × (k.inner ≤ 2500) × ((k.entry ≡ hole) ⊎ Typed plan u k.entry)

-- an item in range that is no bucket's is a device below 1,024
pub device-below : (i : ℕ) → ItemRange i → i < 65536 → i < 1024
device-below i (inl h) l = h
device-below i (inr h) l = absurd (omega (arith, h.0))

-- f_r × n is small
pub few : (k : Search) (s : State) → SearchBounds k → Going s → s.fr * k.wanted.n ≤ 784
few k s h g = let l : s.fr ≤ 49 = omega (arith, g.0) in omega (arith, mul-le-mul l h.1)

-- so an inner walk begins with an r of at most 1,000
pub try-most : (k : Search) (s : State) → SearchBounds k → Going s → k.wanted.mode ≡ Through → try_at k s ≤ 1000
unfolding try_number
try-most k s h g e = rw e (omega (arith, few k s h g, h.3 e))

-- what a turn adds to the tries made in inner walks
module _ (v : View) (x : ℕ) (k : Search) (held : List ℕ) (s : State) where
  adds : Adds 50 s (turn_at v x k held s).turn
  adds = turn-adds v x k.wanted.mode k.wanted.n k.wanted.t (test_at v x k held) k.start k.r 50 (test_short v x k.wanted.n held k.wanted.mode) s

  pub fill-adds : (i e j : ℕ) → (turn_at v x k held s).turn ≡ Fill i e j → j ≤ 50
  fill-adds i e j q = subst (Adds 50 s) q adds

  pub fail-adds : (z : State) → (turn_at v x k held s).turn ≡ Fail z → z.inner ≤ s.inner + 50
  fail-adds z q = subst (Adds 50 s) q adds

-- where a retry begins is a bucket of the map
pub retry-below : (start b : ℕ) (s : State) → start < 256 → b < 256 → retry_at start b s < 256
unfolding retry_at
retry-below start b s h g = go (ltb (s.fr + 1) 3)
  where
    go : (o : Bool) → cond o b start < 256
    go true = g
    go false = h

module _ (plan : List ℕ) (u : ℕ) where
  -- an item of type u whose test ends in w
  pub plain-bounds : (i : ℕ) (w : Verdict) → Typed plan u i → TriedBounds plan u (plain i w).tried
  unfolding plain
  plain-bounds i w h e = h

  -- an item that is held
  pub held-bounds : (i : ℕ) → TriedBounds plan u (plain i Held).tried
  unfolding plain
  held-bounds i e = absurd (let z : ◌≡◌ {A = ℕ} 0 1 = cc in omega arith)

  -- an inner walk that ended in k
  pub found-bounds : (k : Ranked) → (k.entry ≡ hole) ⊎ Typed plan u k.entry → TriedBounds plan u (found k)
  unfolding found
  found-bounds k (inl h) e = absurd (let q : cond (eqb k.entry hole) Rejected Passed ≡ Rejected = rw (eq-eqb _ _ h) in let z : ◌≡◌ {A = ℕ} 0 1 = cc in omega arith)
  found-bounds k (inr h) e = h

  -- a failure, of which the next draw is at bucket b
  pub failed-bounds : (b j : ℕ) (s s' : State) → b < 256 → s' ≡ failed_to b j s → TurnBounds plan u (Fail s')
  unfolding failed_to
  failed-bounds b j s s' h e = (
    λ i d k q. absurd (let z : ◌≡◌ {A = ℕ} 0 1 = cc in omega arith),
    λ o q. let z : s' ≡ o = cc in subst (λ (k : State). k.at < 256) (sym e ∙ z) h,
  )

  -- what the test of an item leads to
  pub tried-bounds : (start : ℕ) (s : State) (b i : ℕ) (w : Tried) → start < 256 → b < 256 → TriedBounds plan u w
      → (k : Turn) → k ≡ on_tried start s b i w → TurnBounds plan u k
  unfolding on_tried on_verdict
  tried-bounds start s b i w h g p k e = subst (TurnBounds plan u) (sym e) (go w.verdict p)
    where
      go : (o : Verdict) → (o ≡ Passed → Typed plan u w.entry) → TurnBounds plan u (on_verdict start s b i w.entry w.inner o)
      go Held f = failed-bounds (retry_at start b s) w.inner s (failed_to (retry_at start b s) w.inner s) (retry-below start b s h g) refl
      go Rejected f = failed-bounds start w.inner s (failed_to start w.inner s) h refl
      go Passed f = (λ j d l q. let z : w.entry ≡ d = cc in subst (Typed plan u) z (f refl), λ o q. absurd (let z : ◌≡◌ {A = ℕ} 0 1 = cc in omega arith))

  -- the end of a rank that started with f₀
  pub end-bounds : (f₀ i d j : ℕ) (s : State) → s.fr ≤ 50 → s.f ≡ f₀ + s.fr → s.inner + j ≤ 2500 → (d ≡ hole) ⊎ Typed plan u d
      → (k : Ranked) → k ≡ rank_end i d j s → RankBounds plan u f₀ k
  unfolding rank_end
  end-bounds f₀ i d j s h g l p k e = subst (RankBounds plan u f₀) (sym e) (h, omega (arith, g), l, p)
