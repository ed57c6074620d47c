-- What two turns in one plan come to with two lists of values: the steps from where both descents landed. Assumes nothing.
use Rattle.definitions.specs.declared.Ranked.{Ranked}
use Rattle.definitions.specs.declared.Tried.{Tried}
use Rattle.definitions.specs.declared.Turn.{Turn}
use Rattle.std.specs.Prelude.{◌≡◌, refl, List, ℕ, ◌<◌, ◌≤◌, None, Some, Result, Ok, Err, IfOk}
use Rattle.std.proofs.Common.{subst, ⊎_elim, arith}
use Rattle.definitions.specs.declared.Verdict.{Verdict}
use Rattle.definitions.specs.declared.Verdict.TheVariants.{Held, Rejected, Passed}
use Rattle.definitions.specs.declared.Event.{Event}
use Rattle.definitions.specs.declared.Landed.{Landed}
use Rattle.definitions.specs.declared.State.{State}
use Rattle.definitions.specs.declared.Turn.TheVariants.{Fail}
use Rattle.definitions.specs.declared.Parting.{Parting}
use Rattle.definitions.specs.View.{View}
use Rattle.definitions.specs.Walk.{descend, failed_to, retry_at, rank_start, on_verdict, on_tried, rank_by, rank_of}
use Rattle.laws.specs.Fuel.{rank-ends}
use Rattle.laws.specs.Tries.{test_short, rank-inner}
use Rattle.hierarchy.specs.Arrays.{type_in, view_in}
use Rattle.walk.specs.declared.Search.{Search}
use Rattle.walk.specs.Searches.{try_at, test_at, turn_at, rank_at}
use Rattle.walk.specs.Bounds.{retry-below}
use Rattle.lockstep.specs.Lockstep.{Descents, Tests, Turns, Ranks, landed_at, on_trials, round-apart, round-landed, land-none, land-other, land-tested}
use Rattle.lockstep.specs.Meets.{Meets}

-- m is what two turns come to whose descents landed at l, whatever the events before
unfoldable pub Follows : List ℕ → List ℕ → List ℕ → ℕ → Search → List ℕ → List ℕ → State → Landed → Result Turn Parting → Type 0
Follows plan old new x k olds news s l m =
    (es : List Event)
    → Turns m (landed_at (view_in plan old) x k olds s l.bucket es l.drawn) (landed_at (view_in plan new) x k news s l.bucket es l.drawn)

module _ (plan old new : List ℕ) (x : ℕ) (k : Search) (olds news : List ℕ) (s : State) (l : Landed) where
  abbrev Then : Result Turn Parting → Type 0
  Then = Follows plan old new x k olds news s l

  pub follows-none : l.drawn ≡ None → Then (Ok (Fail (failed_to k.start 0 s)))
  unfolding Follows
  follows-none e es = rw e (land-none _ _ x k olds news s l.bucket es)

  module _ (i : ℕ) (e : l.drawn ≡ Some i) where
    pub follows-other : (type_in plan i ≡ k.wanted.t → ⊥) → Then (Ok (Fail (failed_to k.start 0 s)))
    unfolding Follows
    follows-other h es = rw e (land-other _ _ x k olds news s l.bucket es (λ j. refl) i h)

    pub follows-tested : type_in plan i ≡ k.wanted.t → (q : ℕ) → q ≡ try_at k s → (m : Result Tried Parting)
        → Tests m (test_at (view_in plan old) x k olds q i) (test_at (view_in plan new) x k news q i) → Then (on_trials k.start s l.bucket i m)
    unfolding Follows
    follows-tested h q try m g es = rw e (land-tested _ _ x k olds news s l.bucket es (λ j. refl) i h m (rw try at g))

-- ---- bounds

-- an inner walk of both that ends in one has no more tries than a rank
abbrev pub Brief : Result Ranked Parting → Type 0
Brief c = IfOk c (λ r. (r.fr ≤ 50) × (r.inner ≤ 2500))

-- tests that come to one make no more than 50 tries within
abbrev pub Short : Result Tried Parting → Type 0
Short m = IfOk m (λ w. w.inner ≤ 50)

-- a rank fails at most fifty times
pub rank-failures : (v : View) (x : ℕ) (k : Search) (held : List ℕ) (f₀ : ℕ) → (rank_at v x k held f₀).ranked.fr ≤ 50
unfolding rank_of rank_by rank_start
rank-failures v x k held f₀ =
    ⊎_elim (λ h. omega arith) (λ h. omega (arith, h.1))
    (rank-ends v x k.wanted.mode k.wanted.n k.wanted.t (test_at v x k held) k.start k.r 50 (rank_start k.start f₀))

module _ (v v' : View) (x : ℕ) (k : Search) (olds news : List ℕ) where
  pub ranks-brief : (f₀ : ℕ) (c : Result Ranked Parting) → Ranks c (rank_at v x k olds f₀) (rank_at v' x k news f₀) → Brief c
  ranks-brief f₀ (Err p) h = tt
  ranks-brief f₀ (Ok r) (q, z) =
      rw (← z) (rank-failures v x k olds f₀, rank-inner v x k.wanted.n olds k.wanted.mode k.wanted.t k.start k.r f₀)

  pub tests-short : (q i : ℕ) (m : Result Tried Parting) → Tests m (test_at v x k olds q i) (test_at v' x k news q i) → Short m
  tests-short q i (Err p) h = tt
  tests-short q i (Ok w) (o, z) = rw (← z) (test_short v x k.wanted.n olds k.wanted.mode q i)

-- turns that fail in both lead to a bucket below 256
abbrev pub RoundBounds : Result Turn Parting → Type 0
RoundBounds k = IfOk k (λ u. (z : State) → u ≡ Fail z → z.at < 256)

pub failed-below : (b : ℕ) (s : State) → b < 256 → RoundBounds (Ok (Fail (failed_to b 0 s)))
unfolding failed_to
failed-below b s h z q = let e : failed_to b 0 s ≡ z = cc in subst (λ (k : State). k.at < 256) e h

verdict-below : (start : ℕ) (s : State) (b i e k : ℕ) (o : Verdict) (z : State) → start < 256 → b < 256 → on_verdict start s b i e k o ≡ Fail z → z.at < 256
unfolding on_verdict failed_to
verdict-below start s b i e k Held z h g q =
    let w : failed_to (retry_at start b s) k s ≡ z = cc in subst (λ (k : State). k.at < 256) w (retry-below start b s h g)
verdict-below start s b i e k Rejected z h g q = let w : failed_to start k s ≡ z = cc in subst (λ (k : State). k.at < 256) w h
verdict-below start s b i e k Passed z h g q = absurd (let y : ◌≡◌ {A = ℕ} 0 1 = cc in omega arith)

pub trials-bounds : (start : ℕ) (s : State) (b i : ℕ) (m : Result Tried Parting) → start < 256 → b < 256 → RoundBounds (on_trials start s b i m)
unfolding on_tried
trials-bounds start s b i (Err p) h g = tt
trials-bounds start s b i (Ok w) h g = λ z q. verdict-below start s b i w.entry w.inner w.verdict z h g q

-- the turn of both: from what the two descents come to with the try number q
module _ (plan old new : List ℕ) (x : ℕ) (k : Search) (olds news : List ℕ) (s : State) (q : ℕ) (m : Result Landed Parting)
    (meets : Meets plan old new x k.wanted.t q s.at m) (try : q ≡ try_at k s) where
  abbrev v : View
  v = view_in plan old

  abbrev v' : View
  v' = view_in plan new

  met : (m' : Result Landed Parting) → m ≡ m' → Descents m' (descend v x k.wanted.t (try_at k s) s.at) (descend v' x k.wanted.t (try_at k s) s.at)
  met m' e = subst (λ (o : ℕ). Descents m' (descend v x k.wanted.t o s.at) (descend v' x k.wanted.t o s.at)) try (rw e at meets)

  -- what both turns are
  abbrev Both : Result Turn Parting → Type 0
  Both u = Turns u (turn_at v x k olds s) (turn_at v' x k news s)

  pub turns-apart : (p : Parting) → m ≡ Err p → Both (Err p)
  turns-apart p e = round-apart v v' x k olds news s p (met (Err p) e)

  pub turns-landed : (l : Landed) (u : Result Turn Parting) → m ≡ Ok l → Follows plan old new x k olds news s l u → Both u
  unfolding Follows
  turns-landed l u e h = round-landed v v' x k olds news s l u (met (Ok l) e) h
