-- Two walks of one place, made at once: v is what the old run reads of its map and v' what the new run reads, and the types are the same.
-- What is kept of two descents, tests, turns or ranks is where they part, or what both come to, and no list of events; the laws say what each
-- says of the events, and that a rank made so ends where the two ranks part, or in what both end in. Assumes nothing.
use Rattle.definitions.specs.declared.Ranked.{Ranked}
use Rattle.definitions.specs.declared.Tried.{Tried}
use Rattle.std.specs.Prelude.{◌≡◌, Bool, cond, ◌||◌, ltb, eqb, Option, None, Some, Result, Ok, Err, MatchResult}
use Rattle.std.proofs.Math.Path.{refl, sym, ap, subst}
use Rattle.std.proofs.Common.{◌∙◌}
use Rattle.std.proofs.Math.Bool.{true, false}
use Rattle.std.proofs.lemmas.Bool.{false≢true}
use mathlib.Core.List.{List, [], ◌∷◌, ◌++◌, append-nil}
use Prim.Native.Nat.{ℕ, suc, ◌+◌, ◌-◌, ◌<◌, ◌≤◌}
use native.Mathlib.Omega.{arith}
use borrow.Author.Tests.{eq-eqb, ne_eqb}
use Rattle.definitions.specs.declared.Mode.TheVariants.{FirstN, Independent, Through}
use Rattle.definitions.specs.declared.Verdict.{Verdict}
use Rattle.definitions.specs.declared.Verdict.TheVariants.{Held, Passed}
use Rattle.definitions.specs.declared.Event.{Event}
use Rattle.definitions.specs.declared.Event.TheVariants.{Drew, Tested}
use Rattle.definitions.specs.declared.Landed.{Landed}
use Rattle.definitions.specs.declared.State.{State}
use Rattle.definitions.specs.declared.Turn.{Turn}
use Rattle.definitions.specs.declared.Turn.TheVariants.{Fill, Fail}
use Rattle.definitions.specs.declared.Parting.{Parting}
use Rattle.definitions.specs.declared.Parting.TheVariants.{Draw, Test}
use Rattle.definitions.specs.Lists.{has}
use Rattle.definitions.specs.Map.{bucket_item, bucket_number}
use Rattle.definitions.specs.View.{View}
use Rattle.definitions.specs.Walk.{
  Descent,
  draw_at,
  landing,
  deeper,
  on_winner,
  on_drawn,
  descend_in,
  descend,
  hole,
  verdict_of,
  Trial,
  plain,
  plain_test,
  TurnEvents,
  RankEvents,
  failed_to,
  rank_start,
  rank_end,
  on_tried,
  tested,
  untested,
  onward,
  after_turn,
  on_turn,
  on_type,
  on_landed,
  on_descent,
  turn_of,
  rank_from,
  rank_by,
  inner_walk,
  found,
  sought,
  through_by,
  through_test,
  test_of,
  rank_of,
}
use Rattle.definitions.specs.Edit.{same_drawn, same_verdict}
use Rattle.laws.specs.Fuel.{Sinks, descend-enough, turn-fails}
use Rattle.laws.specs.Walk.{descend-none, descend-stop, descend-down}
use Rattle.walk.specs.declared.Search.{Search}
use Rattle.walk.specs.Searches.{inner_search, try_at, test_at, turn_at, rank_at}
use Rattle.lockstep.specs.Parts.{PartsTo, verdict-eq, parts-after, parts-before, draws-part, tests-part}

-- m is what a and b, of the two runs, come to: they are one, and end in m's `Ok`, or their events part at its `Err`
abbrev pub Says : {A L : Type 0} → (A → List Event) → (A → L) → Result L Parting → A → A → Type 0
Says events end m a b = MatchResult m (λ l. (a ≡ b) × (end a ≡ l)) (λ p. PartsTo (events a) (events b) p)

-- ---- two descents

abbrev pub Descents : Result Landed Parting → Descent → Descent → Type 0
Descents = Says (λ c. c.events) (λ c. c.landed)

-- two descents behind one draw
pub deeper-both : (r b : ℕ) (d : Option ℕ) (m : Result Landed Parting) (c c' : Descent) → Descents m c c' → Descents m (deeper r b d c) (deeper r b d c')
unfolding deeper
deeper-both r b d (Err p) c c' k = parts-after (Drew b r d ∷ []) k
deeper-both r b d (Ok y) c c' (q, z) = (ap (deeper r b d) q, z)

module _ (v : View) (x t r b : ℕ) where
  -- the first event of a descent is its first draw
  pub drawn-begins : (go : ℕ → Descent) (d : Option ℕ) → (es : List Event) × ((on_drawn v x t r go b d).events ≡ Drew b r d ∷ es)
  unfolding on_drawn on_winner landing deeper
  drawn-begins go None = ([], refl)
  drawn-begins go (Some i) = by (ltb t (v.type i))
    where
      by : (u : Bool) → (es : List Event) × ((on_winner go r b i u).events ≡ Drew b r (Some i) ∷ es)
      by true = ((go (bucket_number i)).events, refl)
      by false = ([], refl)

  begins : Sinks v → (d : Option ℕ) → draw_at v x r b ≡ d → (es : List Event) × ((descend v x t r b).events ≡ Drew b r d ∷ es)
  unfolding descend_in
  begins sinks d e =
      let k = v.type (bucket_item b) in
      rw (← descend-enough v sinks x t r (suc k) b (omega arith), e) (drawn-begins (descend_in v x t r k) d)

module _ (v v' : View) (types : (i : ℕ) → v.type i ≡ v'.type i) (sinks : Sinks v) (sinks' : Sinks v') (x t r b : ℕ) where
  -- the draws differ
  pub meet-apart : (d d' : Option ℕ) → draw_at v x r b ≡ d → draw_at v' x r b ≡ d' → same_drawn d d' ≡ false
      → Descents (Err (Draw d d')) (descend v x t r b) (descend v' x t r b)
  meet-apart d d' e e' h =
      let (es, q) = begins v x t r b sinks d e in
      let (fs, q') = begins v' x t r b sinks' d' e' in
      rw (q, q') (draws-part b r d d' es fs h)

  -- both find none
  pub meet-none : draw_at v x r b ≡ None → draw_at v' x r b ≡ None
      → Descents (Ok (record { bucket = b; drawn = None })) (descend v x t r b) (descend v' x t r b)
  unfolding landing
  meet-none e e' =
      let q = descend-none v x t r b sinks e in
      (q ∙ sym (descend-none v' x t r b sinks' e'), ap (λ (c : Descent). c.landed) q)

  -- both come to an item of type t or below
  pub meet-stop : (i : ℕ) → draw_at v x r b ≡ Some i → draw_at v' x r b ≡ Some i → v.type i ≤ t
      → Descents (Ok (record { bucket = b; drawn = Some i })) (descend v x t r b) (descend v' x t r b)
  unfolding landing
  meet-stop i e e' l =
      let q = descend-stop v x t r b sinks i e l in
      (q ∙ sym (descend-stop v' x t r b sinks' i e' (rw (← types i) l)), ap (λ (c : Descent). c.landed) q)

  -- both go down to one bucket
  pub meet-down : (i : ℕ) (m : Result Landed Parting) → draw_at v x r b ≡ Some i → draw_at v' x r b ≡ Some i → t < v.type i
      → Descents m (descend v x t r (bucket_number i)) (descend v' x t r (bucket_number i))
      → Descents m (descend v x t r b) (descend v' x t r b)
  meet-down i m e e' l rest =
      rw (descend-down v x t r b sinks i e l, descend-down v' x t r b sinks' i e' (rw (← types i) l)) (deeper-both r b (Some i) m _ _ rest)

-- ---- two tests

abbrev pub Tests : Result Tried Parting → Trial → Trial → Type 0
Tests = Says (λ c. c.events) (λ c. c.tried)

-- two ranks
abbrev pub Ranks : Result Ranked Parting → RankEvents → RankEvents → Type 0
Ranks = Says (λ c. c.events) (λ c. c.ranked)

-- two tests of item i that are their verdicts
abbrev pub plain_both : ℕ → Verdict → Verdict → Result Tried Parting
plain_both i w w' = cond (same_verdict w w') (Ok (plain i w).tried) (Err (Test w w'))

-- the end of the held test
abbrev pub held_end : Bool → Verdict
held_end h = cond h Held Passed

-- two inner walks
abbrev pub on_course : Result Ranked Parting → Result Tried Parting
on_course (Err p) = Err p
on_course (Ok r) = Ok (found r)

plain-both : (i : ℕ) (w w' : Verdict) → Tests (plain_both i w w') (plain i w) (plain i w')
unfolding plain
plain-both i w w' = go (same_verdict w w') refl
  where
    go : (u : Bool) → same_verdict w w' ≡ u → Tests (cond u (Ok (plain i w).tried) (Err (Test w w'))) (plain i w) (plain i w')
    go true o = rw (← verdict-eq w w' o) (refl, refl)
    go false o = tests-part i w w' [] [] o

module _ (v v' : View) (x : ℕ) (k : Search) (olds news : List ℕ) (q i : ℕ) where
  -- the test of item i in each run
  abbrev T : Trial
  T = test_at v x k olds q i

  abbrev T' : Trial
  T' = test_at v' x k news q i

  pub tests-first : k.wanted.mode ≡ FirstN → Tests (plain_both i (verdict_of v x olds i) (verdict_of v' x news i)) T T'
  unfolding test_of plain_test
  tests-first e = rw e (plain-both i (verdict_of v x olds i) (verdict_of v' x news i))

  pub tests-independent : k.wanted.mode ≡ Independent → Tests (plain_both i (verdict_of v x olds i) (verdict_of v' x news i)) T T'
  unfolding test_of plain_test
  tests-independent e = rw e (plain-both i (verdict_of v x olds i) (verdict_of v' x news i))

  module _ (e : k.wanted.mode ≡ Through) where
    -- the item is held in a run
    pub tests-held : has i olds || has i news ≡ true → Tests (plain_both i (held_end (has i olds)) (held_end (has i news))) T T'
    unfolding test_of through_test through_by plain sought same_verdict
    tests-held h = rw e (go (has i olds) (has i news) h)
      where
        go : (y z : Bool) → y || z ≡ true
            → Tests (plain_both i (held_end y) (held_end z)) (through_by v x k.wanted.n olds q i y) (through_by v' x k.wanted.n news q i z)
        go true true o = (refl, refl)
        go true false o = tests-part i Held Passed [] _ refl
        go false true o = tests-part i Passed Held _ [] refl
        go false false o = absurd (false≢true o)

    -- it is held in none, and the inner walks are ranks
    pub tests-sought : has i olds || has i news ≡ false → (c : Result Ranked Parting)
        → Ranks c (rank_at v x (inner_search k.wanted.n q i) olds 0) (rank_at v' x (inner_search k.wanted.n q i) news 0) → Tests (on_course c) T T'
    unfolding test_of through_test through_by inner_walk sought plain_test rank_of
    tests-sought h c r = rw e (go (has i olds) (has i news) h)
      where
        inner : (d : Result Ranked Parting)
            → Ranks d (rank_at v x (inner_search k.wanted.n q i) olds 0) (rank_at v' x (inner_search k.wanted.n q i) news 0)
            → Tests (on_course d) (sought i (inner_walk v x k.wanted.n olds q i)) (sought i (inner_walk v' x k.wanted.n news q i))
        inner (Err p) o = parts-after (Tested i Passed ∷ []) o
        inner (Ok s) (o, z) = (ap (sought i) o, ap found z)

        go : (y z : Bool) → y || z ≡ false
            → Tests (on_course c) (through_by v x k.wanted.n olds q i y) (through_by v' x k.wanted.n news q i z)
        go true z o = absurd (false≢true (sym o))
        go false true o = absurd (false≢true (sym o))
        go false false o = inner c r

-- ---- two turns

abbrev pub Turns : Result Turn Parting → TurnEvents → TurnEvents → Type 0
Turns = Says (λ c. c.events) (λ c. c.turn)

module _ (v : View) (x : ℕ) (k : Search) (held : List ℕ) where
  -- the turn, from where its descent comes to; and the rank from a state on
  abbrev pub landed_at : State → ℕ → List Event → Option ℕ → TurnEvents
  landed_at s = on_landed v x k.wanted.mode k.wanted.n k.wanted.t (test_at v x k held) k.start k.r s (try_at k s)

  abbrev pub from_at : ℕ → State → RankEvents
  from_at = rank_from v x k.wanted.mode k.wanted.n k.wanted.t (test_at v x k held) k.start k.r

  -- the events of a turn begin with those of its descent
  landed-begins : (s : State) (b : ℕ) (es : List Event) (d : Option ℕ) → (fs : List Event) × ((landed_at s b es d).events ≡ es ++ fs)
  unfolding on_landed on_type tested untested
  landed-begins s b es None = ([], sym (append-nil es))
  landed-begins s b es (Some i) = go (eqb (v.type i) k.wanted.t)
    where
      go : (u : Bool) → (fs : List Event)
          × ((on_type v x k.wanted.mode k.wanted.n k.wanted.t (test_at v x k held) k.start k.r s (try_at k s) b es i u).events ≡ es ++ fs)
      go true = ((test_at v x k held (try_at k s) i).events, refl)
      go false = ([], sym (append-nil es))

-- what two tests of item i, drawn from bucket b, make of a turn
abbrev pub on_trials : ℕ → State → ℕ → ℕ → Result Tried Parting → Result Turn Parting
on_trials start s b i (Err p) = Err p
on_trials start s b i (Ok w) = Ok (on_tried start s b i w)

module _ (v v' : View) (x : ℕ) (k : Search) (olds news : List ℕ) (s : State) where
  -- the two runs: the descent of a turn, the turn, and what it makes of where its descent comes to
  abbrev D : Descent
  D = descend v x k.wanted.t (try_at k s) s.at

  abbrev D' : Descent
  D' = descend v' x k.wanted.t (try_at k s) s.at

  abbrev U : TurnEvents
  U = turn_at v x k olds s

  abbrev U' : TurnEvents
  U' = turn_at v' x k news s

  abbrev on : ℕ → List Event → Option ℕ → TurnEvents
  on = landed_at v x k olds s

  abbrev on' : ℕ → List Event → Option ℕ → TurnEvents
  on' = landed_at v' x k news s

  -- the descents part
  pub round-apart : (p : Parting) → Descents (Err p) D D' → Turns (Err p) U U'
  unfolding turn_of on_descent
  round-apart p h =
      let (xs, q) = landed-begins v x k olds s D.landed.bucket D.events D.landed.drawn in
      let (ys, q') = landed-begins v' x k news s D'.landed.bucket D'.events D'.landed.drawn in
      rw (q, q') (parts-before xs ys h)

  -- the descents land together, and behind one list of events the turns are as m says
  pub round-landed : (l : Landed) (m : Result Turn Parting) → Descents (Ok l) D D'
      → ((es : List Event) → Turns m (on l.bucket es l.drawn) (on' l.bucket es l.drawn)) → Turns m U U'
  unfolding turn_of on_descent
  round-landed l m (q, z) h =
      subst (λ (c : Descent). Turns m (on D.landed.bucket D.events D.landed.drawn) (on' c.landed.bucket c.events c.landed.drawn)) q
      (subst (λ (y : Landed). Turns m (on y.bucket D.events y.drawn) (on' y.bucket D.events y.drawn)) (sym z) (h D.events))

  module _ (b : ℕ) (es : List Event) where
    -- "a draw that finds none"
    pub land-none : Turns (Ok (Fail (failed_to k.start 0 s))) (on b es None) (on' b es None)
    unfolding on_landed untested
    land-none = (refl, refl)

    module _ (types : (i : ℕ) → v.type i ≡ v'.type i) (i : ℕ) where
      -- "a type below t"
      pub land-other : (v.type i ≡ k.wanted.t → ⊥) → Turns (Ok (Fail (failed_to k.start 0 s))) (on b es (Some i)) (on' b es (Some i))
      unfolding on_landed on_type untested
      land-other h = rw (← types i, ne_eqb (v.type i) k.wanted.t h) (refl, refl)

      -- "If the type is t, the item is tested"
      pub land-tested : v.type i ≡ k.wanted.t → (m : Result Tried Parting) → Tests m (test_at v x k olds (try_at k s) i) (test_at v' x k news (try_at k s) i)
          → Turns (on_trials k.start s b i m) (on b es (Some i)) (on' b es (Some i))
      unfolding on_landed on_type tested
      land-tested h m g = rw (← types i, eq-eqb (v.type i) k.wanted.t h) (go m g)
        where
          go : (u : Result Tried Parting) → Tests u (test_at v x k olds (try_at k s) i) (test_at v' x k news (try_at k s) i)
              → Turns (on_trials k.start s b i u) (tested k.start s b es i (test_at v x k olds (try_at k s) i)) (tested k.start s b es i (test_at v' x k news (try_at k s) i))
          go (Err p) o = parts-after es o
          go (Ok w) (o, z) = (ap (tested k.start s b es i) o, ap (on_tried k.start s b i) z)

-- ---- two ranks

-- the events of a rank begin with those of its first turn
pub turn-begins : (go : State → RankEvents) (s : State) (es : List Event) (u : Turn) → (fs : List Event) × ((after_turn go s es u).events ≡ es ++ fs)
unfolding after_turn onward
turn-begins go s es (Fill i e k) = ([], sym (append-nil es))
turn-begins go s es (Fail z) = ((go z).events, refl)

-- two ranks behind one list of events
onward-both : (es : List Event) (c : Result Ranked Parting) (a b : RankEvents) → Ranks c a b → Ranks c (onward es a) (onward es b)
unfolding onward
onward-both es (Err p) a b h = parts-after es h
onward-both es (Ok r) a b (q, z) = (ap (onward es) q, z)

module _ (v v' : View) (x : ℕ) (k : Search) (olds news : List ℕ) where
  -- what holds of what is left of two ranks, from s on and with m failures left, holds of the ranks a and b
  abbrev pub Leads : RankEvents → RankEvents → ℕ → State → Type 0
  Leads a b m s = (c : Result Ranked Parting) → Ranks c (from_at v x k olds m s) (from_at v' x k news m s) → Ranks c a b

  module _ (a b : RankEvents) (s : State) (lt : s.fr < 50) (from : Leads a b (50 - s.fr) s) where
    -- one turn of those left
    one : Leads a b (suc (50 - (s.fr + 1))) s
    one = let e : suc (50 - (s.fr + 1)) ≡ 50 - s.fr = omega arith in rw e from

    -- the turns part: so do the ranks, and there
    pub rank-parts : (p : Parting) → Turns (Err p) (turn_at v x k olds s) (turn_at v' x k news s) → Ranks (Err p) a b
    unfolding rank_from on_turn
    rank-parts p h =
        let m : ℕ = 50 - (s.fr + 1) in
        let c = turn_at v x k olds s in
        let d = turn_at v' x k news s in
        let (xs, q) = turn-begins (from_at v x k olds m) s c.events c.turn in
        let (ys, q') = turn-begins (from_at v' x k news m) s d.events d.turn in
        one (Err p) (rw (q, q') (parts-before xs ys h))

    -- both places are filled
    pub rank-filled : (i e j : ℕ) → Turns (Ok (Fill i e j)) (turn_at v x k olds s) (turn_at v' x k news s) → Ranks (Ok (rank_end i e j s)) a b
    unfolding rank_from on_turn after_turn
    rank-filled i e j (q, z) = one (Ok (rank_end i e j s)) (rw (← q, z) (refl, refl))

    -- both go on after a failure
    pub rank-next : (s' : State) → Turns (Ok (Fail s')) (turn_at v x k olds s) (turn_at v' x k news s) → Leads a b (50 - s'.fr) s'
    unfolding rank_from on_turn after_turn
    rank-next s' (q, z) c h =
        let one_more = turn-fails v x k.wanted.mode k.wanted.n k.wanted.t (test_at v x k olds) k.start k.r s s' z in
        let e : 50 - s'.fr ≡ 50 - (s.fr + 1) = omega (arith, one_more.0) in
        one c (rw (← q, z) (onward-both (turn_at v x k olds s).events c _ _ (rw e at h)))

  -- at fifty failures both end
  pub rank-ended : (a b : RankEvents) (s : State) → 50 ≤ s.fr → Leads a b (50 - s.fr) s → Ranks (Ok (rank_end hole hole 0 s)) a b
  unfolding rank_from
  rank-ended a b s g from = let e : 50 - s.fr ≡ 0 = omega arith in from (Ok (rank_end hole hole 0 s)) (rw e (refl, refl))

  -- the whole rank
  pub rank-whole : (f₀ : ℕ) → Leads (rank_at v x k olds f₀) (rank_at v' x k news f₀) 50 (record { at = k.start; fr = 0; f = f₀; inner = 0 })
  unfolding rank_of rank_by rank_start
  rank-whole f₀ c h = h
