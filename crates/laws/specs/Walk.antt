-- Document 01, "Walk, select and rule": what a draw leads to in a descent, and what a turn leads to in a rank. Assumes nothing.
use Rattle.std.specs.Prelude.{◌≡◌, ℕ, suc, ◌-◌, ◌<◌, ◌≤◌, None, Some}
use Rattle.std.proofs.Common.{ap, sym, ◌∙◌, arith}
use borrow.Author.Tests.{lt-ltb, le-ltb, eq-eqb, ne_eqb}
use Rattle.definitions.specs.declared.Mode.{Mode}
use Rattle.definitions.specs.declared.Landed.{Landed}
use Rattle.definitions.specs.declared.State.{State}
use Rattle.definitions.specs.declared.Ranked.{Ranked}
use Rattle.definitions.specs.declared.Tried.{Tried}
use Rattle.definitions.specs.declared.Turn.{Turn}
use Rattle.definitions.specs.declared.Turn.TheVariants.{Fill, Fail}
use Rattle.definitions.specs.Map.{bucket_item, bucket_number}
use Rattle.definitions.specs.View.{View}
use Rattle.definitions.specs.Walk.{hole, draw_at, landing, deeper, on_winner, on_drawn, descend_in, descend, Trial, try_number, failed_to, rank_end, on_tried, tested, untested, onward, after_turn, on_turn, on_type, on_landed, on_descent, turn_of, rank_from}
use Rattle.laws.specs.Fuel.{Sinks, is-bucket, descend-enough, turn-fails}

-- ---- descent: what a draw leads to

module _ (v : View) (x t r b : ℕ) where
  pub none_here : draw_at v x r b ≡ None → (k : ℕ) → descend_in v x t r (suc k) b ≡ landing r b None
  unfolding descend_in on_drawn
  none_here e k = simp e

  pub stop-here : (i : ℕ) → draw_at v x r b ≡ Some i → v.type i ≤ t → (k : ℕ)
      → descend_in v x t r (suc k) b ≡ landing r b (Some i)
  unfolding descend_in on_drawn on_winner
  stop-here i e l k = simp (e, le-ltb _ _ l)

  pub down-here : (i : ℕ) → draw_at v x r b ≡ Some i → t < v.type i → (k : ℕ)
      → descend_in v x t r (suc k) b ≡ deeper r b (Some i) (descend_in v x t r k (bucket_number i))
  unfolding descend_in on_drawn on_winner
  down-here i e l k = simp (e, lt-ltb _ _ l)

  -- the same of the whole descent, in a map whose types fall
  module _ (sinks : Sinks v) where
    enough : descend v x t r b ≡ descend_in v x t r (suc (v.type (bucket_item b))) b
    enough = sym (descend-enough v sinks x t r (suc (v.type (bucket_item b))) b (omega arith))

    pub descend-none : draw_at v x r b ≡ None → descend v x t r b ≡ landing r b None
    descend-none e = enough ∙ none_here e (v.type (bucket_item b))

    pub descend-stop : (i : ℕ) → draw_at v x r b ≡ Some i → v.type i ≤ t → descend v x t r b ≡ landing r b (Some i)
    descend-stop i e l = enough ∙ stop-here i e l (v.type (bucket_item b))

    pub descend-down : (i : ℕ) → draw_at v x r b ≡ Some i → t < v.type i
        → descend v x t r b ≡ deeper r b (Some i) (descend v x t r (bucket_number i))
    descend-down i e l =
        let below = sinks.drawn x r b i e in
        let at = is-bucket v sinks x t r i l in
        enough ∙ down-here i e l (v.type (bucket_item b))
        ∙ ap (deeper r b (Some i)) (descend-enough v sinks x t r (v.type (bucket_item b)) (bucket_number i) (rw at (omega arith)))

-- ---- rank: what a descent leads to in a turn, and a turn in a rank

module _ (v : View) (x : ℕ) (mode : Mode) (n t : ℕ) (test : ℕ → ℕ → Trial) (start r : ℕ) where
  -- l is where the turn's descent comes to, with the try number q
  module _ (s : State) (q : ℕ) (try : q ≡ try_number mode n r s) (l : Landed) (e : l ≡ (descend v x t q s.at).landed) where
    -- a draw of none is a failure
    pub turn-none : l.drawn ≡ None → (s' : State) → s' ≡ failed_to start 0 s → Fail s' ≡ (turn_of v x mode n t test start r s).turn
    unfolding turn_of on_descent on_landed untested
    turn-none d s' g = simp (← try, ← e, d, g)

    module _ (i : ℕ) (d : l.drawn ≡ Some i) where
      -- an item of another type is a failure
      pub turn-other : (v.type i ≡ t → ⊥) → (s' : State) → s' ≡ failed_to start 0 s → Fail s' ≡ (turn_of v x mode n t test start r s).turn
      unfolding turn_of on_descent on_landed on_type untested
      turn-other h s' g = simp (← try, ← e, d, ne_eqb _ _ h, g)

      -- an item of type t is tested
      pub turn-tested : v.type i ≡ t → (w : Tried) → w ≡ (test q i).tried → (k : Turn) → k ≡ on_tried start s l.bucket i w
          → k ≡ (turn_of v x mode n t test start r s).turn
      unfolding turn_of on_descent on_landed on_type tested
      turn-tested h w p k g = simp (g, p, ← try, ← e, d, eq-eqb _ _ h)

  pub rank-fill : (k : ℕ) (s : State) (i e j : ℕ) → (turn_of v x mode n t test start r s).turn ≡ Fill i e j
      → (rank_from v x mode n t test start r (suc k) s).ranked ≡ rank_end i e j s
  unfolding rank_from on_turn after_turn
  rank-fill k s i e j p = simp p

  pub rank-fail : (k : ℕ) (s s' : State) → (turn_of v x mode n t test start r s).turn ≡ Fail s'
      → (rank_from v x mode n t test start r (suc k) s).ranked ≡ (rank_from v x mode n t test start r k s').ranked
  unfolding rank_from on_turn after_turn onward
  rank-fail k s s' e = simp e

  -- a loop of turns that started as the rank w: what is left of it, from s on, comes to w
  module _ (w : Ranked) where
    abbrev pub Comes : State → Type 0
    Comes s = (rank_from v x mode n t test start r (50 - s.fr) s).ranked ≡ w

    left : (k : ℕ) (s : State) → k ≡ 50 - s.fr → Comes s → (rank_from v x mode n t test start r k s).ranked ≡ w
    left k s q h = rw q h

    -- a pass ends it
    pub comes-fill : (s : State) (i e j : ℕ) → s.fr < 50 → Comes s → (turn_of v x mode n t test start r s).turn ≡ Fill i e j → rank_end i e j s ≡ w
    comes-fill s i e j l h p = sym (rank-fill (49 - s.fr) s i e j p) ∙ left (suc (49 - s.fr)) s (omega arith) h

    -- a failure leaves one fewer
    pub comes-fail : (s s' : State) → s.fr < 50 → Comes s → (turn_of v x mode n t test start r s).turn ≡ Fail s' → Comes s'
    comes-fail s s' l h e =
        let one = turn-fails v x mode n t test start r s s' e in
        let q : 50 - s'.fr ≡ 49 - s.fr = omega (arith, one.0) in
        ap (λ (k : ℕ). (rank_from v x mode n t test start r k s').ranked) q
        ∙ sym (rank-fail (49 - s.fr) s s' e) ∙ left (suc (49 - s.fr)) s (omega arith) h

    -- at 50 failures it ends with a hole
    pub comes-hole : (s : State) → 50 ≤ s.fr → Comes s → rank_end hole hole 0 s ≡ w
    unfolding rank_from
    comes-hole s l h = left 0 s (omega arith) h
