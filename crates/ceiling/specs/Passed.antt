-- Document 02, change 7: a device that passes its test in a rank's walk, inner walks included, fills the rank's place. Assumes nothing.
use Rattle.std.specs.Prelude.{◌≡◌, refl, Bool, ltb, eqb, Option, None, Some}
use Rattle.std.proofs.Math.Bool.{true, false}
use mathlib.Core.List.Memᴰ
use mathlib.Core.List.{List, [], ◌∷◌, Memᴰ}
use Rattle.std.proofs.Common.{⊎_elim, arith, eqb-true, ne_eqb}
use Prim.Native.Nat.{ℕ, zero, suc, ◌<◌}
use Rattle.definitions.specs.declared.Mode.{Mode}
use Rattle.definitions.specs.declared.Mode.TheVariants.{FirstN, Independent, Through}
use Rattle.definitions.specs.declared.Verdict.TheVariants.{Passed}
use Rattle.definitions.specs.declared.Event.{Event}
use Rattle.definitions.specs.declared.Event.TheVariants.{Drew, Tested}
use Rattle.definitions.specs.declared.State.{State}
use Rattle.definitions.specs.declared.Tried.{Tried}
use Rattle.definitions.specs.declared.Turn.{Turn}
use Rattle.definitions.specs.declared.Turn.TheVariants.{Fill, Fail}
use Rattle.definitions.specs.Lists.{has}
use Rattle.definitions.specs.Map.{bucket_number}
use Rattle.definitions.specs.View.{View}
use Rattle.definitions.specs.Walk.{hole, Descent, draw_at, landing, deeper, on_winner, on_drawn, descend_in, descend, verdict_of, Trial, plain, plain_test, TurnEvents, RankEvents, try_number, rank_start, rank_end, on_verdict, on_tried, tested, untested, onward, after_turn, on_turn, on_type, on_landed, on_descent, turn_of, rank_from, rank_by, inner_walk, found, sought, through_by, through_test, test_of, rank_of}

-- in these events device d passes its test
abbrev Passing : ℕ → List Event → Type 0
Passing d es = Memᴰ (Tested d Passed) es

-- a rank in which device d passes puts it out
abbrev pub Fills : ℕ → RankEvents → Type 0
Fills d k = Passing d k.events → k.ranked.entry ≡ d

-- a draw is no test
no_test : {b r d : ℕ} {y : Option ℕ} → Tested d Passed ≡ Drew b r y → ⊥
no_test e = let z : ◌≡◌ {A = ℕ} 0 1 = cc in omega arith

-- one event in front of others
passing-front : {d : ℕ} (e : Event) (es : List Event) → (Tested d Passed ≡ e → ⊥) → Passing d (e ∷ es) → Passing d es
passing-front {d} e es f i =
    ⊎_elim (λ j. absurd (f (Memᴰ.eq_of_singleton j))) (λ j. j) (Memᴰ.append_cases (e ∷ []) i)

-- a descent draws alone
module _ (v : View) (x t r d : ℕ) where
  descent-silent : (k b : ℕ) → Passing d (descend_in v x t r k b).events → ⊥
  unfolding descend_in on_drawn on_winner deeper landing
  descent-silent zero b = λ i. no_test (Memᴰ.eq_of_singleton i)
  descent-silent (suc k) b = go (draw_at v x r b) (descent-silent k)
    where
      on : (i : ℕ) (u : Bool) → ((c : ℕ) → Passing d (descend_in v x t r k c).events → ⊥) → Passing d (on_winner (descend_in v x t r k) r b i u).events → ⊥
      on i true rest j = rest (bucket_number i) (passing-front (Drew b r (Some i)) (descend_in v x t r k (bucket_number i)).events no_test j)
      on i false rest j = no_test (Memᴰ.eq_of_singleton j)

      go : (y : Option ℕ) → ((c : ℕ) → Passing d (descend_in v x t r k c).events → ⊥) → Passing d (on_drawn v x t r (descend_in v x t r k) b y).events → ⊥
      go None rest j = no_test (Memᴰ.eq_of_singleton j)
      go (Some i) rest j = on i (ltb t (v.type i)) rest j

-- ---- a rank

-- a test of an item of type t in which d passes is itself passed, and puts out d
abbrev Honest : View → ℕ → (ℕ → ℕ → Trial) → ℕ → Type 0
Honest v t test d = (q i : ℕ) → v.type i ≡ t → Passing d (test q i).events → ((test q i).tried.verdict ≡ Passed) × ((test q i).tried.entry ≡ d)

module _ (v : View) (x : ℕ) (mode : Mode) (n t : ℕ) (test : ℕ → ℕ → Trial) (start r d : ℕ) (honest : Honest v t test d) where
  -- a turn in which d passes fills the place with it
  abbrev Ends : TurnEvents → Type 0
  Ends k = Passing d k.events → (i : ℕ) × (j : ℕ) × (k.turn ≡ Fill i d j)

  turn-ends : (s : State) → Ends (turn_of v x mode n t test start r s)
  unfolding turn_of on_descent on_landed on_type tested untested on_tried on_verdict descend
  turn-ends s = by-drawn D.landed.drawn
    where
      q : ℕ
      q = try_number mode n r s

      D : Descent
      D = descend v x t q s.at

      silent : Passing d D.events → ⊥
      silent = descent-silent v x t q d _ s.at

      filled : (i : ℕ) (w : Tried) → w.verdict ≡ Passed → w.entry ≡ d → on_tried start s D.landed.bucket i w ≡ Fill i d w.inner
      filled i w e f = rw (e, f)

      by-type : (i : ℕ) (u : Bool) → eqb (v.type i) t ≡ u → Ends (on_type v x mode n t test start r s q D.landed.bucket D.events i u)
      by-type i true e h =
          ⊎_elim (λ j. absurd (silent j))
          (λ j. let (a, b) = honest q i (eqb-true _ _ e) j in (i, (test q i).tried.inner, filled i (test q i).tried a b))
          (Memᴰ.append_cases D.events h)
      by-type i false e h = absurd (silent h)

      by-drawn : (y : Option ℕ) → Ends (on_landed v x mode n t test start r s q D.landed.bucket D.events y)
      by-drawn None h = absurd (silent h)
      by-drawn (Some i) h = by-type i (eqb (v.type i) t) refl h

  rank-fills : (k : ℕ) (s : State) → Fills d (rank_from v x mode n t test start r k s)
  unfolding rank_from on_turn after_turn onward rank_end
  rank-fills zero s = λ h. elim h [ ]
  rank-fills (suc k) s = go (turn_of v x mode n t test start r s).events (turn_of v x mode n t test start r s).turn (turn-ends s) (rank-fills k)
    where
      R : State → RankEvents
      R = rank_from v x mode n t test start r k

      go : (es : List Event) (u : Turn) → (Passing d es → (i : ℕ) × (j : ℕ) × (u ≡ Fill i d j)) → ((z : State) → Fills d (R z)) → Fills d (after_turn R s es u)
      go es (Fill i e j) ends rest h = let (a, b, p) = ends h in let z : e ≡ d = cc in z
      go es (Fail z) ends rest h =
          ⊎_elim (λ g. let (a, b, p) = ends g in absurd (let o : ◌≡◌ {A = ℕ} 0 1 = cc in omega arith)) (λ g. rest z g) (Memᴰ.append_cases es h)

  by-fills : (f : ℕ) → Fills d (rank_by v x mode n t test start r f)
  unfolding rank_by
  by-fills f = rank-fills 50 (rank_start start f)

-- ---- the tests

-- d is a device, of type 0, and no hole
module _ (v : View) (x d : ℕ) (real : d ≡ hole → ⊥) (device : v.type d ≡ 0) (held : List ℕ) where
  plain-honest : (t : ℕ) → Honest v t (plain_test v x held) d
  unfolding plain_test plain
  plain-honest t q i e h =
      let p : Tested d Passed ≡ Tested i (verdict_of v x held i) = Memᴰ.eq_of_singleton h in
      let a : verdict_of v x held i ≡ Passed = cc in
      let b : i ≡ d = cc in
      (a, b)

  -- an item that is sought beneath is a bucket
  through-honest : (n t : ℕ) → 0 < t → Honest v t (through_test v x n held) d
  unfolding through_test through_by plain sought inner_walk found
  through-honest n t l q i e = go (has i held)
    where
      k : RankEvents
      k = rank_by v x Independent n 0 (plain_test v x held) (bucket_number i) q 0

      other : Tested d Passed ≡ Tested i Passed → ⊥
      other p = let z : i ≡ d = cc in omega (arith, e, device, (rw z at e))

      go : (b : Bool) → Passing d (through_by v x n held q i b).events
          → ((through_by v x n held q i b).tried.verdict ≡ Passed) × ((through_by v x n held q i b).tried.entry ≡ d)
      go true h = absurd (let p = Memᴰ.eq_of_singleton h in let z : ◌≡◌ {A = ℕ} 0 1 = cc in omega arith)
      go false h =
          let f : k.ranked.entry ≡ d =
          by-fills v x Independent n 0 (plain_test v x held) (bucket_number i) q d (plain-honest 0) 0 (passing-front (Tested i Passed) k.events other h) in
          (rw (f, ne_eqb d hole real), f)

  -- a device that passes in a rank fills its place
  pub passed-fills : (mode : Mode) (n t start r f : ℕ) → ((mode ≡ Through) → 0 < t) → Fills d (rank_of v x mode n t held start r f)
  unfolding rank_of test_of
  passed-fills FirstN n t start r f l = by-fills v x FirstN n t (plain_test v x held) start r d (plain-honest t) f
  passed-fills Independent n t start r f l = by-fills v x Independent n t (plain_test v x held) start r d (plain-honest t) f
  passed-fills Through n t start r f l = by-fills v x Through n t (through_test v x n held) start r d (through-honest n t (l refl)) f
