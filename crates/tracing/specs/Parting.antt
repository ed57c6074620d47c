-- Document 01, "Table, edits, moves": two walks of one rank, in two runs on views of the same types, are equal or part at one event.
-- Assumes nothing.
use Rattle.std.specs.Prelude.{◌≡◌, Bool, cond, ◌⊎◌, ltb, eqb, Option, None, Some}
use Rattle.std.proofs.Math.Path.{refl, sym, subst}
use Rattle.std.proofs.Common.{ap, ◌∙◌, arith}
use Rattle.std.proofs.Math.Bool.{true, false}
use mathlib.Core.List.{List, [], ◌∷◌, ◌++◌, append_assoc, append-nil, append_cancel_left, head-eq_of_cons-eq}
use Rattle.std.proofs.Math.Logic.{inl, inr, ⊎_elim}
use Prim.Native.Nat.{ℕ, zero, suc}
use Rattle.std.proofs.Math.Decide.{ℕ_discrete}
use Rattle.definitions.specs.declared.Mode.{Mode}
use Rattle.definitions.specs.declared.Mode.TheVariants.{FirstN, Independent, Through}
use Rattle.definitions.specs.declared.Verdict.{Verdict}
use Rattle.definitions.specs.declared.Verdict.TheVariants.{Held, Rejected, Passed}
use Rattle.definitions.specs.declared.Event.{Event}
use Rattle.definitions.specs.declared.Event.TheVariants.{Drew, Tested}
use Rattle.definitions.specs.declared.State.{State}
use Rattle.definitions.specs.declared.Turn.{Turn}
use Rattle.definitions.specs.declared.Turn.TheVariants.{Fill, Fail}
use Rattle.definitions.specs.Map.{bucket_item, bucket_number}
use Rattle.definitions.specs.View.{View}
use Rattle.definitions.specs.Lists.{has}
use Rattle.definitions.specs.Walk.{Descent, draw_at, landing, deeper, on_winner, on_drawn, descend_in, descend, verdict_of, Trial, plain, plain_test, TurnEvents, RankEvents, try_number, rank_start, tested, untested, onward, after_turn, on_turn, on_type, on_landed, on_descent, turn_of, rank_from, rank_by, inner_walk, sought, through_by, through_test, test_of, rank_of}

-- two draws end alike or not
pub drawn-same : (y z : Option ℕ) → (y ≡ z) ⊎ (y ≡ z → ⊥)
drawn-same None None = inl refl
drawn-same None (Some j) = inr (λ e. let z : ◌≡◌ {A = ℕ} 0 1 = cc in omega arith)
drawn-same (Some i) None = inr (λ e. let z : ◌≡◌ {A = ℕ} 0 1 = cc in omega arith)
drawn-same (Some i) (Some j) = go (ℕ_discrete i j)
  where
    go : Dec (i ≡ j) → (Some i ≡ Some j) ⊎ (Some i ≡ Some j → ⊥)
    go (yes e) = inl (ap Some e)
    go (no f) = inr (λ e. f (let g : i ≡ j = cc in g))

-- two tests end alike or not
pub verdict-same : (u w : Verdict) → (u ≡ w) ⊎ (u ≡ w → ⊥)
verdict-same Held Held = inl refl
verdict-same Held Rejected = inr (λ e. let z : ◌≡◌ {A = ℕ} 0 1 = cc in omega arith)
verdict-same Held Passed = inr (λ e. let z : ◌≡◌ {A = ℕ} 0 1 = cc in omega arith)
verdict-same Rejected Held = inr (λ e. let z : ◌≡◌ {A = ℕ} 0 1 = cc in omega arith)
verdict-same Rejected Rejected = inl refl
verdict-same Rejected Passed = inr (λ e. let z : ◌≡◌ {A = ℕ} 0 1 = cc in omega arith)
verdict-same Passed Held = inr (λ e. let z : ◌≡◌ {A = ℕ} 0 1 = cc in omega arith)
verdict-same Passed Rejected = inr (λ e. let z : ◌≡◌ {A = ℕ} 0 1 = cc in omega arith)
verdict-same Passed Passed = inl refl

-- ---- where two walks part

-- two walks: the same before, and then e in the one and f in the other
pub record At (es fs : List Event) (e f : Event) : Type 0 where
  pub before : List Event
  pub old-rest : List Event
  pub new-rest : List Event
  pub old-is : es ≡ before ++ e ∷ old-rest
  pub new_is : fs ≡ before ++ f ∷ new-rest

-- the same events may stand before both
pub at_after : {es fs : List Event} {e f : Event} (b : List Event) → At es fs e f → At (b ++ es) (b ++ fs) e f
at_after {e} {f} b p =
    record {
      before = b ++ p.before;
      old-rest = p.old-rest;
      new-rest = p.new-rest;
      old-is = ap (λ x. b ++ x) p.old-is ∙ sym (append_assoc b p.before (e ∷ p.old-rest));
      new_is = ap (λ x. b ++ x) p.new_is ∙ sym (append_assoc b p.before (f ∷ p.new-rest));
    }

-- and any events behind each
pub at_before : {es fs : List Event} {e f : Event} (x y : List Event) → At es fs e f → At (es ++ x) (fs ++ y) e f
at_before {e} {f} x y p =
    record {
      before = p.before;
      old-rest = p.old-rest ++ x;
      new-rest = p.new-rest ++ y;
      old-is = ap (λ z. z ++ x) p.old-is ∙ append_assoc p.before (e ∷ p.old-rest) x;
      new_is = ap (λ z. z ++ y) p.new_is ∙ append_assoc p.before (f ∷ p.new-rest) y;
    }

-- where they part at different events, neither is a beginning of the other
pub at-no-prefix : {es fs : List Event} {e f : Event} → At es fs e f → (e ≡ f → ⊥) → (y : List Event) → (fs ≡ es ++ y → ⊥) × (es ≡ fs ++ y → ⊥)
at-no-prefix a d y = (
  λ q. d (sym (head-eq_of_cons-eq (append_cancel_left a.before _ _ (sym a.new_is ∙ q ∙ ap (λ z. z ++ y) a.old-is ∙ append_assoc a.before _ y)))),
  λ q. d (head-eq_of_cons-eq (append_cancel_left a.before _ _ (sym a.old-is ∙ q ∙ ap (λ z. z ++ y) a.new_is ∙ append_assoc a.before _ y))),
)

-- two views, the group x, and what is held so far in each run
module _ (v₁ v₂ : View) (x : ℕ) (h₁ h₂ : List ℕ) where
  -- two events of one kind, at the same bucket and r' or of the same item, with different ends
  pub data Apart : Event → Event → Type 0 where
    draws : {b r : ℕ} {y z : Option ℕ} → y ≡ draw_at v₁ x r b → z ≡ draw_at v₂ x r b → (y ≡ z → ⊥) → Apart (Drew b r y) (Drew b r z)
    tests : {i : ℕ} {u w : Verdict} → u ≡ verdict_of v₁ x h₁ i → w ≡ verdict_of v₂ x h₂ i → (u ≡ w → ⊥) → Apart (Tested i u) (Tested i w)
    -- the held test of a select through: the item is held in one run only
    held : {i : ℕ} {u w : Verdict} → ((has i h₁ ≡ true) × (has i h₂ ≡ false)) ⊎ ((has i h₁ ≡ false) × (has i h₂ ≡ true))
        → u ≡ cond (has i h₁) Held Passed → w ≡ cond (has i h₂) Held Passed → (u ≡ w → ⊥) → Apart (Tested i u) (Tested i w)

  -- two walks that part, and where
  pub record Parts (es fs : List Event) : Type 0 where
    pub old : Event
    pub new : Event
    pub at : At es fs old new
    pub apart : Apart old new

  parts-now : {e f : Event} {es fs : List Event} → Apart e f → Parts (e ∷ es) (f ∷ fs)
  parts-now {e} {f} {es} {fs} p = record { old = e; new = f; at = record { before = []; old-rest = es; new-rest = fs; old-is = refl; new_is = refl }; apart = p }

  parts-after : {es fs : List Event} (b : List Event) → Parts es fs → Parts (b ++ es) (b ++ fs)
  parts-after b p = record { old = p.old; new = p.new; at = at_after b p.at; apart = p.apart }

  parts-before : {es fs : List Event} (y z : List Event) → Parts es fs → Parts (es ++ y) (fs ++ z)
  parts-before y z p = record { old = p.old; new = p.new; at = at_before y z p.at; apart = p.apart }

  parts-differ : {e f : Event} → Apart e f → e ≡ f → ⊥
  parts-differ (draws p q d) e = d (cc)
  parts-differ (tests p q d) e = d (cc)
  parts-differ (held f p q d) e = d (cc)

  -- neither walk is a beginning of the other
  pub no-prefix : {es fs : List Event} → Parts es fs → (y : List Event) → (fs ≡ es ++ y → ⊥) × (es ≡ fs ++ y → ⊥)
  no-prefix p y = at-no-prefix p.at (parts-differ p.apart) y

  module _ (types : (i : ℕ) → v₁.type i ≡ v₂.type i) where
    -- ---- descents

    abbrev Agree : Descent → Descent → Type 0
    Agree c d = (c ≡ d) ⊎ Parts c.events d.events

    module _ (t r : ℕ) where
      -- a descent's first event is its draw
      drawn-first : (v : View) (go : ℕ → Descent) (b : ℕ) (d : Option ℕ) → (es : List Event) × ((on_drawn v x t r go b d).events ≡ Drew b r d ∷ es)
      unfolding on_drawn on_winner deeper landing
      drawn-first v go b None = ([], refl)
      drawn-first v go b (Some i) = by-type (ltb t (v.type i))
        where
          by-type : (u : Bool) → (es : List Event) × ((on_winner go r b i u).events ≡ Drew b r (Some i) ∷ es)
          by-type true = ((go (bucket_number i)).events, refl)
          by-type false = ([], refl)

      -- equal draws lead to descents that agree
      same-drawn : (f g : ℕ → Descent) → ((b : ℕ) → Agree (f b) (g b)) → (b : ℕ) (d : Option ℕ) → Agree (on_drawn v₁ x t r f b d) (on_drawn v₂ x t r g b d)
      unfolding on_drawn on_winner deeper
      same-drawn f g h b None = inl refl
      same-drawn f g h b (Some i) = rw (← types i) (by-type (ltb t (v₁.type i)))
        where
          by-type : (u : Bool) → Agree (on_winner f r b i u) (on_winner g r b i u)
          by-type true =
              ⊎_elim (λ q. inl (ap (deeper r b (Some i)) q)) (λ p. inr (parts-after (Drew b r (Some i) ∷ []) p)) (h (bucket_number i))
          by-type false = inl refl

      descents-in : (k b : ℕ) → Agree (descend_in v₁ x t r k b) (descend_in v₂ x t r k b)
      unfolding descend_in
      descents-in zero b = inl refl
      descents-in (suc k) b = go (draw_at v₁ x r b) (draw_at v₂ x r b) refl refl (descents-in k)
        where
          go : (y z : Option ℕ) → y ≡ draw_at v₁ x r b → z ≡ draw_at v₂ x r b
              → ((c : ℕ) → Agree (descend_in v₁ x t r k c) (descend_in v₂ x t r k c))
              → Agree (on_drawn v₁ x t r (descend_in v₁ x t r k) b y) (on_drawn v₂ x t r (descend_in v₂ x t r k) b z)
          go y z p q rest =
              ⊎_elim
              (λ e. subst (λ d. Agree (on_drawn v₁ x t r (descend_in v₁ x t r k) b y) (on_drawn v₂ x t r (descend_in v₂ x t r k) b d)) e
              (same-drawn (descend_in v₁ x t r k) (descend_in v₂ x t r k) rest b y))
              (λ d.
              let l = drawn-first v₁ (descend_in v₁ x t r k) b y in
              let n = drawn-first v₂ (descend_in v₂ x t r k) b z in
              inr (rw (l.1, n.1) (parts-now (draws p q d))))
              (drawn-same y z)

      descents : (b : ℕ) → Agree (descend v₁ x t r b) (descend v₂ x t r b)
      unfolding descend
      descents b = rw (← types (bucket_item b)) (descents-in (v₁.type (bucket_item b)) b)

    -- ---- turns and ranks

    -- what the test of an item comes to in the two runs: the same, or its events part
    abbrev Tests : (ℕ → ℕ → Trial) → (ℕ → ℕ → Trial) → Type 0
    Tests f g = (q i : ℕ) → (f q i ≡ g q i) ⊎ Parts (f q i).events (g q i).events

    module _ (mode : Mode) (n t : ℕ) (f g : ℕ → ℕ → Trial) (start r : ℕ) (tests-part : Tests f g) where
      abbrev T₁ : State → TurnEvents
      T₁ = turn_of v₁ x mode n t f start r

      abbrev T₂ : State → TurnEvents
      T₂ = turn_of v₂ x mode n t g start r

      -- a turn's events begin with its descent's
      turn-begins : (v : View) (h : ℕ → ℕ → Trial) (s : State) (q : ℕ) (d : Descent) → (es : List Event) × ((on_descent v x mode n t h start r s q d).events ≡ d.events ++ es)
      unfolding on_descent on_landed on_type tested untested
      turn-begins v h s q d = by-drawn d.landed.drawn
        where
          by-type : (i : ℕ) (u : Bool) → (es : List Event) × ((on_type v x mode n t h start r s q d.landed.bucket d.events i u).events ≡ d.events ++ es)
          by-type i true = ((h q i).events, refl)
          by-type i false = ([], sym (append-nil d.events))

          by-drawn : (y : Option ℕ) → (es : List Event) × ((on_landed v x mode n t h start r s q d.landed.bucket d.events y).events ≡ d.events ++ es)
          by-drawn None = ([], sym (append-nil d.events))
          by-drawn (Some i) = by-type i (eqb (v.type i) t)

      -- equal descents lead to turns that agree
      same-descent : (s : State) (q : ℕ) (d : Descent)
          → (on_descent v₁ x mode n t f start r s q d ≡ on_descent v₂ x mode n t g start r s q d)
          ⊎ Parts (on_descent v₁ x mode n t f start r s q d).events (on_descent v₂ x mode n t g start r s q d).events
      unfolding on_descent on_landed on_type tested
      same-descent s q d = by-drawn d.landed.drawn
        where
          b : ℕ
          b = d.landed.bucket

          es : List Event
          es = d.events

          by-type : (i : ℕ) (u : Bool)
              → (on_type v₁ x mode n t f start r s q b es i u ≡ on_type v₂ x mode n t g start r s q b es i u)
              ⊎ Parts (on_type v₁ x mode n t f start r s q b es i u).events (on_type v₂ x mode n t g start r s q b es i u).events
          by-type i true = ⊎_elim (λ p. inl (ap (tested start s b es i) p)) (λ p. inr (parts-after es p)) (tests-part q i)
          by-type i false = inl refl

          by-drawn : (y : Option ℕ)
              → (on_landed v₁ x mode n t f start r s q b es y ≡ on_landed v₂ x mode n t g start r s q b es y)
              ⊎ Parts (on_landed v₁ x mode n t f start r s q b es y).events (on_landed v₂ x mode n t g start r s q b es y).events
          by-drawn None = inl refl
          by-drawn (Some i) = rw (← types i) (by-type i (eqb (v₁.type i) t))

      turns : (s : State) → (T₁ s ≡ T₂ s) ⊎ Parts (T₁ s).events (T₂ s).events
      unfolding turn_of
      turns s = go (descend v₁ x t (try_number mode n r s) s.at) (descend v₂ x t (try_number mode n r s) s.at) (descents t (try_number mode n r s) s.at)
        where
          D₁ : Descent → TurnEvents
          D₁ = on_descent v₁ x mode n t f start r s (try_number mode n r s)

          D₂ : Descent → TurnEvents
          D₂ = on_descent v₂ x mode n t g start r s (try_number mode n r s)

          go : (c d : Descent) → Agree c d → (D₁ c ≡ D₂ d) ⊎ Parts (D₁ c).events (D₂ d).events
          go c d (inl q) = subst (λ e. (D₁ c ≡ D₂ e) ⊎ Parts (D₁ c).events (D₂ e).events) q (same-descent s (try_number mode n r s) c)
          go c d (inr p) =
              let y = turn-begins v₁ f s (try_number mode n r s) c in
              let z = turn-begins v₂ g s (try_number mode n r s) d in
              inr (rw (y.1, z.1) (parts-before y.0 z.0 p))

      abbrev Agreed : RankEvents → RankEvents → Type 0
      Agreed a b = (a ≡ b) ⊎ Parts a.events b.events

      -- a rank's events begin with its first turn's
      rank-begins : (go : State → RankEvents) (s : State) (es : List Event) (u : Turn) → (fs : List Event) × ((after_turn go s es u).events ≡ es ++ fs)
      unfolding after_turn onward
      rank-begins go s es (Fill i e k) = ([], sym (append-nil es))
      rank-begins go s es (Fail z) = ((go z).events, refl)

      -- equal turns lead to ranks that agree
      same_turn : (o p : State → RankEvents) → ((s : State) → Agreed (o s) (p s)) → (s : State) (es : List Event) (u : Turn)
          → Agreed (after_turn o s es u) (after_turn p s es u)
      unfolding after_turn onward
      same_turn o p h s es (Fill i e k) = inl refl
      same_turn o p h s es (Fail z) = ⊎_elim (λ q. inl (ap (onward es) q)) (λ q. inr (parts-after es q)) (h z)

      -- two ranks from one state
      pub ranks-part : (k : ℕ) (s : State) → Agreed (rank_from v₁ x mode n t f start r k s) (rank_from v₂ x mode n t g start r k s)
      unfolding rank_from on_turn
      ranks-part zero s = inl refl
      ranks-part (suc k) s = go (T₁ s) (T₂ s) (turns s) (ranks-part k)
        where
          R₁ : State → RankEvents
          R₁ = rank_from v₁ x mode n t f start r k

          R₂ : State → RankEvents
          R₂ = rank_from v₂ x mode n t g start r k

          go : (a b : TurnEvents) → (a ≡ b) ⊎ Parts a.events b.events → ((z : State) → Agreed (R₁ z) (R₂ z)) → Agreed (on_turn R₁ s a) (on_turn R₂ s b)
          go a b (inl q) rest = subst (λ c. Agreed (on_turn R₁ s a) (on_turn R₂ s c)) q (same_turn R₁ R₂ rest s a.events a.turn)
          go a b (inr p) rest =
              let y = rank-begins R₁ s a.events a.turn in
              let z = rank-begins R₂ s b.events b.turn in
              inr (rw (y.1, z.1) (parts-before y.0 z.0 p))

      -- two walks of one rank are equal, entry, f_r and f too, or part
      pub rank-by : (k : ℕ)
          → (rank_by v₁ x mode n t f start r k ≡ rank_by v₂ x mode n t g start r k)
          ⊎ Parts (rank_by v₁ x mode n t f start r k).events (rank_by v₂ x mode n t g start r k).events
      unfolding rank_by
      rank-by k = ranks-part 50 (rank_start start k)

    -- ---- the tests of each mode

    plain-tests : Tests (plain_test v₁ x h₁) (plain_test v₂ x h₂)
    unfolding plain_test plain
    plain-tests q i =
        ⊎_elim (λ p. inl (ap (plain i) p)) (λ p. inr (parts-now (tests refl refl p))) (verdict-same (verdict_of v₁ x h₁ i) (verdict_of v₂ x h₂ i))

    module _ (n : ℕ) where
      through-tests : Tests (through_test v₁ x n h₁) (through_test v₂ x n h₂)
      unfolding through_test through_by inner_walk sought plain
      through-tests q i = go (has i h₁) (has i h₂) refl refl
        where
          inner : (rank_by v₁ x Independent n 0 (plain_test v₁ x h₁) (bucket_number i) q 0 ≡ rank_by v₂ x Independent n 0 (plain_test v₂ x h₂) (bucket_number i) q 0)
              ⊎ Parts (rank_by v₁ x Independent n 0 (plain_test v₁ x h₁) (bucket_number i) q 0).events (rank_by v₂ x Independent n 0 (plain_test v₂ x h₂) (bucket_number i) q 0).events
          inner = rank-by Independent n 0 (plain_test v₁ x h₁) (plain_test v₂ x h₂) (bucket_number i) q plain-tests 0

          go : (a b : Bool) → has i h₁ ≡ a → has i h₂ ≡ b
              → (through_by v₁ x n h₁ q i a ≡ through_by v₂ x n h₂ q i b) ⊎ Parts (through_by v₁ x n h₁ q i a).events (through_by v₂ x n h₂ q i b).events
          go true true e₁ e₂ = inl refl
          go true false e₁ e₂ = inr (parts-now (held (inl (e₁, e₂)) (rw e₁) (rw e₂) (λ q. let z : ◌≡◌ {A = ℕ} 0 1 = cc in omega arith)))
          go false true e₁ e₂ = inr (parts-now (held (inr (e₁, e₂)) (rw e₁) (rw e₂) (λ q. let z : ◌≡◌ {A = ℕ} 0 1 = cc in omega arith)))
          go false false e₁ e₂ = ⊎_elim (λ p. inl (ap (sought i) p)) (λ p. inr (parts-after (Tested i Passed ∷ []) p)) inner

      mode-tests : (mode : Mode) → Tests (test_of mode v₁ x n h₁) (test_of mode v₂ x n h₂)
      unfolding test_of
      mode-tests FirstN = plain-tests
      mode-tests Independent = plain-tests
      mode-tests Through = through-tests

      -- two walks of one rank, inner walks included, are equal, item, entry and counts too, or part
      pub rank-parts : (mode : Mode) (t start r k : ℕ)
          → (rank_of v₁ x mode n t h₁ start r k ≡ rank_of v₂ x mode n t h₂ start r k)
          ⊎ Parts (rank_of v₁ x mode n t h₁ start r k).events (rank_of v₂ x mode n t h₂ start r k).events
      unfolding rank_of
      rank-parts mode t start r k = rank-by mode n t (test_of mode v₁ x n h₁) (test_of mode v₂ x n h₂) start r (mode-tests mode) k
