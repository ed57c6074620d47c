-- Document 01, "Table, edits, moves": every place of every select is the same in the old run and in the new, or the cause of its change is
-- traced to the edited device, as `Traced` of specs/ says. Assumes nothing.
use Rattle.std.specs.Prelude.{◌≡◌, Bool, false, cond, ◌⊎◌, eqb, length, get_or, Option}
use Rattle.std.proofs.Math.Path.{refl, sym, subst}
use Rattle.std.proofs.Common.{ap, ap₂, ◌∙◌, le_of_lt, eq-or-lt_of_le}
use Rattle.std.proofs.Math.Bool.{true}
use Rattle.std.proofs.lemmas.Bool.{false≢true}
use mathlib.Core.List.{List}
use Rattle.std.proofs.Math.Logic.{inl, inr, ⊎_elim}
use Prim.Native.Nat.{ℕ, zero, suc, ◌+◌, ◌/◌, ◌%◌, ◌<◌, ◌≤◌}
use Rattle.std.proofs.Math.Decide.{dec_lt}
use native.Mathlib.Omega.{arith}
use Rattle.definitions.specs.declared.Mode.{Mode}
use Rattle.definitions.specs.declared.Mode.TheVariants.{FirstN, Independent, Through}
use Rattle.definitions.specs.declared.Action.{Action}
use Rattle.definitions.specs.declared.Action.TheVariants.{Take, Select, Emit, Idle}
use Rattle.definitions.specs.declared.Verdict.{Verdict}
use Rattle.definitions.specs.declared.Verdict.TheVariants.{Held, Rejected, Passed}
use Rattle.definitions.specs.declared.Event.{Event}
use Rattle.definitions.specs.declared.Event.TheVariants.{Tested}
use Rattle.definitions.specs.declared.Change.{Change}
use Rattle.definitions.specs.Lists.{has}
use Rattle.definitions.specs.Map.{Map, is_bucket, bucket_number}
use Rattle.definitions.specs.View.{View, view_of}
use Rattle.definitions.specs.Walk.{hole, RankEvents, accepted, verdict_of, rank_of}
use Rattle.definitions.specs.Select.{Place, place_under, nowhere}
use Rattle.definitions.specs.Rule.{run_to}
use Rattle.definitions.specs.Edit.{put}
use Rattle.definitions.specs.Calls.{not_first_n, independent, fits}
use Rattle.laws.specs.Loadable.{Loadable, put-actions, put-loadable}
use Rattle.laws.specs.Origins.{Tests}
use Rattle.tracing.specs.Runs.{leaves, no_rank, rank_under, step_at, working_at, place_at, working-take, step-place, place-stays, place-past, independent-at}
use Rattle.tracing.specs.Listed.{emitted-same}
use Rattle.tracing.specs.Parting.{At, Apart, draws, tests, held, Parts, rank-parts}
use Rattle.tracing.specs.Edited.{Edited, edited, put-types, put_step, put-stays, put_count, put-independent}
use Rattle.tracing.specs.Held.{Before, own, listed, held_of, OnlyAt, Nowhere}
use Rattle.tracing.specs.Traced.{judge, old, new, Here, Traced, above, stays, accept, drawn, held-old, held_new, at_old, at_new}
use Rattle.tracing.proofs.Held.{held_at, held-once, free-nowhere, tested-sought}

-- two ranks under one place
under-parts : (v₁ v₂ : View) (x : ℕ) (h₁ h₂ : List ℕ) → ((i : ℕ) → v₁.type i ≡ v₂.type i) → (mode : Mode) (n t : ℕ) (up : Place) (r : ℕ)
    → (rank_under v₁ x mode n t h₁ up r ≡ rank_under v₂ x mode n t h₂ up r)
    ⊎ Parts v₁ v₂ x h₁ h₂ (rank_under v₁ x mode n t h₁ up r).events (rank_under v₂ x mode n t h₂ up r).events
unfolding rank_under
under-parts v₁ v₂ x h₁ h₂ types mode n t up r = go (eqb up.entry hole)
  where
    A : RankEvents
    A = rank_of v₁ x mode n t h₁ (bucket_number up.entry) r 0

    B : RankEvents
    B = rank_of v₂ x mode n t h₂ (bucket_number up.entry) r 0

    go : (b : Bool) → (cond b no_rank A ≡ cond b no_rank B) ⊎ Parts v₁ v₂ x h₁ h₂ (cond b no_rank A).events (cond b no_rank B).events
    go true = inl refl
    go false = rank-parts v₁ v₂ x h₁ h₂ types n mode t (bucket_number up.entry) r 0

not-held-verdict : (b : Bool) → cond b Passed Rejected ≡ Held → ⊥
not-held-verdict true e = let z : ◌≡◌ {A = ℕ} 0 1 = cc in omega arith
not-held-verdict false e = let z : ◌≡◌ {A = ℕ} 0 1 = cc in omega arith

module _ (m : Map) (c : Option Change) (x : ℕ) (L : Loadable m) (L' : Loadable (put m c)) (X : Edited m c x) (ind : independent m ≡ true) where
  abbrev O : ℕ → ℕ → Place
  O = old m c x

  abbrev N : ℕ → ℕ → Place
  N = new m c x

  abbrev Tr : ℕ → ℕ → ℕ → Type 0
  Tr = Traced m c x

  abbrev Claim : ℕ → ℕ → Type 0
  Claim k p = (O k p ≡ N k p) ⊎ ((cause : ℕ) × Tr k p cause)

  abbrev count : ℕ → ℕ
  count k = length (working_at m x k)

  -- the places before are the same in both runs
  to-new : {k p i l q : ℕ} → Before m x k p i l q → Before (put m c) x k p i l q
  to-new (own h) = own h
  to-new (listed {j} {l} {q} z h E) = listed z h (emitted-same m (put m c) (put-actions m c) ind x j l q E)

  to-old : {k p i l q : ℕ} → Before (put m c) x k p i l q → Before m x k p i l q
  to-old (own h) = own h
  to-old (listed {j} {l} {q} z h E) = listed z h (emitted-same (put m c) m (sym (put-actions m c)) (put-independent m c ∙ ind) x j l q E)

  -- place p after the select that is step k, where the places of all working lists up to that step, and the earlier places of the select, are
  -- the same or traced
  module _ (k n t p : ℕ) (mode : Mode) (e : step_at m k ≡ Select mode n t) (lv : leaves mode ≡ true) (in_p : p < count (suc k))
      (ups : (l : ℕ) → l ≤ k → (q : ℕ) → Claim l q) (earlier : (q : ℕ) → q < p → Claim (suc k) q) where
    e' : step_at (put m c) k ≡ Select mode n t
    e' = put_step m c k (Select mode n t) e

    in-p' : p < length (working_at (put m c) x (suc k))
    in-p' = omega (arith, in_p, put_count m c ind x (suc k))

    abbrev h₁ : List ℕ
    h₁ = held_at m L x k n t mode e p

    abbrev h₂ : List ℕ
    h₂ = held_at (put m c) L' x k n t mode e' p

    abbrev v₁ : View
    v₁ = view_of m

    abbrev v₂ : View
    v₂ = view_of (put m c)

    -- what the two runs make of place p
    abbrev r₁ : RankEvents
    r₁ = rank_under v₁ x mode n t h₁ (O k (p / n)) (p % n + 1)

    abbrev r₂ : RankEvents
    r₂ = rank_under v₂ x mode n t h₂ (N k (p / n)) (p % n + 1)

    abbrev H : Event → Event → Type 0
    H = Here m c x k p n

    abbrev A : Event → Event → Type 0
    A = At r₁.events r₂.events

    -- the claim of a place before
    before : {i l q : ℕ} → Before m x k p i l q → Claim l q
    before (own {q} h) = earlier q h
    before (listed {l} {q} z h E) = ups l (le_of_lt h) q

    -- what is tested is what the select looks for, in each run
    sought₁ : {i : ℕ} {u w : Verdict} → A (Tested i u) (Tested i w) → Tests m L x t h₁ i
    sought₁ {i} {u} a = tested-sought m L x k n t mode e p lv in_p i u (at_old a)

    sought₂ : {i : ℕ} {u w : Verdict} → A (Tested i u) (Tested i w) → Tests (put m c) L' x t h₂ i
    sought₂ {i} {w} a = tested-sought (put m c) L' x k n t mode e' p lv in-p' i w (at_new a)

    -- held in the old run only
    only-old : {i : ℕ} {w : Verdict} → H (Tested i Held) (Tested i w) → A (Tested i Held) (Tested i w) → (w ≡ Held → ⊥)
        → has i h₁ ≡ true → has i h₂ ≡ false → Tr (suc k) p 3
    only-old {i} h a nw f₁ f₂ =
        let (l, q, o) = held-once m L x k n t mode e p in_p i (sought₁ a).0 f₁ in
        let none : Nowhere m x N k p i = λ y z b. free-nowhere (put m c) L' x k n t mode e' p in-p' i (sought₂ a) f₂ y z (to-new b) in
        ⊎_elim (λ y. absurd (none l q o.before (sym (ap (held_of (is_bucket i)) y) ∙ o.holds))) (λ y. held-old h nw o none y.1) (before o.before)

    -- held in the new run only
    only-new : {i : ℕ} {u : Verdict} → H (Tested i u) (Tested i Held) → A (Tested i u) (Tested i Held) → (u ≡ Held → ⊥)
        → has i h₁ ≡ false → has i h₂ ≡ true → Tr (suc k) p 3
    only-new {i} h a nu f₁ f₂ =
        let (l, q, o) = held-once (put m c) L' x k n t mode e' p in-p' i (sought₂ a).0 f₂ in
        let there : OnlyAt m x N k p i l q = record { before = to-old o.before; holds = o.holds; only = λ y z b. o.only y z (to-new b) } in
        let none = free-nowhere m L x k n t mode e p in_p i (sought₁ a) f₁ in
        ⊎_elim (λ y. absurd (none l q there.before (ap (held_of (is_bucket i)) y ∙ o.holds))) (λ y. held_new h nu there none y.1) (before there.before)

    tested : {i : ℕ} {u w : Verdict} → H (Tested i u) (Tested i w) → A (Tested i u) (Tested i w) → (u ≡ w → ⊥) → (y z a b : Bool)
        → has i h₁ ≡ y → has i h₂ ≡ z → accepted v₁ x i ≡ a → accepted v₂ x i ≡ b
        → u ≡ cond y Held (cond a Passed Rejected) → w ≡ cond z Held (cond b Passed Rejected) → (cause : ℕ) × Tr (suc k) p cause
    tested h at dif true true a b e₁ e₂ f₁ f₂ u w = absurd (dif (u ∙ sym w))
    tested {i} {w = g} h at dif true false a b e₁ e₂ f₁ f₂ u w =
        (3, only-old (subst (λ z. H (Tested i z) (Tested i g)) u h) (subst (λ z. A (Tested i z) (Tested i g)) u at) (λ z. not-held-verdict b (sym w ∙ z)) e₁ e₂)
    tested {i} {u = g} h at dif false true a b e₁ e₂ f₁ f₂ u w =
        (3, only-new (subst (λ z. H (Tested i g) (Tested i z)) w h) (subst (λ z. A (Tested i g) (Tested i z)) w at) (λ z. not-held-verdict a (sym u ∙ z)) e₁ e₂)
    tested h at dif false false true true e₁ e₂ f₁ f₂ u w = absurd (dif (u ∙ sym w))
    tested h at dif false false false false e₁ e₂ f₁ f₂ u w = absurd (dif (u ∙ sym w))
    tested {i} h at dif false false true false e₁ e₂ f₁ f₂ u w =
        ⊎_elim (λ q. absurd (let z : ◌≡◌ {A = ℕ} 0 1 = cc in omega arith)) (λ q. (1, accept q.1 h (inl (u, w)) (u ∙ ap judge (sym f₁), w ∙ ap judge (sym f₂)))) (X.tests i)
    tested {i} h at dif false false false true e₁ e₂ f₁ f₂ u w =
        ⊎_elim (λ q. absurd (let z : ◌≡◌ {A = ℕ} 0 1 = cc in omega arith)) (λ q. (1, accept q.1 h (inr (u, w)) (u ∙ ap judge (sym f₁), w ∙ ap judge (sym f₂)))) (X.tests i)

    parted : {f g : Event} → Apart v₁ v₂ x h₁ h₂ f g → H f g → A f g → (cause : ℕ) × Tr (suc k) p cause
    unfolding verdict_of
    parted (draws {b} {r} u w dif) h at =
        ⊎_elim (λ q. absurd (dif (u ∙ q ∙ sym w))) (λ q. (2, drawn h dif (rw (u, w) q))) (X.draws r b)
    parted (tests {i} u w dif) h at = tested h at dif (has i h₁) (has i h₂) (accepted v₁ x i) (accepted v₂ x i) refl refl refl refl u w
    parted (held {i} {u = f} {w = g} (inl (a, b)) u w dif) h at =
        let o : f ≡ Held = u ∙ rw a in
        (3, only-old (subst (λ z. H (Tested i z) (Tested i g)) o h) (subst (λ z. A (Tested i z) (Tested i g)) o at) (λ z. not-held-verdict true (sym (w ∙ rw b) ∙ z)) a b)
    parted (held {i} {u = g} {w = f} (inr (a, b)) u w dif) h at =
        let o : f ≡ Held = w ∙ rw b in
        (3, only-new (subst (λ z. H (Tested i g) (Tested i z)) o h) (subst (λ z. A (Tested i g) (Tested i z)) o at) (λ z. not-held-verdict true (sym (u ∙ rw a) ∙ z)) a b)

    -- under equal places above
    under : O k (p / n) ≡ N k (p / n) → Claim (suc k) p
    unfolding place_under
    under same = go (under-parts v₁ v₂ x h₁ h₂ (put-types m c) mode n t (O k (p / n)) (p % n + 1))
      where
        s₂ : RankEvents
        s₂ = rank_under v₂ x mode n t h₂ (O k (p / n)) (p % n + 1)

        same₂ : s₂ ≡ r₂
        same₂ = ap (λ (a : Place). rank_under v₂ x mode n t h₂ a (p % n + 1)) same

        is₁ : O (suc k) p ≡ place_under (O k (p / n)) r₁
        is₁ = step-place m x k mode n t e lv p in_p

        is₂ : N (suc k) p ≡ place_under (N k (p / n)) r₂
        is₂ = step-place (put m c) x k mode n t e' lv p in-p'

        go : (r₁ ≡ s₂) ⊎ Parts v₁ v₂ x h₁ h₂ r₁.events s₂.events → Claim (suc k) p
        go (inl q) = inl (is₁ ∙ ap₂ place_under same (q ∙ same₂) ∙ sym is₂)
        go (inr P) =
            let at : A P.old P.new = subst (λ (r : RankEvents). At r₁.events r.events P.old P.new) same₂ P.at in
            inr (parted P.apart
            (record {
              mode = mode;
              wanted = t;
              step = e;
              leaves-holes = lv;
              above = same;
              olds = r₁.events;
              news = r₂.events;
              old-is = ap (λ (a : Place). a.walk) is₁;
              new_is = ap (λ (a : Place). a.walk) is₂;
              at = at;
            }) at)

  -- the places of a select, where those of all working lists up to it are the same or traced
  each : (k n t : ℕ) (mode : Mode) → step_at m k ≡ Select mode n t → leaves mode ≡ true → ((l : ℕ) → l ≤ k → (q : ℕ) → Claim l q)
      → (l p : ℕ) → p < l → Claim (suc k) p
  each k n t mode e lv ups zero p h = absurd (omega arith)
  each k n t mode e lv ups (suc l) p h = go (λ q g. each k n t mode e lv ups l q (omega arith)) (dec_lt p (count (suc k)))
    where
      go : ((q : ℕ) → q < p → Claim (suc k) q) → Dec (p < count (suc k)) → Claim (suc k) p
      go earlier (yes g) = ⊎_elim (λ q. under k n t p mode e lv g ups earlier q) (λ q. inr (q.0, above e lv q.1)) (ups k (omega arith) (p / n))
      go earlier (no f) = inl (place-past m x (suc k) p (omega arith) ∙ sym (place-past (put m c) x (suc k) p (omega (arith, put_count m c ind x (suc k)))))

  -- one step more
  next : (k : ℕ) → ((l : ℕ) → l ≤ k → (q : ℕ) → Claim l q) → (p : ℕ) → Claim (suc k) p
  unfolding place_at not_first_n leaves
  next k ups p = go (step_at m k) refl (independent-at m ind k)
    where
      stay : (step_at m k ≡ Emit) ⊎ (step_at m k ≡ Idle) → Claim k p → Claim (suc k) p
      stay e (inl q) = inl (place-stays m x k e p ∙ q ∙ sym (place-stays (put m c) x k (put-stays m c k e) p))
      stay e (inr (cause, q)) = inr (cause, stays e q)

      go : (a : Action) → step_at m k ≡ a → not_first_n a ≡ true → Claim (suc k) p
      go (Take b) e i =
          inl (ap (λ (ps : List Place). get_or ps p nowhere) (working-take m x k b e ∙ sym (working-take (put m c) x k b (put_step m c k (Take b) e))))
      go (Select FirstN n t) e i = absurd (false≢true i)
      go (Select Independent n t) e i = each k n t Independent e refl ups (suc p) p (omega arith)
      go (Select Through n t) e i = each k n t Through e refl ups (suc p) p (omega arith)
      go Emit e i = stay (inl e) (ups k (omega arith) p)
      go Idle e i = stay (inr e) (ups k (omega arith) p)

  all-traced : (k l : ℕ) → l ≤ k → (p : ℕ) → Claim l p
  unfolding place_at working_at run_to
  all-traced zero l h p = let z : 0 ≡ l = omega arith in subst (λ (o : ℕ). Claim o p) z (inl refl)
  all-traced (suc k) l h p =
      ⊎_elim (λ (q : l ≡ suc k). subst (λ (o : ℕ). Claim o p) (sym q) (next k (all-traced k) p)) (λ (g : l < suc k). all-traced k l (omega arith) p)
      (eq-or-lt_of_le h)

-- every place is the same in both runs, entry and walk, or its cause is traced to the edited device
pub traced : (m : Map) (c : Option Change) → Loadable m → independent m ≡ true → fits m c ≡ true → (x k p : ℕ)
    → (place_at m x k p ≡ place_at (put m c) x k p) ⊎ ((cause : ℕ) × Traced m c x k p cause)
traced m c L ind f x k p = all-traced m c x L (put-loadable m c L f) (edited m c L f x) ind k k (omega arith) p
