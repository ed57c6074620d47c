-- Document 01, "Walk, select and rule": the working list of a group's run, step by step, and the places of a select that leaves holes, one by
-- one: each is made from the place above it, after the places before it. Assumes nothing.
use Rattle.std.specs.Prelude.{◌≡◌, Bool, cond, ◌||◌, ◌⊎◌, eqb, length, get_or, take, replicate, Option, None, Some}
use Rattle.std.proofs.Math.Path.{refl, sym, ap}
use Rattle.std.proofs.Common.{ap₂, ◌∙◌, inl, inr, ⊎_elim, eq-or-lt_of_le, add-suc, div-lt_iff_lt-mul, eqb-true, eq-eqb, length-append, take_at}
use Rattle.std.proofs.Math.Bool.{true, false}
use Rattle.std.proofs.lemmas.Bool.{false≢true}
use mathlib.Core.List.{List, [], ◌∷◌, ◌++◌, append-nil, append_assoc}
use Prim.Native.Nat.{ℕ, zero, suc, ◌+◌, ◌*◌, ◌/◌, ◌%◌, ◌<◌, ◌≤◌}
use Rattle.std.proofs.Math.Nat.{add-zero, mul-add-div_right, mul-add-mod_self_right, div-eq_of_lt, mod-eq_of_lt}
use Rattle.std.proofs.Math.Decide.{dec_lt}
use Rattle.std.proofs.Math.Numerals.{add-one}
use native.Mathlib.Omega.{arith}
use Rattle.std.proofs.Math.ListN.{get_or-append, get_or-eq_default}
use Rattle.std.proofs.lemmas.List.{get_or_at, take-append-le}
use Rattle.definitions.specs.declared.Mode.{Mode}
use Rattle.definitions.specs.declared.Mode.TheVariants.{FirstN, Independent, Through}
use Rattle.definitions.specs.declared.Action.{Action}
use Rattle.definitions.specs.declared.Action.TheVariants.{Take, Select, Emit, Idle}
use Rattle.definitions.specs.declared.Verdict.{Verdict}
use Rattle.definitions.specs.declared.Verdict.TheVariants.{Held, Rejected, Passed}
use Rattle.definitions.specs.declared.Event.{Event}
use Rattle.definitions.specs.declared.State.{State}
use Rattle.definitions.specs.Lists.{has}
use Rattle.definitions.specs.Map.{Map, bucket_number, actions_of}
use Rattle.definitions.specs.View.{View, view_of}
use Rattle.definitions.specs.Walk.{hole, RankEvents, descend, try_number, failed_to, retry_at, rank_start, rank_end, on_verdict, Trial, on_tried, tested, untested, onward, after_turn, on_turn, on_type, on_landed, on_descent, turn_of, rank_from, rank_by, test_of, rank_of}
use Rattle.definitions.specs.Select.{Place, Selected, entries_of, items_of, place_under, put_out, holes_under, nowhere, with_rank, next_rank, ranks_to, with_holes, select_at, select_to, select_of}
use Rattle.definitions.specs.Rule.{Run, taken, selected, act, run_to}
use Rattle.definitions.specs.Calls.{not_first_n, independent}
use Rattle.laws.specs.Lists.{every-at}

-- ---- a rank that leaves holes does not read f

-- "independent leaves a hole (ffff), first-n leaves out the place": the mode leaves a hole
unfoldable pub leaves : Mode → Bool
leaves FirstN = false
leaves Independent = true
leaves Through = true

-- one item, one entry and one list of events
abbrev Alike : RankEvents → RankEvents → Type 0
Alike a b = (a.ranked.item ≡ b.ranked.item) × (a.ranked.entry ≡ b.ranked.entry) × (a.events ≡ b.events)

module _ (v : View) (x : ℕ) (mode : Mode) (n t : ℕ) (test : ℕ → ℕ → Trial) (start r : ℕ) (lv : leaves mode ≡ true) where
  abbrev from : ℕ → State → RankEvents
  from = rank_from v x mode n t test start r

  abbrev at_with : ℕ → ℕ → ℕ → ℕ → State
  at_with a k f j = record { at = a; fr = k; f = f; inner = j }

  try-is : (a k f j : ℕ) → try_number mode n r (at_with a k f j) ≡ r + k * n
  unfolding try_number leaves
  try-is a k f j = go mode lv
    where
      go : (o : Mode) → leaves o ≡ true → try_number o n r (at_with a k f j) ≡ r + k * n
      go FirstN e = absurd (false≢true e)
      go Independent e = refl
      go Through e = refl

  -- after a turn
  landed-alike : (go : State → RankEvents) → ((a k f g j : ℕ) → Alike (go (at_with a k f j)) (go (at_with a k g j)))
      → (a k f g j q b : ℕ) (es : List Event) (d : Option ℕ)
      → Alike (on_turn go (at_with a k f j) (on_landed v x mode n t test start r (at_with a k f j) q b es d))
      (on_turn go (at_with a k g j) (on_landed v x mode n t test start r (at_with a k g j) q b es d))
  unfolding on_turn on_landed on_type untested tested on_tried on_verdict after_turn onward failed_to retry_at rank_end
  landed-alike go h a k f g j q b es None = let o = h start (k + 1) (f + 1) (g + 1) (j + 0) in (o.0, o.1, ap (λ l. es ++ l) o.2)
  landed-alike go h a k f g j q b es (Some i) = by-type (eqb (v.type i) t)
    where
      fails : (c m : ℕ) (fs : List Event) → Alike (onward fs (go (at_with c (k + 1) (f + 1) (j + m)))) (onward fs (go (at_with c (k + 1) (g + 1) (j + m))))
      fails c m fs = let o = h c (k + 1) (f + 1) (g + 1) (j + m) in (o.0, o.1, ap (λ l. fs ++ l) o.2)

      by-verdict : (w : Verdict) (e m : ℕ) (fs : List Event)
          → Alike (after_turn go (at_with a k f j) fs (on_verdict start (at_with a k f j) b i e m w)) (after_turn go (at_with a k g j) fs (on_verdict start (at_with a k g j) b i e m w))
      by-verdict Held e m fs = fails (retry_at start b (at_with a k f j)) m fs
      by-verdict Rejected e m fs = fails start m fs
      by-verdict Passed e m fs = (refl, refl, refl)

      by-type : (u : Bool) → Alike (on_turn go (at_with a k f j) (on_type v x mode n t test start r (at_with a k f j) q b es i u))
          (on_turn go (at_with a k g j) (on_type v x mode n t test start r (at_with a k g j) q b es i u))
      by-type true = let w = (test q i).tried in by-verdict w.verdict w.entry w.inner (es ++ (test q i).events)
      by-type false = fails start 0 es

  from-alike : (l a k f g j : ℕ) → Alike (from l (at_with a k f j)) (from l (at_with a k g j))
  unfolding rank_from rank_end turn_of on_descent
  from-alike zero a k f g j = (refl, refl, refl)
  from-alike (suc l) a k f g j =
      let q = r + k * n in
      let d = descend v x t q a in
      rw (try-is a k f j, try-is a k g j) (landed-alike (from l) (from-alike l) a k f g j q d.landed.bucket d.events d.landed.drawn)

  -- such a rank's item, entry and events are the same whatever f is as it starts
  rank-alike : (f g : ℕ) → Alike (rank_by v x mode n t test start r f) (rank_by v x mode n t test start r g)
  unfolding rank_by rank_start
  rank-alike f g = from-alike 50 start 0 f g 0

-- ---- the places of a select that leaves holes

-- what stands under a hole: a hole, with no event
abbrev pub no_rank : RankEvents
no_rank = record { ranked = record { item = hole; entry = hole; fr = 0; f = 0; inner = 0 }; events = [] }

-- what rank r makes under a place, in a select of this mode, count n and type t, these numbers being held so far; nothing under a hole
unfoldable pub rank_under : View → ℕ → Mode → ℕ → ℕ → List ℕ → Place → ℕ → RankEvents
rank_under v x mode n t held above r =
    cond (eqb above.entry hole) no_rank (rank_of v x mode n t held (bucket_number above.entry) r 0)

-- what a mode that leaves holes puts out
out_one : (mode : Mode) → leaves mode ≡ true → (p : Place) → put_out mode p ≡ p ∷ []
unfolding leaves put_out
out_one FirstN e p = absurd (false≢true e)
out_one Independent e p = refl
out_one Through e p = refl

holes-are : (mode : Mode) → leaves mode ≡ true → (n : ℕ) (above : Place) → holes_under mode n above ≡ replicate n (record { item = hole; entry = hole; walk = above.walk })
unfolding leaves holes_under
holes-are FirstN e n above = absurd (false≢true e)
holes-are Independent e n above = refl
holes-are Through e n above = refl

module _ (v : View) (x : ℕ) (mode : Mode) (n t : ℕ) (before : List ℕ) (working : List Place) where
  -- the place p that a select puts out over a working list, after the places ps of its own: under the place p / n, at rank p % n + 1
  unfoldable pub place_after : List Place → ℕ → Place
  place_after ps p =
      let above = get_or working (p / n) nowhere in
      place_under above (rank_under v x mode n t (before ++ items_of ps) above (p % n + 1))

  -- each place stands as it was put out after those before it
  abbrev Made : List Place → Type 0
  Made ps = (p : ℕ) → p < length ps → get_or ps p nowhere ≡ place_after (take p ps) p

  made_more : (ps : List Place) (a : Place) → a ≡ place_after ps (length ps) → Made ps → Made (ps ++ (a ∷ []))
  made_more ps a e made p h =
      ⊎_elim
      (λ (q : p ≡ length ps).
      get_or_at ps a [] nowhere p (sym q) ∙ e ∙ ap₂ place_after (sym (take_at ps (a ∷ []) p (sym q))) (sym q))
      (λ (l : p < length ps).
      get_or-append ps (a ∷ []) nowhere p l ∙ made p l ∙ ap (λ b. place_after b p) (sym (take-append-le p ps (a ∷ []) (omega arith))))
      (eq-or-lt_of_le (omega (arith, length-append ps (a ∷ []))))

  -- under the place k of the working list, at rank j + 1
  under-is : (ps : List Place) (k j : ℕ) → j < n
      → place_after ps (k * n + j) ≡ place_under (get_or working k nowhere) (rank_under v x mode n t (before ++ items_of ps) (get_or working k nowhere) (j + 1))
  unfolding place_after
  under-is ps k j h =
      let d : (k * n + j) / n ≡ k = mul-add-div_right (omega arith) k j ∙ rw (div-eq_of_lt h) (add-zero k) in
      let r : (k * n + j) % n ≡ j = mul-add-mod_self_right k n j ∙ mod-eq_of_lt h in
      rw (d, r)

  -- some places put out, each as it was made
  record Flat (k : ℕ) (ps : List Place) : Type 0 where
    count : length ps ≡ k
    made : Made ps

  flat-more : (k : ℕ) (ps : List Place) (a : Place) → Flat k ps → a ≡ place_after ps k → Flat (suc k) (ps ++ (a ∷ []))
  flat-more k ps a F e =
      record {
        count = length-append ps (a ∷ []) ∙ omega (arith, F.count);
        made = made_more ps a (e ∙ ap (place_after ps) (sym F.count)) F.made;
      }

  module _ (lv : leaves mode ≡ true) (k : ℕ) where
    abbrev up : Place
    up = get_or working k nowhere

    flat-ranks : (s : Selected) → eqb up.entry hole ≡ false → Flat (k * n) s.places → (j : ℕ) → j ≤ n
        → Flat (k * n + j) (ranks_to v x mode n t before up s j).places
    unfolding ranks_to next_rank with_rank place_under rank_under rank_of
    flat-ranks s e F zero h = rw (add-zero (k * n)) F
    flat-ranks s e F (suc j) h =
        let o = ranks_to v x mode n t before up s j in
        let q = rank-alike v x mode n t (test_of mode v x n (before ++ items_of o.places)) (bucket_number up.entry) (suc j) lv o.f 0 in
        rw (add-suc (k * n) j, out_one mode lv)
        (flat-more (k * n + j) o.places _ (flat-ranks s e F j (omega arith))
        ((λ i. record { item = q.0 i; entry = q.1 i; walk = up.walk ++ q.2 i }) ∙ sym (under-is o.places k j (omega arith) ∙ rw (e, add-one j))))

    flat-holes : eqb up.entry hole ≡ true → (j i : ℕ) (ps : List Place) → i + j ≤ n → Flat (k * n + i) ps
        → Flat (k * n + (i + j)) (ps ++ replicate j (record { item = hole; entry = hole; walk = up.walk }))
    unfolding place_under rank_under
    flat-holes e zero i ps h F = rw (append-nil ps, add-zero i) F
    flat-holes e (suc j) i ps h F =
        let a : Place = record { item = hole; entry = hole; walk = up.walk } in
        let q : i + suc j ≡ suc i + j = omega arith in
        rw (← append_assoc ps (a ∷ []) (replicate j a), q)
        (flat-holes e j (suc i) (ps ++ (a ∷ [])) (omega arith)
        (rw (add-suc (k * n) i)
        (flat-more (k * n + i) ps a F ((λ l. record { item = hole; entry = hole; walk = sym (append-nil up.walk) l }) ∙ sym (under-is ps k i (omega arith) ∙ rw e)))))

    flat-at : (s : Selected) → Flat (k * n) s.places → (b : Bool) → eqb up.entry hole ≡ b
        → Flat (suc k * n) (select_at v x mode n t before up s b).places
    unfolding select_at with_holes
    flat-at s F true e = let q : k * n + (0 + n) ≡ suc k * n = omega arith in rw (← q, holes-are mode lv) (flat-holes e n 0 s.places (omega arith) (rw (add-zero (k * n)) F))
    flat-at s F false e = let q : k * n + n ≡ suc k * n = omega arith in rw (← q) (flat-ranks s e F n (omega arith))

  flat-to : leaves mode ≡ true → (k : ℕ) → Flat (k * n) (select_to v x mode n t before working k).places
  unfolding select_to
  flat-to lv zero = record { count = omega arith; made = λ p h. absurd (omega arith) }
  flat-to lv (suc k) = flat-at lv k (select_to v x mode n t before working k) (flat-to lv k) (eqb (get_or working k nowhere).entry hole) refl

  -- a select puts out n places for each of the working list
  pub select-count : leaves mode ≡ true → length (select_of v x mode n t before working).places ≡ length working * n
  unfolding select_of
  select-count lv = (flat-to lv (length working)).count

  -- each of them as it was made after those before it
  pub select-place : leaves mode ≡ true → (p : ℕ) → p < length working * n
      → get_or (select_of v x mode n t before working).places p nowhere ≡ place_after (take p (select_of v x mode n t before working).places) p
  unfolding select_of
  select-place lv p h = (flat-to lv (length working)).made p (rw (flat-to lv (length working)).count h)

-- ---- held items

-- a held item is the item of an earlier place
pub held-at : (ps : List Place) (p i : ℕ) → has i (items_of (take p ps)) ≡ true → (q : ℕ) × (q < p) × (q < length ps) × ((get_or ps q nowhere).item ≡ i)
unfolding has items_of
held-at [] zero i e = absurd (false≢true e)
held-at [] (suc p) i e = absurd (false≢true e)
held-at (a ∷ ps) zero i e = absurd (false≢true e)
held-at (a ∷ ps) (suc p) i e = go (eqb a.item i) refl e (held-at ps p i)
  where
    go : (b : Bool) → eqb a.item i ≡ b → b || has i (items_of (take p ps)) ≡ true
        → (has i (items_of (take p ps)) ≡ true → (q : ℕ) × (q < p) × (q < length ps) × ((get_or ps q nowhere).item ≡ i))
        → (q : ℕ) × (q < suc p) × (q < suc (length ps)) × ((get_or (a ∷ ps) q nowhere).item ≡ i)
    go true h f rest = (0, omega arith, omega arith, eqb-true a.item i h)
    go false h f rest = let (q, k, l, r) = rest f in (suc q, omega arith, omega arith, r)

-- an item that is not held is the item of none
pub not-held : (ps : List Place) (p i q : ℕ) → has i (items_of (take p ps)) ≡ false → q < p → q < length ps → (get_or ps q nowhere).item ≡ i → ⊥
unfolding has items_of
not-held [] p i q e h l f = omega arith
not-held (a ∷ ps) zero i q e h l f = omega arith
not-held (a ∷ ps) (suc p) i zero e h l f = false≢true (sym e ∙ rw (eq-eqb a.item i f))
not-held (a ∷ ps) (suc p) i (suc q) e h l f = go (eqb a.item i) e (λ g. not-held ps p i q g (omega arith) (omega arith) f)
  where
    go : (b : Bool) → b || has i (items_of (take p ps)) ≡ false → (has i (items_of (take p ps)) ≡ false → ⊥) → ⊥
    go true g rest = false≢true (sym g)
    go false g rest = rest g

-- ---- runs

-- step k of the rule, from 0
abbrev pub step_at : Map → ℕ → Action
step_at m k = get_or (actions_of m) k Idle

-- the run of group x after the first k steps
abbrev pub run_at : Map → ℕ → ℕ → Run
run_at m x k = run_to (view_of m) x (actions_of m) k

-- its working list
unfoldable pub working_at : Map → ℕ → ℕ → List Place
working_at m x k = (run_at m x k).working

-- what it has emitted
unfoldable pub list_at : Map → ℕ → ℕ → List Place
list_at m x k = (run_at m x k).list

-- and the place p of the working list
unfoldable pub place_at : Map → ℕ → ℕ → ℕ → Place
place_at m x k p = get_or (working_at m x k) p nowhere

module _ (m : Map) (x k : ℕ) where
  -- one step more
  pub run_step : (a : Action) → step_at m k ≡ a → run_at m x (suc k) ≡ act (view_of m) x (run_at m x k) a
  unfolding run_to
  run_step a e = ap (act (view_of m) x (run_at m x k)) e

  -- a take
  pub working-take : (b : ℕ) → step_at m k ≡ Take b → working_at m x (suc k) ≡ taken b
  unfolding working_at act
  working-take b e = ap (λ (s : Run). s.working) (run_step (Take b) e)

  -- a select
  pub working-select : (mode : Mode) (n t : ℕ) → step_at m k ≡ Select mode n t
      → working_at m x (suc k) ≡ (select_of (view_of m) x mode n t (entries_of (list_at m x k)) (working_at m x k)).places
  unfolding working_at list_at act selected
  working-select mode n t e = ap (λ (s : Run). s.working) (run_step (Select mode n t) e)

  -- an emit, or no step at all, leaves the working list
  pub working-stays : (step_at m k ≡ Emit) ⊎ (step_at m k ≡ Idle) → working_at m x (suc k) ≡ working_at m x k
  unfolding working_at act
  working-stays (inl e) = ap (λ (s : Run). s.working) (run_step Emit e)
  working-stays (inr e) = ap (λ (s : Run). s.working) (run_step Idle e)

  -- and so its places
  pub place-stays : (step_at m k ≡ Emit) ⊎ (step_at m k ≡ Idle) → (p : ℕ) → place_at m x (suc k) p ≡ place_at m x k p
  unfolding place_at
  place-stays e p = rw (working-stays e)

  module _ (mode : Mode) (n t : ℕ) (e : step_at m k ≡ Select mode n t) (lv : leaves mode ≡ true) where
    -- after a select that leaves holes the working list has n times the length
    pub step_count : length (working_at m x (suc k)) ≡ length (working_at m x k) * n
    step_count = rw (working-select mode n t e) (select-count (view_of m) x mode n t (entries_of (list_at m x k)) (working_at m x k) lv)

    -- and its place p is made under the place p / n before it, at rank p % n + 1; held are the entries emitted so far and the items of the
    -- first p places
    pub step-place : (p : ℕ) → p < length (working_at m x (suc k))
        → let up = place_at m x k (p / n) in
        place_at m x (suc k) p ≡ place_under up (rank_under (view_of m) x mode n t (entries_of (list_at m x k) ++ items_of (take p (working_at m x (suc k)))) up (p % n + 1))
    unfolding place_at place_after
    step-place p h = rw (working-select mode n t e) (select-place (view_of m) x mode n t (entries_of (list_at m x k)) (working_at m x k) lv p (omega (arith, step_count)))

    -- a place stands under one of the working list before it
    pub step-above : (p : ℕ) → p < length (working_at m x (suc k)) → p / n < length (working_at m x k)
    step-above p h = go n step_count
      where
        go : (o : ℕ) → length (working_at m x (suc k)) ≡ length (working_at m x k) * o → p / o < length (working_at m x k)
        go zero q = absurd (omega arith)
        go (suc o) q = (div-lt_iff_lt-mul {k = suc o} {x = p} {y = length (working_at m x k)} (omega arith)).1 (omega arith)

  -- past the end of the working list there is no place
  pub place-past : (p : ℕ) → length (working_at m x k) ≤ p → place_at m x k p ≡ nowhere
  unfolding place_at
  place-past p h = get_or-eq_default (working_at m x k) nowhere h

-- in a rule that 17 admits no step is a first-n select
pub independent-at : (m : Map) → independent m ≡ true → (k : ℕ) → not_first_n (step_at m k) ≡ true
unfolding independent not_first_n
independent-at m e k = go (dec_lt k (length (actions_of m)))
  where
    go : Dec (k < length (actions_of m)) → not_first_n (step_at m k) ≡ true
    go (yes h) = every-at not_first_n (actions_of m) k Idle e h
    go (no h) = rw (get_or-eq_default (actions_of m) Idle {n = k} (omega arith))

-- the same rule has the same steps
pub steps-same : (m m' : Map) → actions_of m' ≡ actions_of m → (k : ℕ) → step_at m' k ≡ step_at m k
steps-same m m' same k = ap (λ (l : List Action). get_or l k Idle) same

-- the working list's length goes by the steps alone
pub count_same : (m m' : Map) → actions_of m' ≡ actions_of m → independent m ≡ true → (x y k : ℕ) → length (working_at m x k) ≡ length (working_at m' y k)
unfolding working_at run_to not_first_n leaves
count_same m m' same ind x y zero = refl
count_same m m' same ind x y (suc k) = go (step_at m k) refl (independent-at m ind k) (count_same m m' same ind x y k)
  where
    here : step_at m' k ≡ step_at m k
    here = steps-same m m' same k

    go : (a : Action) → step_at m k ≡ a → not_first_n a ≡ true → length (working_at m x k) ≡ length (working_at m' y k)
        → length (working_at m x (suc k)) ≡ length (working_at m' y (suc k))
    go (Take b) e i r = rw (working-take m x k b e, working-take m' y k b (here ∙ e))
    go (Select FirstN n t) e i r = absurd (false≢true i)
    go (Select Independent n t) e i r = step_count m x k Independent n t e refl ∙ rw (r) (sym (step_count m' y k Independent n t (here ∙ e) refl))
    go (Select Through n t) e i r = step_count m x k Through n t e refl ∙ rw (r) (sym (step_count m' y k Through n t (here ∙ e) refl))
    go Emit e i r = rw (working-stays m x k (inl e), working-stays m' y k (inl (here ∙ e))) r
    go Idle e i r = rw (working-stays m x k (inr e), working-stays m' y k (inr (here ∙ e))) r
