-- The cause of a place that a select puts out, from the cause of the place above it. Assumes nothing.
use Rattle.definitions.specs.declared.Parting.{Parting}
use Rattle.definitions.specs.declared.Ranked.{Ranked}
use Rattle.std.specs.Prelude.{◌≡◌, List, ◌++◌, ℕ, ◌+◌, ◌/◌, ◌%◌, ◌<◌, length, get_or, take, drop, set, Result, Ok, Err}
use Rattle.std.specs.Result.{result_err}
use Rattle.std.proofs.Math.Path.{refl}
use Rattle.std.proofs.Common.{sym, ap, ◌∙◌, inr, eq-or-lt_of_le, arith, get_or-set_other}
use Rattle.std.proofs.Math.Bool.{true, false}
use Rattle.std.proofs.Math.Logic.{inl, ⊎_elim}
use borrow.Author.Tests.{eq-eqb, ne_eqb}
use Rattle.std.proofs.Math.Dec.{eqb}
use Rattle.std.proofs.Math.Seq.{get_or-set_same, take-add}
use Rattle.definitions.specs.declared.Mode.{Mode}
use Rattle.definitions.specs.Map.{bucket_number}
use Rattle.definitions.specs.View.{View}
use Rattle.definitions.specs.Walk.{hole, RankEvents, rank_of}
use Rattle.definitions.specs.Select.{Place, place_under}
use Rattle.definitions.specs.Edit.{cause_of}
use Rattle.tracing.specs.Runs.{rank_under}
use Rattle.lockstep.specs.Parts.{parts-after}
use Rattle.lockstep.specs.Lockstep.{Ranks}
use Rattle.causes.specs.Told.{Told, told_same, told_under}

-- c is the cause of what rank r makes under a place of cause above and old entry e, these numbers being held so far
unfoldable pub TellsUnder : View → View → ℕ → Mode → ℕ → ℕ → List ℕ → List ℕ → ℕ → ℕ → ℕ → ℕ → Type 0
TellsUnder v v' x mode n t held held' above e r c =
    (a b : Place) → Told above a b → a.entry ≡ e
    → Told c (place_under a (rank_under v x mode n t held a r)) (place_under b (rank_under v' x mode n t held' b r))

-- of the places of a select the first k have their causes in cs: before it each run has emitted its list, olds and news are the items that it
-- holds, `working` the entries of the working list in the old run, and above the causes of its places
unfoldable pub TellsTo : View → View → ℕ → Mode → ℕ → ℕ → List ℕ → List ℕ → List ℕ → List ℕ → List ℕ → List ℕ → ℕ → List ℕ → Type 0
TellsTo v v' x mode n t list list' olds news above working k cs =
    (p : ℕ) → p < k
    → TellsUnder v v' x mode n t (list ++ take p olds) (list' ++ take p news) (get_or above (p / n) 0) (get_or working (p / n) 0) (p % n + 1) (get_or cs p 0)

-- the cause that follows from what two ranks come to
abbrev pub course_cause : Result Ranked Parting → ℕ
course_cause k = cause_of (result_err k)

-- two ranks under one place
ranks-told : (c : Result Ranked Parting) (a : Place) (k k' : RankEvents) → Ranks c k k' → Told (course_cause c) (place_under a k) (place_under a k')
unfolding place_under cause_of
ranks-told (Err p) a k k' h = inr (p, parts-after a.walk h, refl)
ranks-told (Ok r) a k k' (e, z) = inl (ap (place_under a) e, refl)

module _ (v v' : View) (x : ℕ) (mode : Mode) (n t : ℕ) where
  -- ---- one place

  module _ (held held' : List ℕ) (above e r : ℕ) where
    abbrev Tells : ℕ → Type 0
    Tells = TellsUnder v v' x mode n t held held' above e r

    pub tells-above : (above ≡ 0 → ⊥) → Tells above
    unfolding TellsUnder
    tells-above h a b told q = told_under above a b _ _ told h

    pub tells-hole : above ≡ 0 → e ≡ hole → Tells 0
    unfolding TellsUnder rank_under
    tells-hole z h a b told q =
        let s = told_same above a b told z in
        let u : eqb a.entry hole ≡ true = eq-eqb a.entry hole (q ∙ h) in
        inl (rw (← s, u) refl, refl)

    -- the two ranks under one bucket
    pub tells-rank : above ≡ 0 → (e ≡ hole → ⊥) → (start : ℕ) (c : Result Ranked Parting) → start ≡ bucket_number e
        → Ranks c (rank_of v x mode n t held start r 0) (rank_of v' x mode n t held' start r 0) → Tells (course_cause c)
    unfolding TellsUnder rank_under place_under
    tells-rank z h start c g f a b told q =
        let s = told_same above a b told z in
        let u : eqb a.entry hole ≡ false = ne_eqb a.entry hole (λ k. h (sym q ∙ k)) in
        rw (← s, u, q) (ranks-told c a _ _ (rw g at f))

  -- ---- a loop over the places, by arrays that have what each run holds before place p: the first a + p and a' + p numbers

  module _ (held held' above working : List ℕ) (a a' : ℕ) where
    pub tells_none : (cs : List ℕ) → TellsTo v v' x mode n t (take a held) (take a' held') (drop a held) (drop a' held') above working 0 cs
    unfolding TellsTo
    tells_none cs p h = absurd (omega arith)

    pub tells_more : (k : ℕ) (cs : List ℕ) (c : ℕ) → k < length cs → TellsTo v v' x mode n t (take a held) (take a' held') (drop a held) (drop a' held') above working k cs
        → TellsUnder v v' x mode n t (take (a + k) held) (take (a' + k) held') (get_or above (k / n) 0) (get_or working (k / n) 0) (k % n + 1) c
        → TellsTo v v' x mode n t (take a held) (take a' held') (drop a held) (drop a' held') above working (k + 1) (set cs k c)
    unfolding TellsTo
    tells_more k cs c h so one p l =
        ⊎_elim
        (λ (q : p ≡ k). rw (q, get_or-set_same cs k c 0 h, ← take-add a k held, ← take-add a' k held') one)
        (λ (q : p < k). rw (get_or-set_other cs k p c 0 (λ e. omega (arith, e))) (so p q))
        (eq-or-lt_of_le (omega arith))

    -- all of them
    pub tells-to : (list list' olds news cs : List ℕ) {k l : ℕ} → k ≡ l → ((p : ℕ) → p < l → take (a + p) held ≡ list ++ take p olds)
        → ((p : ℕ) → p < l → take (a' + p) held' ≡ list' ++ take p news) → TellsTo v v' x mode n t (take a held) (take a' held') (drop a held) (drop a' held') above working k cs
        → TellsTo v v' x mode n t list list' olds news above working l cs
    unfolding TellsTo
    tells-to list list' olds news cs e q q' so p h = rw (← q p h, ← q' p h, take-add a p held, take-add a' p held') (so p (omega (arith, e, h)))
