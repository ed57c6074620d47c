-- Document 01, "Table, edits, moves": the cause that is traced is the one that the definitions give of the place's two walks. Assumes
-- nothing.
use Rattle.std.specs.Prelude.{◌≡◌, refl, true, false, List, [], ◌∷◌, ◌++◌, ◌⊎◌, ℕ, suc, ◌/◌, ◌<◌, length, Option, None, Some}
use Rattle.std.proofs.Common.{sym, ap, ◌∙◌, append-nil, inl, inr, arith, eq-eqb, ne_eqb}
use Rattle.definitions.specs.declared.Mode.{Mode}
use Rattle.definitions.specs.declared.Action.TheVariants.{Select, Emit, Idle}
use Rattle.definitions.specs.declared.Verdict.{Verdict}
use Rattle.definitions.specs.declared.Verdict.TheVariants.{Held, Rejected, Passed}
use Rattle.definitions.specs.declared.Event.{Event}
use Rattle.definitions.specs.declared.Event.TheVariants.{Drew, Tested}
use Rattle.definitions.specs.declared.Parting.{Parting}
use Rattle.definitions.specs.declared.Parting.TheVariants.{Test}
use Rattle.definitions.specs.declared.Change.{Change}
use Rattle.definitions.specs.Map.{Map}
use Rattle.definitions.specs.Select.{Place, place_under}
use Rattle.definitions.specs.Edit.{put, same_drawn, same_verdict, ends_of, or_else, parting, is_held, cause_of}
use Rattle.definitions.specs.Calls.{independent}
use Rattle.tracing.specs.Runs.{leaves, step_at, working_at, place_at, working-stays, step-place, step-above, place-stays}
use Rattle.tracing.specs.Parting.{At, at_after, at_before, at-no-prefix}
use Rattle.tracing.specs.Edited.{put_step, put-stays, put_count}
use Rattle.tracing.specs.Traced.{Here, Traced, above, stays, accept, drawn, held-old, held_new}

-- ---- the ends of two events

same-drawn : (y : Option ℕ) → same_drawn y y ≡ true
unfolding same_drawn
same-drawn None = refl
same-drawn (Some i) = eq-eqb i i refl

drawn-differ : (y z : Option ℕ) → (y ≡ z → ⊥) → same_drawn y z ≡ false
unfolding same_drawn
drawn-differ None None f = absurd (f refl)
drawn-differ None (Some j) f = refl
drawn-differ (Some i) None f = refl
drawn-differ (Some i) (Some j) f = ne_eqb i j (λ e. f (ap Some e))

same-verdict : (u : Verdict) → same_verdict u u ≡ true
unfolding same_verdict
same-verdict Held = refl
same-verdict Rejected = refl
same-verdict Passed = refl

-- an event ends as itself
ends-self : (e : Event) → ends_of e e ≡ None
unfolding ends_of
ends-self (Drew b r y) = rw (same-drawn y)
ends-self (Tested i u) = rw (same-verdict u)

-- ---- where two walks part

-- a walk parts nowhere from itself
pub parting-self : (es : List Event) → parting es es ≡ None
unfolding parting or_else
parting-self [] = refl
parting-self (e ∷ es) = rw (ends-self e) (parting-self es)

-- walks that are the same before two events with different ends part there
pub parting-at : (b es fs : List Event) (e f : Event) → (ends_of e f ≡ None → ⊥) → parting (b ++ e ∷ es) (b ++ f ∷ fs) ≡ ends_of e f
unfolding parting or_else
parting-at [] es fs e f d = go (ends_of e f) d
  where
    go : (p : Option Parting) → (p ≡ None → ⊥) → or_else p (parting es fs) ≡ p
    go None g = absurd (g refl)
    go (Some q) g = refl
parting-at (a ∷ b) es fs e f d = rw (ends-self a) (parting-at b es fs e f d)

-- two events of one kind: a draw at one bucket and r', or a test of one item
pub data OneKind : Event → Event → Type 0 where
  draws : {b r : ℕ} {y z : Option ℕ} → OneKind (Drew b r y) (Drew b r z)
  tests : {i : ℕ} {u w : Verdict} → OneKind (Tested i u) (Tested i w)

-- two walks that part at events of one kind whose ends differ, with this cause
pub record Caused (es fs : List Event) (cause : ℕ) : Type 0 where
  pub e : Event
  pub f : Event
  pub kind : OneKind e f
  pub at : At es fs e f
  pub parts : ends_of e f ≡ None → ⊥
  pub is : cause_of (ends_of e f) ≡ cause

-- the parting of two walks is that of the ends where they part
parting-is : {es fs : List Event} {cause : ℕ} (k : Caused es fs cause) → parting es fs ≡ ends_of k.e k.f
parting-is k =
    rw (k.at.old-is, k.at.new_is) (parting-at k.at.before k.at.old-rest k.at.new-rest k.e k.f k.parts)

-- the definitions give such walks this cause
pub caused : {es fs : List Event} {cause : ℕ} → Caused es fs cause → cause_of (parting es fs) ≡ cause
caused k = ap cause_of (parting-is k) ∙ k.is

-- neither of them is a beginning of the other
pub caused-no-prefix : {es fs : List Event} {cause : ℕ} → Caused es fs cause → (y : List Event) → (fs ≡ es ++ y → ⊥) × (es ≡ fs ++ y → ⊥)
caused-no-prefix k y = at-no-prefix k.at (λ q. k.parts (ap (ends_of k.e) (sym q) ∙ ends-self k.e)) y

-- and they are not the same
pub caused-differ : {es fs : List Event} {cause : ℕ} → Caused es fs cause → es ≡ fs → ⊥
caused-differ {es} k q = (caused-no-prefix k []).0 (sym q ∙ sym (append-nil es))

-- ---- the cause of each kind of parting

draw-cause : {es fs : List Event} {b r : ℕ} {y z : Option ℕ} → At es fs (Drew b r y) (Drew b r z) → (y ≡ z → ⊥) → Caused es fs 2
unfolding ends_of cause_of
draw-cause {b} {r} {y} {z} a f =
    record { e = Drew b r y; f = Drew b r z; kind = draws; at = a; parts = rw (drawn-differ y z f) (λ q. let o : ◌≡◌ {A = ℕ} 0 1 = cc in omega arith); is = rw (drawn-differ y z f) }

test-cause : {es fs : List Event} {i cause : ℕ} (u w : Verdict) → same_verdict u w ≡ false → cause_of (Some (Test u w)) ≡ cause
    → At es fs (Tested i u) (Tested i w) → Caused es fs cause
unfolding ends_of
test-cause {i} u w d q a =
    record { e = Tested i u; f = Tested i w; kind = tests; at = a; parts = rw d (λ o. let z : ◌≡◌ {A = ℕ} 0 1 = cc in omega arith); is = rw d q }

held-cause : {es fs : List Event} {i : ℕ} (w : Verdict) → (w ≡ Held → ⊥) → At es fs (Tested i Held) (Tested i w) → Caused es fs 3
unfolding cause_of is_held same_verdict
held-cause Held f a = absurd (f refl)
held-cause Rejected f a = test-cause Held Rejected refl refl a
held-cause Passed f a = test-cause Held Passed refl refl a

cause-held : {es fs : List Event} {i : ℕ} (u : Verdict) → (u ≡ Held → ⊥) → At es fs (Tested i u) (Tested i Held) → Caused es fs 3
unfolding cause_of is_held same_verdict
cause-held Held f a = absurd (f refl)
cause-held Rejected f a = test-cause Rejected Held refl refl a
cause-held Passed f a = test-cause Passed Held refl refl a

accept-cause : {es fs : List Event} {i : ℕ} {u w : Verdict} → ((u ≡ Passed) × (w ≡ Rejected)) ⊎ ((u ≡ Rejected) × (w ≡ Passed))
    → At es fs (Tested i u) (Tested i w) → Caused es fs 1
unfolding cause_of is_held same_verdict
accept-cause (inl (p, q)) a = test-cause Passed Rejected refl refl (rw (p, q) at a)
accept-cause (inr (p, q)) a = test-cause Rejected Passed refl refl (rw (p, q) at a)

-- ---- the cause of a place

caused-before : {es fs : List Event} {cause : ℕ} (y z : List Event) → Caused es fs cause → Caused (es ++ y) (fs ++ z) cause
caused-before y z k = record { e = k.e; f = k.f; kind = k.kind; at = at_before y z k.at; parts = k.parts; is = k.is }

-- the walk of a place begins with that of the place above
begins-above : (m : Map) (x k : ℕ) (mode : Mode) (n t p : ℕ) → step_at m k ≡ Select mode n t → leaves mode ≡ true → p < length (working_at m x (suc k))
    → (es : List Event) × ((place_at m x (suc k) p).walk ≡ (place_at m x k (p / n)).walk ++ es)
unfolding place_under
begins-above m x k mode n t p e lv l = (_, ap (λ (a : Place). a.walk) (step-place m x k mode n t e lv p l))

module _ (m : Map) (c : Option Change) (x : ℕ) where
  -- where the walks part in a place's own select, they part
  here-at : {k p n : ℕ} {e f : Event} → Here m c x k p n e f → At (place_at m x (suc k) p).walk (place_at (put m c) x (suc k) p).walk e f
  here-at {k} {p} {n} h =
      rw (h.old-is, h.new_is, ← h.above) (at_after (place_at m x k (p / n)).walk h.at)

  abbrev At-place : ℕ → ℕ → ℕ → Type 0
  At-place k p cause = Caused (place_at m x k p).walk (place_at (put m c) x k p).walk cause

  cause-above : independent m ≡ true → (k p n t cause : ℕ) (mode : Mode) → step_at m k ≡ Select mode n t → leaves mode ≡ true → p < length (working_at m x (suc k))
      → At-place k (p / n) cause → At-place (suc k) p cause
  cause-above ind k p n t cause mode e lv l q =
      let y = begins-above m x k mode n t p e lv l in
      let z = begins-above (put m c) x k mode n t p (put_step m c k (Select mode n t) e) lv (omega (arith, put_count m c ind x (suc k))) in
      rw (y.1, z.1) (caused-before y.0 z.0 q)

  cause-stays : (k p cause : ℕ) → (step_at m k ≡ Emit) ⊎ (step_at m k ≡ Idle) → At-place k p cause → At-place (suc k) p cause
  cause-stays k p cause e q = rw (place-stays m x k e p, place-stays (put m c) x k (put-stays m c k e) p) q

  count-stays : (k p : ℕ) → (step_at m k ≡ Emit) ⊎ (step_at m k ≡ Idle) → p < length (working_at m x (suc k)) → p < length (working_at m x k)
  count-stays k p e l = rw (working-stays m x k e) at l

  -- the walks of a place whose cause is traced part, with that cause
  pub cause-is : independent m ≡ true → {k p cause : ℕ} → Traced m c x k p cause → p < length (working_at m x k)
      → Caused (place_at m x k p).walk (place_at (put m c) x k p).walk cause
  cause-is ind (above {k} {p} {n} {t} {cause} {mode} e lv q) l = cause-above ind k p n t cause mode e lv l (cause-is ind q (step-above m x k mode n t e lv p l))
  cause-is ind (stays {k} {p} {cause} e q) l = cause-stays k p cause e (cause-is ind q (count-stays k p e l))
  cause-is ind (accept e h w j) l = accept-cause w (here-at h)
  cause-is ind (drawn h f w) l = draw-cause (here-at h) f
  cause-is ind (held-old {w} h f o g q) l = held-cause w f (here-at h)
  cause-is ind (held_new {u} h f o g q) l = cause-held u f (here-at h)

  -- so the cause that is traced is the definitions'
  pub traced-cause : independent m ≡ true → {k p cause : ℕ} → Traced m c x k p cause → p < length (working_at m x k)
      → cause_of (parting (place_at m x k p).walk (place_at (put m c) x k p).walk) ≡ cause
  traced-cause ind q l = caused (cause-is ind q l)

  -- a place that is the same in both runs has none
  pub same-cause : (k p : ℕ) → place_at m x k p ≡ place_at (put m c) x k p → cause_of (parting (place_at m x k p).walk (place_at (put m c) x k p).walk) ≡ 0
  unfolding cause_of
  same-cause k p e = rw (← e, parting-self (place_at m x k p).walk)
