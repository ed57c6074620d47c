-- Document 01, "Table, edits, moves": when the cause of a place's change is traced to the edited device. (Every place of every select is the
-- same in the old run and in the new, or its cause is so traced: `traced` of proofs/Traced.antt.) Assumes nothing.
use Rattle.std.specs.Prelude.{◌≡◌, Bool, cond, ◌⊎◌, Option, Some}
use Rattle.std.proofs.Math.Path.{refl, sym}
use Rattle.std.proofs.Common.{◌∙◌}
use Rattle.std.proofs.Math.Bool.{true}
use mathlib.Core.List.Memᴰ
use mathlib.Core.List.{List, ◌++◌, Memᴰ}
use Rattle.std.proofs.Math.Logic.{inl, inr}
use Prim.Native.Nat.{ℕ, suc, ◌/◌, ◌≤◌}
use native.Mathlib.Omega.{arith}
use Rattle.definitions.specs.declared.Mode.{Mode}
use Rattle.definitions.specs.declared.Action.TheVariants.{Select, Emit, Idle}
use Rattle.definitions.specs.declared.Verdict.{Verdict}
use Rattle.definitions.specs.declared.Verdict.TheVariants.{Held, Rejected, Passed}
use Rattle.definitions.specs.declared.Event.{Event}
use Rattle.definitions.specs.declared.Event.TheVariants.{Drew, Tested}
use Rattle.definitions.specs.declared.Change.{Change}
use Rattle.definitions.specs.declared.Change.TheVariants.{Acceptance, Weight}
use Rattle.definitions.specs.Map.{Map, is_bucket}
use Rattle.definitions.specs.View.{view_of}
use Rattle.definitions.specs.Walk.{accepted}
use Rattle.definitions.specs.Select.{Place}
use Rattle.definitions.specs.Edit.{put}
use Rattle.tracing.specs.Runs.{leaves, step_at, place_at}
use Rattle.tracing.specs.Held.{Before, OnlyAt, Nowhere, held_of}
use Rattle.tracing.specs.Parting.{At}
use Rattle.tracing.specs.Edited.{Won, won-edit}

-- how the test of a device that nothing holds ends
abbrev pub judge : Bool → Verdict
judge b = cond b Passed Rejected

-- an edit c of map m, and the group x
module _ (m : Map) (c : Option Change) (x : ℕ) where
  -- place p of the working list after k steps, on the map before the edit
  abbrev pub old : ℕ → ℕ → Place
  old k p = place_at m x k p

  -- and on the map after it
  abbrev pub new : ℕ → ℕ → Place
  new k p = place_at (put m c) x k p

  -- step k is a select of count n that leaves holes; the place above place p is the same in both runs; and the walks of place p part in its
  -- own select, at e in the old run and at f in the new
  pub record Here (k p n : ℕ) (e f : Event) : Type 0 where
    pub mode : Mode
    pub wanted : ℕ
    pub step : step_at m k ≡ Select mode n wanted
    pub leaves-holes : leaves mode ≡ true
    pub above : old k (p / n) ≡ new k (p / n)
    pub olds : List Event
    pub news : List Event
    pub old-is : (old (suc k) p).walk ≡ (old k (p / n)).walk ++ olds
    pub new_is : (new (suc k) p).walk ≡ (new k (p / n)).walk ++ news
    pub at : At olds news e f

  -- the cause of place p of the working list after k steps is traced to the edited device
  pub data Traced : ℕ → ℕ → ℕ → Type 0 where
    -- its walks part in a select above: those of the place p / n, under which it stands, do
    above : {k p n t cause : ℕ} {mode : Mode} → step_at m k ≡ Select mode n t → leaves mode ≡ true → Traced k (p / n) cause → Traced (suc k) p cause
    -- an emit, or no step at all, leaves the working list as it is
    stays : {k p cause : ℕ} → (step_at m k ≡ Emit) ⊎ (step_at m k ≡ Idle) → Traced k p cause → Traced (suc k) p cause
    -- 01: after an edit of its acceptance, device d passed acceptance in one run only, as `accepted` says of each
    accept : {k p n d a : ℕ} {u w : Verdict} → c ≡ Some (Acceptance d a) → Here k p n (Tested d u) (Tested d w)
        → ((u ≡ Passed) × (w ≡ Rejected)) ⊎ ((u ≡ Rejected) × (w ≡ Passed))
        → (u ≡ judge (accepted (view_of m) x d)) × (w ≡ judge (accepted (view_of (put m c)) x d)) → Traced (suc k) p 1
    -- 02: after an edit of weight, the draws differ, as `Won` says: in a straw bucket the winner where the device weighs more is the child
    -- that is or holds it; in a tree that run turns to its side, or alone finds a child
    drawn : {k p n b r : ℕ} {y z : Option ℕ} → Here k p n (Drew b r y) (Drew b r z) → (y ≡ z → ⊥) → Won m c x r b y z → Traced (suc k) p 2
    -- 03: the item was held in the old run only: of the places before where it is looked for, one alone holds it there and none in the new
    -- run, and the cause of that one is traced
    held-old : {k p n l q i cause : ℕ} {w : Verdict} → Here k p n (Tested i Held) (Tested i w) → (w ≡ Held → ⊥)
        → OnlyAt m x old k p i l q → Nowhere m x new k p i → Traced l q cause → Traced (suc k) p 3
    -- 03: the same with the runs exchanged
    held_new : {k p n l q i cause : ℕ} {u : Verdict} → Here k p n (Tested i u) (Tested i Held) → (u ≡ Held → ⊥)
        → OnlyAt m x new k p i l q → Nowhere m x old k p i → Traced l q cause → Traced (suc k) p 3

-- where two walks part at the tests of an item, each has one
pub at_old : {es fs : List Event} {e f : Event} → At es fs e f → Memᴰ e es
at_old {e} a = rw a.old-is (Memᴰ.append_right a.before (Memᴰ.head refl))

pub at_new : {es fs : List Event} {e f : Event} → At es fs e f → Memᴰ f fs
at_new a = rw a.new_is (Memᴰ.append_right a.before (Memᴰ.head refl))

module _ (m : Map) (c : Option Change) (x : ℕ) where
  -- place q after l steps is what place p after k steps is led back to: by way of the place above it, or of a place before where an item is
  -- looked for and that does not hold it in both runs
  pub data Leads (l q : ℕ) : ℕ → ℕ → Type 0 where
    ends : Leads l q l q
    to-above : {k p n t : ℕ} {mode : Mode} → step_at m k ≡ Select mode n t → Leads l q k (p / n) → Leads l q (suc k) p
    to_same : {k p : ℕ} → (step_at m k ≡ Emit) ⊎ (step_at m k ≡ Idle) → Leads l q k p → Leads l q (suc k) p
    to-before : {k p i o s : ℕ} → Before m x k p i o s → (held_of (is_bucket i) (old m c x o s) ≡ held_of (is_bucket i) (new m c x o s) → ⊥)
        → Leads l q o s → Leads l q (suc k) p

  -- followed so from place to place, a cause ends at 01 or 02
  pub root : {k p cause : ℕ} → Traced m c x k p cause → (l : ℕ) × (q : ℕ) × Leads l q k p × (Traced m c x l q 1 ⊎ Traced m c x l q 2)
  root (above e lv t) = let (l, q, g, r) = root t in (l, q, to-above e g, r)
  root (stays e t) = let (l, q, g, r) = root t in (l, q, to_same e g, r)
  root (accept {k} {p} e h w j) = (suc k, p, ends, inl (accept e h w j))
  root (drawn {k} {p} h f w) = (suc k, p, ends, inr (drawn h f w))
  root (held-old {l = o} {q = s} h f a b t) = let (l, q, g, r) = root t in (l, q, to-before a.before (λ e. b o s a.before (sym e ∙ a.holds)) g, r)
  root (held_new {l = o} {q = s} h f a b t) = let (l, q, g, r) = root t in (l, q, to-before a.before (λ e. b o s a.before (e ∙ a.holds)) g, r)

  -- each cause is 01, 02 or 03
  pub cause-range : {k p cause : ℕ} → Traced m c x k p cause → (1 ≤ cause) × (cause ≤ 3)
  cause-range (above e lv t) = cause-range t
  cause-range (stays e t) = cause-range t
  cause-range (accept e h w j) = (omega arith, omega arith)
  cause-range (drawn h f w) = (omega arith, omega arith)
  cause-range (held-old h f a b t) = (omega arith, omega arith)
  cause-range (held_new h f a b t) = (omega arith, omega arith)

  -- 01 only after an edit of acceptance
  pub accept-only : {k p cause : ℕ} → Traced m c x k p cause → cause ≡ 1 → (d : ℕ) × (a : ℕ) × (c ≡ Some (Acceptance d a))
  accept-only (above e lv t) q = accept-only t q
  accept-only (stays e t) q = accept-only t q
  accept-only (accept {d} {a} e h w j) q = (d, a, e)
  accept-only (drawn h f w) q = absurd (omega arith)
  accept-only (held-old h f a b t) q = absurd (omega arith)
  accept-only (held_new h f a b t) q = absurd (omega arith)

  -- 02 only after an edit of weight
  pub drawn-only : {k p cause : ℕ} → Traced m c x k p cause → cause ≡ 2 → (d : ℕ) × (w : ℕ) × (c ≡ Some (Weight d w))
  drawn-only (above e lv t) q = drawn-only t q
  drawn-only (stays e t) q = drawn-only t q
  drawn-only (accept e h w j) q = absurd (omega arith)
  drawn-only (drawn h f w) q = won-edit w
  drawn-only (held-old h f a b t) q = absurd (omega arith)
  drawn-only (held_new h f a b t) q = absurd (omega arith)
