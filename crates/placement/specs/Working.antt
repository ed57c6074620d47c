-- What stands in the working list and in the list of a run, in arrays that are ready. Assumes nothing.
use Rattle.std.specs.Prelude.{◌≡◌, List, ◌⊎◌, ℕ, ◌<◌, ◌≤◌, length, get_or}
use Rattle.std.proofs.Common.{sym, ap, ◌∙◌, subst, inl, inr, ⊎_elim, arith, lt_of_not-le}
use Rattle.definitions.specs.declared.Action.{Action}
use Rattle.definitions.specs.declared.Action.TheVariants.{Take, Emit, Idle}
use Rattle.definitions.specs.declared.Mode.{Mode}
use Rattle.definitions.specs.Map.{bucket_item, bucket_number}
use Rattle.definitions.specs.View.{View}
use Rattle.definitions.specs.Walk.{hole}
use Rattle.definitions.specs.Select.{select_of}
use Rattle.definitions.specs.Rule.{run_to}
use Rattle.definitions.specs.Load.{reaches}
use Rattle.laws.specs.Members.{Each}
use Rattle.laws.specs.Found.{DrawnBy, Reached, each-entry, select-found, working-reached, list-reached}
use Rattle.hierarchy.specs.Arrays.{bucket_type_in, type_in, view_in, ItemRange, Sound}
use Rattle.descent.specs.Descent.{type-bucket, type-device, winner-range}
use Rattle.walk.specs.Bounds.{Typed}
use Rattle.placement.specs.Bare.{Bare, BareRun, bare_select, bare_run_to, select-bare, run-bare, walkless}
use Rattle.placement.specs.Ruled.{reached_to, Ready}

-- an entry that a select can work on: a hole, or a bucket
abbrev pub Workable : ℕ → Type 0
Workable e = (e ≡ hole) ⊎ ((65536 ≤ e) × (e < 65792))

-- what is no hole is a bucket
pub bucket-of : (e : ℕ) → Workable e → (e ≡ hole → ⊥) → (65536 ≤ e) × (e < 65792)
bucket-of e (inl h) n = absurd (n h)
bucket-of e (inr h) n = h

-- an entry that a select puts out which reaches type t: a hole, or an item in range of that type
abbrev pub Entry : List ℕ → ℕ → ℕ → Type 0
Entry plan t e = (e ≡ hole) ⊎ Typed plan t e

-- an entry that a row can hold: a number of 16 bits
abbrev pub Small : ℕ → Type 0
Small e = e < 65536

-- ---- the entries of a select

pub select-entries : {plan : List ℕ} → Sound plan → (values : List ℕ) (x : ℕ) (mode : Mode) (n t : ℕ) (before working : List ℕ)
    → Each (Entry plan (reaches mode t)) (bare_select (view_in plan values) x mode n t before working).entries
select-entries {plan} sound values x mode n t before working =
    let v = view_in plan values in
    let u = reaches mode t in
    let (ps, e) = walkless working in
    subst (λ (b : Bare). Each (Entry plan u) b.entries) (select-bare v x mode n t before ps ∙ ap (bare_select v x mode n t before) e)
    (each-entry (Entry plan u) (select_of v x mode n t before ps).places
    (λ p i. ⊎_elim (λ q. inl q) (λ ((r, b, d), q). inr (winner-range sound values x r b p.entry d, q)) (select-found v x mode n t before ps p i)))

-- ---- the lists of a run

module _ {plan values : List ℕ} {actions : List Action} (sound : Sound plan) (ready : Ready plan values actions) (x : ℕ) where
  abbrev v : View
  v = view_in plan values

  -- an item in range, of which a bucket has a type above 0
  abbrev Rooted : ℕ → Type 0
  Rooted i = ItemRange i × (65536 ≤ i → 0 < type_in plan i)

  drawn : (i : ℕ) → DrawnBy v x i → Rooted i
  drawn i (r, b, d) = (winner-range sound values x r b i d, ready.grounded.above x r b i d)

  taken : (k b : ℕ) → k < length actions → get_or actions k Idle ≡ Take b → Rooted (bucket_item b) × (type_in plan (bucket_item b) ≡ bucket_type_in plan b)
  taken k b h e =
      let q = rw e at (ready.ruled.keeps k h) in
      let z : bucket_number (bucket_item b) ≡ b = omega arith in
      let t = type-bucket plan (bucket_item b) (omega arith) ∙ ap (λ (i : ℕ). bucket_type_in plan i) z in
      ((inr (omega arith, omega (arith, q.0)), λ l. omega (arith, t, q.1)), t)

  emitted : (k : ℕ) → k < length actions → get_or actions k Idle ≡ Emit → reached_to plan actions k ≡ 0
  emitted k h e = (rw e at (ready.ruled.keeps k h)).1

  -- the list holds numbers of 16 bits: holes, and devices alone
  pub list-small : (k : ℕ) (s : BareRun) → k ≤ length actions → s ≡ bare_run_to v x actions k → Each Small s.list
  list-small k s h e =
      subst (λ (r : BareRun). Each Small r.list) (run-bare v x actions k ∙ sym e)
      (each-entry Small (run_to v x actions k).list
      (λ p i. fits p.entry (list-reached v x (bucket_type_in plan) actions Rooted drawn taken emitted k h p i)))
    where
      fits : (e : ℕ) → Reached v Rooted 0 e → e < 65536
      fits e (inl q) = omega arith
      fits e (inr ((l, above), t)) = lt_of_not-le (λ (g : 65536 ≤ e). omega (arith, above g, t))

  -- where the type reached is above 0, the working list holds buckets and holes alone
  pub working-workable : (k : ℕ) (s : BareRun) → k ≤ length actions → s ≡ bare_run_to v x actions k → 0 < reached_to plan actions k → Each Workable s.working
  working-workable k s h e p =
      subst (λ (r : BareRun). Each Workable r.working) (run-bare v x actions k ∙ sym e)
      (each-entry Workable (run_to v x actions k).working
      (λ a i. workable a.entry (working-reached v x (bucket_type_in plan) actions Rooted drawn taken k h a i)))
    where
      workable : (e : ℕ) → Reached v Rooted (reached_to plan actions k) e → Workable e
      workable e (inl q) = inl q
      workable e (inr ((inl l, above), t)) = absurd (omega (arith, t, type-device plan e (omega arith)))
      workable e (inr ((inr l, above), t)) = inr l
