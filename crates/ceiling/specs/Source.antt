-- Document 02, change 7: after an edit of an acceptance every traced place is followed back to a test of the edited device that passed in one
-- run only; and the run in which it passed has the device in the group's list. Assumes nothing.
use Rattle.std.proofs.Math.Path.{◌≡◌, refl, ap}
use Rattle.std.proofs.Common.{sym, ◌∙◌, subst, ⊎_elim, arith}
use Rattle.std.specs.Prelude.{Bool, true, false, cond, ◌⊎◌, ℕ, suc, ◌+◌, ◌/◌, ◌%◌, ◌<◌, eqb, get_or, take, Option, Some}
use mathlib.Core.List.Memᴰ
use mathlib.Core.List.{List, [], ◌++◌, Memᴰ, append_cancel_left}
use Rattle.std.proofs.Math.Decide.{dec_lt}
use borrow.Author.Tests.{ltb-true}
use Rattle.std.proofs.Math.ListN.{length, get_or-eq_default}
use Rattle.definitions.specs.declared.Mode.{Mode}
use Rattle.definitions.specs.declared.Mode.TheVariants.{Through}
use Rattle.definitions.specs.declared.Action.TheVariants.{Select, Idle}
use Rattle.definitions.specs.declared.Verdict.{Verdict}
use Rattle.definitions.specs.declared.Verdict.TheVariants.{Rejected, Passed}
use Rattle.definitions.specs.declared.Event.{Event}
use Rattle.definitions.specs.declared.Event.TheVariants.{Tested}
use Rattle.definitions.specs.declared.Change.{Change}
use Rattle.definitions.specs.declared.Change.TheVariants.{Acceptance}
use Rattle.definitions.specs.Map.{Map, bucket_number, actions_of}
use Rattle.definitions.specs.View.{view_of}
use Rattle.definitions.specs.Walk.{hole, RankEvents, accepted, rank_of}
use Rattle.definitions.specs.Select.{Place, entries_of, items_of, place_under, nowhere}
use Rattle.definitions.specs.Rule.{placed_of}
use Rattle.definitions.specs.Table.{row_in}
use Rattle.definitions.specs.Edit.{put}
use Rattle.definitions.specs.Ceiling.{holds}
use Rattle.definitions.specs.Load.{through_typed, typed, reaches}
use Rattle.definitions.specs.Calls.{independent}
use Rattle.laws.specs.Lists.{every-at}
use Rattle.laws.specs.Loadable.{Loadable}
use Rattle.laws.specs.Members.{mem-has, mem-at}
use Rattle.laws.specs.Blocks.{step-inside, emit-next}
use Rattle.laws.specs.Forest.{type-device}
use Rattle.laws.specs.Found.{rank-found}
use Rattle.tracing.specs.Runs.{leaves, no_rank, rank_under, step_at, working_at, list_at, place_at, step-place, place-past}
use Rattle.tracing.specs.Edited.{won-edit}
use Rattle.tracing.specs.Traced.{judge, Here, Traced, above, stays, accept, drawn, held-old, held_new}
use Rattle.tracing.specs.Listed.{Emitted, placed-place}
use Rattle.ceiling.specs.Passed.{passed-fills}

-- ---- a device that passes in a place's own select is in the list

-- an entry that is no hole is in the list
entry-mem : (ps : List Place) (j d : ℕ) → (d ≡ hole → ⊥) → (get_or ps j nowhere).entry ≡ d → Memᴰ d (entries_of ps)
unfolding entries_of nowhere
entry-mem ps j d f e = go (dec_lt j (length ps))
  where
    go : Dec (j < length ps) → Memᴰ d (entries_of ps)
    go (yes h) = subst (λ (o : ℕ). Memᴰ o (entries_of ps)) e (Memᴰ.map (λ (a : Place). a.entry) (mem-at nowhere ps j h))
    go (no h) = absurd (f (sym e ∙ ap (λ (a : Place). a.entry) (get_or-eq_default ps nowhere (omega arith))))

-- step k is a select that leaves holes; es is what it adds to the walk of its place p, and device d passes there
module _ (m : Map) (L : Loadable m) (ind : independent m ≡ true) (x k p n t d : ℕ) (mode : Mode) (e : step_at m k ≡ Select mode n t) (lv : leaves mode ≡ true)
    (small : d < 1024) (es : List Event) (walk : (place_at m x (suc k) p).walk ≡ (place_at m x k (p / n)).walk ++ es) (passed : Memᴰ (Tested d Passed) es) where
  abbrev up : Place
  up = place_at m x k (p / n)

  -- the place is one of the working list
  inside : p < length (working_at m x (suc k))
  unfolding nowhere
  inside = go (dec_lt p (length (working_at m x (suc k))))
    where
      go : Dec (p < length (working_at m x (suc k))) → p < length (working_at m x (suc k))
      go (yes h) = h
      go (no h) =
          let q : [] ≡ up.walk ++ es = ap (λ (a : Place). a.walk) (sym (place-past m x (suc k) p (omega arith))) ∙ walk in
          elim (subst (Memᴰ (Tested d Passed)) (sym q) (Memᴰ.append_right up.walk passed)) [ ]

  abbrev held : List ℕ
  held = entries_of (list_at m x k) ++ items_of (take p (working_at m x (suc k)))

  abbrev rank : RankEvents
  rank = rank_under (view_of m) x mode n t held up (p % n + 1)

  is : place_at m x (suc k) p ≡ place_under up rank
  is = step-place m x k mode n t e lv p inside

  events : rank.events ≡ es
  unfolding place_under
  events = append_cancel_left up.walk rank.events es (sym (ap (λ (a : Place). a.walk) is) ∙ walk)

  through-typed : mode ≡ Through → 0 < t
  unfolding typed through_typed
  through-typed q =
      let i = step-inside (actions_of m) k (λ o. let z : ◌≡◌ {A = ℕ} 0 1 = cc in omega arith) in
      let h = every-at through_typed (actions_of m) k Idle L.typed i in
      ltb-true 0 t (rw (e, q) at h)

  real : d ≡ hole → ⊥
  real q = omega arith

  device : (view_of m).type d ≡ 0
  unfolding view_of
  device = type-device m d (omega arith)

  -- it fills the place, so the select puts out devices
  fills : (rank.ranked.entry ≡ d) × (reaches mode t ≡ 0)
  unfolding rank_under
  fills = go (eqb up.entry hole) refl (subst (Memᴰ (Tested d Passed)) (sym events) passed)
    where
      R : RankEvents
      R = rank_of (view_of m) x mode n t held (bucket_number up.entry) (p % n + 1) 0

      go : (b : Bool) → eqb up.entry hole ≡ b → Memᴰ (Tested d Passed) (cond b no_rank R).events
          → ((cond b no_rank R).ranked.entry ≡ d) × (reaches mode t ≡ 0)
      go true q h = elim h [ ]
      go false q h =
          let f = passed-fills (view_of m) x d real device held mode n t (bucket_number up.entry) (p % n + 1) 0 through-typed h in (
            f,
            ⊎_elim (λ z. absurd (real (sym f ∙ z))) (λ z. sym z.1 ∙ ap (view_of m).type f ∙ device)
                (rank-found (view_of m) x held mode n t (bucket_number up.entry) (p % n + 1) 0),
          )

  -- its place is emitted
  emitted : Emitted m x (length (list_at m x (suc k)) + p) (suc k) p
  emitted = record { emits = emit-next m L.in_blocks k n t mode e fills.1; inside = inside; place = refl }

  -- and so the group's list holds it
  pub in_list : holds d (placed_of m x) ≡ true
  unfolding holds row_in place_under
  in_list =
      mem-has (entry-mem (placed_of m x).places (length (list_at m x (suc k)) + p) d real
      (ap (λ (a : Place). a.entry) (placed-place m x L ind (length (list_at m x (suc k)) + p) (suc k) p emitted ∙ is) ∙ fills.0))

-- ---- where an edit of an acceptance is first seen

-- a test of device d at which the walks of some place part: it passed in one run only
pub record Source (m : Map) (c : Option Change) (x d : ℕ) : Type 0 where
  pub k : ℕ
  pub p : ℕ
  pub n : ℕ
  pub u : Verdict
  pub w : Verdict
  pub here : Here m c x k p n (Tested d u) (Tested d w)
  pub ends : ((u ≡ Passed) × (w ≡ Rejected)) ⊎ ((u ≡ Rejected) × (w ≡ Passed))
  pub judged : (u ≡ judge (accepted (view_of m) x d)) × (w ≡ judge (accepted (view_of (put m c)) x d))

-- every traced place leads there: 02 needs an edit of a weight
pub source : (m : Map) (c : Option Change) (x d a : ℕ) → c ≡ Some (Acceptance d a) → {k p cause : ℕ} → Traced m c x k p cause → Source m c x d
source m c x d a q (above e lv t) = source m c x d a q t
source m c x d a q (stays e t) = source m c x d a q t
source m c x d a q (accept {k} {p} {n} {d = f} {u} {w} e h z j) =
    let s : f ≡ d = cc in
    subst (Source m c x) s (record { k = k; p = p; n = n; u = u; w = w; here = h; ends = z; judged = j })
source m c x d a q (drawn h f w) = absurd (let g = (won-edit w).2 in let o : ◌≡◌ {A = ℕ} 0 1 = cc in omega arith)
source m c x d a q (held-old h f o n t) = source m c x d a q t
source m c x d a q (held_new h f o n t) = source m c x d a q t
