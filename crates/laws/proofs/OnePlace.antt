-- Document 02, "One drive, one place": what a select puts out is held by nothing before it, neither by what was emitted nor by a place of its
-- own; so in a loadable map no device stands twice in a group's list. Assumes nothing.
use Rattle.std.proofs.Math.Path.{◌≡◌, refl, subst}
use Rattle.std.proofs.Common.{sym, ◌∙◌, eq-or-lt_of_le, arith, length-append}
use Rattle.std.specs.Prelude.{Bool, ◌⊎◌, eqb}
use Rattle.std.proofs.Math.Bool.{true, false, cond, false≢true}
use mathlib.Core.List.{List, [], ◌∷◌, ◌++◌, map, map-append, append-nil, append_assoc, Memᴰ}
use Rattle.std.proofs.Math.Logic.{inl, inr, ⊎_elim}
use Prim.Native.Nat.{ℕ, zero, suc, ◌-◌, ◌<◌, ◌≤◌}
use Rattle.std.proofs.Math.ListN.{length, get_or, replicate, get_or-append}
use Rattle.std.proofs.lemmas.List.{get_or_at}
use Rattle.definitions.specs.declared.Action.{Action}
use Rattle.definitions.specs.declared.Action.TheVariants.{Select, Idle}
use Rattle.definitions.specs.declared.Mode.{Mode}
use Rattle.definitions.specs.declared.Mode.TheVariants.{FirstN, Independent, Through}
use Rattle.definitions.specs.declared.Standing.{Standing}
use Rattle.definitions.specs.declared.Standing.TheVariants.{Inside}
use Rattle.definitions.specs.Lists.{has}
use Rattle.definitions.specs.Map.{Map, bucket_number, actions_of}
use Rattle.definitions.specs.View.{bucket_type, type_of, view_of}
use Rattle.definitions.specs.Walk.{hole}
use Rattle.definitions.specs.Select.{Place, Selected, entries_of, items_of, place_under, put_out, holes_under, nowhere, with_rank, next_rank, ranks_to, with_holes, select_at, select_to, select_of}
use Rattle.definitions.specs.Rule.{Run, selected, act, run_to, width_of, padded, placed_by, placed_of}
use Rattle.definitions.specs.Load.{through_typed, typed, standing}
use Rattle.laws.specs.Lists.{every-at}
use Rattle.laws.specs.Members.{mem-at, mem-has, has-mem, has_either, has-neither, Each, each_none, each-one, each_more}
use Rattle.laws.specs.Loadable.{Loadable}
use Rattle.laws.specs.Blocks.{InOrder, takes, selects, emits, step-inside, step-in-order}
use Rattle.laws.specs.Forest.{Holds, is, one-holder, kids_of, forest, sinks}
use Rattle.laws.specs.Found.{present-typed, taken-bucket}
use Rattle.laws.specs.OnePlace.{Puts, rank-puts, Alone, below_holds, Keeps, Out}

-- ---- what a select puts out

-- a list goes on with a hole, or with what does not stand in it
alone-more : (es : List ℕ) (e : ℕ) → Alone es → (e ≡ hole) ⊎ (has e es ≡ false) → Alone (es ++ (e ∷ []))
alone-more es e A f j l h i q =
    let first : get_or (es ++ (e ∷ [])) j 0 ≡ get_or es j 0 = get_or-append es (e ∷ []) 0 j (omega (arith, length-append es (e ∷ []))) in
    ⊎_elim
    (λ (s : l ≡ length es).
    let last : get_or (es ++ (e ∷ [])) l 0 ≡ e = get_or_at es e [] 0 l (sym s) in
    let there : Memᴰ e es = subst (λ (o : ℕ). Memᴰ o es) (sym first ∙ q ∙ last) (mem-at 0 es j (omega arith)) in
    last ∙ ⊎_elim (λ o. o) (λ o. absurd (false≢true (sym o ∙ mem-has there))) f)
    (λ (s : l < length es).
    let second : get_or (es ++ (e ∷ [])) l 0 ≡ get_or es l 0 = get_or-append es (e ∷ []) 0 l s in
    second ∙ A j l h s (sym first ∙ q ∙ second))
    (eq-or-lt_of_le (omega (arith, length-append es (e ∷ []))))

module _ (m : Map) (L : Loadable m) (x : ℕ) (mode : Mode) (n t : ℕ) (g : through_typed (Select mode n t) ≡ true) (before : List ℕ) (clear : Alone before) where
  -- the place p may follow the places ps
  abbrev Follows : List Place → Place → Type 0
  Follows ps p = Puts (view_of m) x t (before ++ items_of ps) p.item p.entry

  follows-keeps : (ps : List Place) (p : Place) → Follows ps p → Keeps m t p
  unfolding view_of
  follows-keeps ps p (inl h) = inl h
  follows-keeps ps p (inr F) = inr (F.type, ⊎_elim (λ q. is q) (λ b. below_holds m b) F.below)

  -- its entry stands nowhere before it: items of one type that hold one device are one
  follows-free : (ps : List Place) (p : Place) → Each (Keeps m t) ps → Follows ps p → (p.entry ≡ hole) ⊎ (has p.entry (before ++ entries_of ps) ≡ false)
  unfolding view_of items_of entries_of
  follows-free ps p K (inl h) = inl h.1
  follows-free ps p K (inr F) = go (has p.entry (before ++ entries_of ps)) refl
    where
      held : Each (λ (q : Place). q.item ≡ p.item → ⊥) ps
      held q i e = false≢true (sym (has-neither p.item before (items_of ps) F.item).1 ∙ mem-has (subst (λ (o : ℕ). Memᴰ o (items_of ps)) e (mathlib.Core.List.Memᴰ.map (λ (a : Place). a.item) i)))

      meets : (q : Place) → Memᴰ q ps → q.entry ≡ p.entry → p.entry ≡ hole
      meets q i e =
          ⊎_elim (λ h. sym e ∙ h.1)
          (λ (t', h).
          ⊎_elim (λ z. z.1)
          (λ (t'', h'). absurd (held q i (one-holder (kids_of m) (type_of m) (forest m L) (t' ∙ sym t'') (subst (Holds (kids_of m) q.item) e h) h')))
          (follows-keeps ps p (inr F)))
          (K q i)

      go : (b : Bool) → has p.entry (before ++ entries_of ps) ≡ b → (p.entry ≡ hole) ⊎ (b ≡ false)
      go false e = inr refl
      go true e =
          ⊎_elim (λ h. absurd (false≢true (sym (has-neither p.entry before (items_of ps) F.entry).0 ∙ h)))
          (λ h. let (q, i, s) = mathlib.Core.List.Memᴰ.of_map (λ (a : Place). a.entry) ps (has-mem p.entry (entries_of ps) h) in inl (meets q i s))
          (has_either p.entry before (entries_of ps) e)

  abbrev Puts-out : List Place → Type 0
  Puts-out = Out m t before

  out_one : (ps : List Place) (p : Place) → Puts-out ps → Follows ps p → Puts-out (ps ++ (p ∷ []))
  unfolding entries_of items_of
  out_one ps p O f =
      record {
        entries = behind (λ (a : Place). a.entry) O.entries (follows-free ps p O.keeps f);
        items = behind (λ (a : Place). a.item) O.items (⊎_elim (λ h. inl h.0) (λ F. inr F.item) f);
        keeps = each_more (Keeps m t) ps (p ∷ []) O.keeps (each-one (Keeps m t) p (follows-keeps ps p f));
      }
    where
      behind : (g : Place → ℕ) → Alone (before ++ map g ps) → (g p ≡ hole) ⊎ (has (g p) (before ++ map g ps) ≡ false) → Alone (before ++ map g (ps ++ (p ∷ [])))
      behind g A h = rw (map-append g ps (p ∷ []), ← append_assoc before (map g ps) (g p ∷ [])) (alone-more (before ++ map g ps) (g p) A h)

  out-put : (o : Mode) (ps : List Place) (p : Place) → Puts-out ps → Follows ps p → Puts-out (ps ++ put_out o p)
  unfolding put_out
  out-put Independent ps p O f = out_one ps p O f
  out-put Through ps p O f = out_one ps p O f
  out-put FirstN ps p O f = go (eqb p.entry hole)
    where
      go : (b : Bool) → Puts-out (ps ++ cond b [] (p ∷ []))
      go true = rw (append-nil ps) O
      go false = out_one ps p O f

  out-ranks : (up : Place) (s : Selected) (k : ℕ) → Puts-out s.places → Puts-out (ranks_to (view_of m) x mode n t before up s k).places
  unfolding ranks_to next_rank with_rank place_under
  out-ranks up s zero O = O
  out-ranks up s (suc k) O =
      let o = ranks_to (view_of m) x mode n t before up s k in
      out-put mode o.places _ (out-ranks up s k O)
      (rank-puts (view_of m) (sinks m L) x (before ++ items_of o.places) mode n t (bucket_number up.entry) (suc k) o.f g)

  out-holes : (k : ℕ) (a : Place) → (a.item ≡ hole) × (a.entry ≡ hole) → (ps : List Place) → Puts-out ps → Puts-out (ps ++ replicate k a)
  out-holes zero a e ps O = rw (append-nil ps) O
  out-holes (suc k) a e ps O = rw (← append_assoc ps (a ∷ []) (replicate k a)) (out-holes k a e (ps ++ (a ∷ [])) (out_one ps a O (inl e)))

  out-under : (o : Mode) (up : Place) (ps : List Place) → Puts-out ps → Puts-out (ps ++ holes_under o n up)
  unfolding holes_under
  out-under Independent up ps O = out-holes n _ (refl, refl) ps O
  out-under Through up ps O = out-holes n _ (refl, refl) ps O
  out-under FirstN up ps O = rw (append-nil ps) O

  out_at : (up : Place) (s : Selected) (b : Bool) → Puts-out s.places → Puts-out (select_at (view_of m) x mode n t before up s b).places
  unfolding select_at with_holes
  out_at up s true O = out-under mode up s.places O
  out_at up s false O = out-ranks up s n O

  out-to : (working : List Place) (k : ℕ) → Puts-out (select_to (view_of m) x mode n t before working k).places
  unfolding select_to entries_of items_of
  out-to working zero = let A : Alone (before ++ []) = rw (append-nil before) clear in record { entries = A; items = A; keeps = each_none (Keeps m t) }
  out-to working (suc k) = let a = get_or working k nowhere in out_at a (select_to (view_of m) x mode n t before working k) (eqb a.entry hole) (out-to working k)

  -- a select puts out nothing that stands before it
  select-out : (working : List Place) → Puts-out (select_of (view_of m) x mode n t before working).places
  unfolding select_of
  select-out working = out-to working (length working)

-- ---- what a run emits

module _ (m : Map) (L : Loadable m) (x : ℕ) where
  abbrev run : ℕ → Run
  run k = run_to (view_of m) x (actions_of m) k

  -- after k steps nothing but holes stands twice in the list; nor, where an emit may follow, in the list with the working list behind it
  abbrev Once : Run → Standing → Type 0
  Once s st = Alone (entries_of s.list) × (st ≡ Inside 0 → Alone (entries_of s.list ++ entries_of s.working))

  once-to : (k : ℕ) → k ≤ length (actions_of m) → Once (run k) (standing m k)
  unfolding run_to standing entries_of act selected typed
  once-to zero h = (λ j l a b. absurd (omega arith), λ e. absurd (let z : ◌≡◌ {A = ℕ} 0 1 = cc in omega arith))
  once-to (suc k) h = go (step-in-order m L.in_blocks k h) refl (once-to k (omega arith))
    where
      list : List ℕ
      list = entries_of (run k).list

      inside : (u : ℕ) → ◌≡◌ {A = Standing} (Inside u) (Inside 0) → u ≡ 0
      inside u e = let z : u ≡ 0 = cc in z

      go : {st st' : Standing} {a : Action} → InOrder m st a st' → get_or (actions_of m) k Idle ≡ a → Once (run k) st
          → Once (act (view_of m) x (run k) a) st'
      go (takes {b}) e (A, B) = (A, λ q. absurd (omega (arith, inside (bucket_type m b) q, present-typed m L b (taken-bucket m L k b h e))))
      go (selects {n} {t} {mode} l) e (A, B) = (
        A,
        λ q. (select-out m L x mode n t (rw e at (every-at through_typed (actions_of m) k Idle L.typed h)) list A (run k).working).entries,
      )
      go emits e (A, B) = (
        rw (map-append (λ (p : Place). p.entry) (run k).list (run k).working) (B refl),
        λ q. absurd (let z : ◌≡◌ {A = ℕ} 0 1 = cc in omega arith),
      )

  -- what a select of the rule leads to
  pub selected-out : (k n t : ℕ) (mode : Mode) → get_or (actions_of m) k Idle ≡ Select mode n t
      → Out m t (entries_of (run_to (view_of m) x (actions_of m) k).list) (run_to (view_of m) x (actions_of m) (suc k)).working
  unfolding run_to act selected typed
  selected-out k n t mode e =
      let h = step-inside (actions_of m) k (λ q. let z : ◌≡◌ {A = ℕ} 0 1 = cc in omega arith) in
      rw e
      (select-out m L x mode n t (rw e at (every-at through_typed (actions_of m) k Idle L.typed h)) (entries_of (run k).list) (once-to k (omega arith)).0 (run k).working)

  -- "One drive, one place": two places of a group's list with one entry are holes
  pub one_place : Alone (entries_of (placed_of m x).places)
  unfolding placed_of placed_by padded nowhere entries_of
  one_place =
      let k = length (actions_of m) in
      holes (width_of m - length (run k).list) (run k).list (once-to k (omega arith)).0
    where
      holes : (n : ℕ) (ps : List Place) → Alone (entries_of ps) → Alone (entries_of (ps ++ replicate n nowhere))
      holes zero ps A = rw (append-nil ps) A
      holes (suc n) ps A =
          rw (← append_assoc ps (nowhere ∷ []) (replicate n nowhere))
          (holes n (ps ++ (nowhere ∷ [])) (rw (map-append (λ (p : Place). p.entry) ps (nowhere ∷ [])) (alone-more (entries_of ps) hole A (inl refl))))
