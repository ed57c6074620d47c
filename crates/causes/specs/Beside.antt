-- Two runs beside one another, as the code keeps them: where an action leads both. Assumes nothing.
use Rattle.std.specs.Prelude.{◌≡◌, refl, true, List, [], ◌∷◌, ◌++◌, get_or, take}
use Rattle.std.proofs.Math.Path.{sym, ap}
use Rattle.std.proofs.Common.{◌∙◌, subst, div-lt_iff_lt-mul, add-one, arith, length-append, take-take, get_or-take, get_or-append-add, length-take-le}
use Rattle.std.proofs.Math.Logic.{inl}
use Prim.Native.Nat.{ℕ, zero, suc, ◌+◌, ◌-◌, ◌*◌, ◌/◌, ◌%◌, ◌<◌, ◌≤◌}
use Rattle.std.proofs.Math.Decide.{dec_lt}
use Rattle.std.proofs.Math.ListN.{length, get_or-append, get_or-map}
use Rattle.std.proofs.lemmas.List.{length-map}
use Rattle.std.proofs.Math.Seq.{paste, take-paste}
use Rattle.definitions.specs.declared.Mode.{Mode}
use Rattle.definitions.specs.declared.Mode.TheVariants.{FirstN, Independent, Through}
use Rattle.definitions.specs.declared.Action.{Action}
use Rattle.definitions.specs.declared.Action.TheVariants.{Take, Select, Emit, Idle}
use Rattle.definitions.specs.Lists.{every}
use Rattle.definitions.specs.View.{View}
use Rattle.definitions.specs.Walk.{hole}
use Rattle.definitions.specs.Select.{Place, place_under, entries_of, items_of, nowhere, select_of}
use Rattle.definitions.specs.Rule.{Run, taken, selected, act, run_to}
use Rattle.definitions.specs.Edit.{parting, cause_of}
use Rattle.definitions.specs.Calls.{not_first_n}
use Rattle.hierarchy.specs.Arrays.{Sound, view_in}
use Rattle.laws.specs.Lists.{every-at}
use Rattle.laws.specs.Members.{Each, each_at}
use Rattle.tracing.specs.Runs.{leaves, rank_under, place_after, select-count, select-place}
use Rattle.placement.specs.declared.progress.Progress.{Progress}
use Rattle.placement.specs.Bare.{BareRun, bare_run_of, bare_act, act-bare, run-bare}
use Rattle.placement.specs.Entries.{same_at}
use Rattle.placement.specs.Working.{Workable}
use Rattle.placement.specs.Ruled.{Ready}
use Rattle.placement.specs.Progress.{run_in, Doable, Acted, Ran, ran-more, doable}
use Rattle.causes.specs.declared.Both.{Both}
use Rattle.causes.specs.Told.{Told, told_is, Causes}
use Rattle.causes.specs.Under.{TellsUnder, TellsTo}

-- ---- lists

items-take : (p : ℕ) (ps : List Place) → items_of (take p ps) ≡ take p (items_of ps)
unfolding items_of
items-take zero ps = refl
items-take (suc p) [] = refl
items-take (suc p) (a ∷ ps) = ap (λ (l : List ℕ). a.item ∷ l) (items-take p ps)

length-entries : (ps : List Place) → length (entries_of ps) ≡ length ps
unfolding entries_of
length-entries ps = length-map ps (λ (p : Place). p.entry)

entry_at : (ps : List Place) (i : ℕ) → get_or (entries_of ps) i hole ≡ (get_or ps i nowhere).entry
unfolding entries_of nowhere
entry_at ps i = get_or-map (λ (p : Place). p.entry) ps i nowhere

-- an entry of the places, read in the array that holds them
held-entry : (es : List ℕ) (len : ℕ) (ps : List Place) (i : ℕ) → take len es ≡ entries_of ps → i < len → i < length es → (get_or ps i nowhere).entry ≡ get_or es i 0
held-entry es len ps i e h l = sym (entry_at ps i) ∙ ap (λ (z : List ℕ). get_or z i hole) (sym e) ∙ get_or-take len es i hole h ∙ same_at es i hole 0 l

-- the items of the first places
held-front : (is : List ℕ) (len : ℕ) (ps : List Place) (p : ℕ) → take len is ≡ items_of ps → p ≤ len → items_of (take p ps) ≡ take p is
held-front is len ps p e h = items-take p ps ∙ ap (take p) (sym e) ∙ take-take p len is h

div_below : (p n k : ℕ) → p < k * n → p / n < k
div_below p zero k h = absurd (omega arith)
div_below p (suc n) k h = (div-lt_iff_lt-mul {k = suc n} {x = p} {y = k} (omega arith)).1 h

-- above each of the first k places of a select stands an entry that it can work on
pub workable-above : (es : List ℕ) (len n k : ℕ) → len ≤ length es → Each Workable (take len es) → k ≤ len * n → (p : ℕ) → p < k → Workable (get_or es (p / n) 0)
workable-above es len n k h w g p l =
    let d = div_below p n len (omega arith) in
    subst Workable (get_or-take len es (p / n) 0 d) (each_at Workable (take len es) (p / n) 0 w (omega (arith, d, length-take-le len es h)))

-- ---- two runs in one `Both`

-- p holds the two runs: their items and entries, and the causes of the places of both lists
pub record Beside (s s' : Run) (p : Both) : Type 0 where
  pub old : run_in p.old ≡ bare_run_of s
  pub new : run_in p.new ≡ bare_run_of s'
  pub len : length s.working ≡ p.old.len
  pub emitted : length s.list ≡ p.old.emitted
  pub told : Causes p.causes s.working s'.working
  pub listed : Causes p.list s.list s'.list

-- a run can do action a
abbrev pub Fit : Progress → Action → Type 0
Fit q a = (q.tries ≤ 1000000) × Doable q a

-- both can, and it leaves holes
abbrev pub Able : Both → Action → Type 0
Able p a = Fit p.old a × Fit p.new a × (not_first_n a ≡ true)

pub leaves-holes : (mode : Mode) (n t : ℕ) → not_first_n (Select mode n t) ≡ true → leaves mode ≡ true
unfolding not_first_n leaves
leaves-holes FirstN n t i = i
leaves-holes Independent n t i = refl
leaves-holes Through n t i = refl

-- cs are the causes of the places of the working lists after action a
unfoldable pub Worked : View → View → ℕ → Both → Action → List ℕ → Type 0
Worked v v' x p a cs = (s s' : Run) → Beside s s' p → Causes cs (act v x s a).working (act v' x s' a).working

-- and of the places of the lists
unfoldable pub Listed : View → View → ℕ → Both → Action → List ℕ → Type 0
Listed v v' x p a cs = (s s' : Run) → Beside s s' p → Causes cs (act v x s a).list (act v' x s' a).list

-- q is what action a makes of p
pub record Leads (v v' : View) (x : ℕ) (p : Both) (a : Action) (q : Both) : Type 0 where
  pub old : Acted v x p.old a q.old
  pub new : Acted v' x p.new a q.new
  pub beside : (s s' : Run) → Beside s s' p → Beside (act v x s a) (act v' x s' a) q

-- ---- one action

-- what holds of a run holds of it after an action too
acted-run : (v : View) (x : ℕ) (q o : Progress) (a : Action) (s : Run) → run_in q ≡ bare_run_of s → Acted v x q a o → run_in o ≡ bare_run_of (act v x s a)
acted-run v x q o a s e t = t.0 ∙ ap (λ (r : BareRun). bare_act v x r a) e ∙ sym (act-bare v x s a)

-- the entries of a list that the front of an array holds are as many
held-length : (es : List ℕ) (len : ℕ) (ps : List Place) → take len es ≡ entries_of ps → len ≤ length es → length ps ≡ len
held-length es len ps e h = sym (length-entries ps) ∙ ap (λ (l : List ℕ). length l) (sym e) ∙ length-take-le len es h

module _ (v v' : View) (x : ℕ) (p : Both) where
  pub leads : (a : Action) (q : Both) → q.old.len ≤ length q.old.working → q.old.emitted ≤ length q.old.list
      → Acted v x p.old a q.old → Acted v' x p.new a q.new → Worked v v' x p a q.causes → Listed v v' x p a q.list
      → Leads v v' x p a q
  unfolding Worked Listed
  leads a q hw hl o n w l = record { old = o; new = n; beside = after }
    where
      after : (s s' : Run) → Beside s s' p → Beside (act v x s a) (act v' x s' a) q
      after s s' h =
          let e = acted-run v x p.old q.old a s h.old o in
          record {
            old = e;
            new = acted-run v' x p.new q.new a s' h.new n;
            len = held-length q.old.working q.old.len (act v x s a).working (ap (λ (r : BareRun). r.working) e) hw;
            emitted = held-length q.old.list q.old.emitted (act v x s a).list (ap (λ (r : BareRun). r.list) e) hl;
            told = w s s' h;
            listed = l s s' h;
          }

  -- ---- the working lists: one bucket, the same in both; a select's places are below

  pub worked-take : (b : ℕ) (cs : List ℕ) → get_or cs 0 0 ≡ 0 → Worked v v' x p (Take b) cs
  unfolding Worked act taken
  worked-take b cs e s s' h = record { same = refl; each = one }
    where
      one : (j : ℕ) → j < 1 → Told (get_or cs j 0) (get_or (taken b) j nowhere) (get_or (taken b) j nowhere)
      one zero l = inl (refl, e)
      one (suc j) l = absurd (omega arith)

  pub worked-emit : Worked v v' x p Emit p.causes
  unfolding Worked act
  worked-emit s s' h = h.told

  pub worked-idle : Worked v v' x p Idle p.causes
  unfolding Worked act
  worked-idle s s' h = h.told

  -- ---- the lists

  pub listed-take : (b : ℕ) → Listed v v' x p (Take b) p.list
  unfolding Listed act
  listed-take b s s' h = h.listed

  pub listed-select : (a : Action) (mode : Mode) (n t : ℕ) → a ≡ Select mode n t → Listed v v' x p a p.list
  unfolding Listed act selected
  listed-select a mode n t e s s' h = rw e h.listed

  pub listed-idle : Listed v v' x p Idle p.list
  unfolding Listed act
  listed-idle s s' h = h.listed

  -- the causes of two lists one behind the other
  append-causes : (list' : List ℕ) (ps ps' ws ws' : List Place) → length ps ≡ p.old.emitted → length ws ≡ p.old.len
      → p.old.len ≤ length p.causes → p.old.emitted ≤ length p.list
      → take (p.old.emitted + p.old.len) list' ≡ take p.old.emitted p.list ++ take p.old.len p.causes
      → Causes p.list ps ps' → Causes p.causes ws ws' → Causes list' (ps ++ ws) (ps' ++ ws')
  append-causes list' ps ps' ws ws' lp lw hc hl e c d =
      record { same = length-append ps' ws' ∙ omega (arith, length-append ps ws, c.same, d.same); each = at }
    where
      F : List ℕ
      F = take p.old.emitted p.list

      B : List ℕ
      B = take p.old.len p.causes

      read : (i : ℕ) → i < p.old.emitted + p.old.len → get_or list' i 0 ≡ get_or (F ++ B) i 0
      read i h = sym (get_or-take (p.old.emitted + p.old.len) list' i 0 h) ∙ ap (λ (l : List ℕ). get_or l i 0) e

      long : length F ≡ p.old.emitted
      long = length-take-le p.old.emitted p.list hl

      front : (i : ℕ) → i < length ps → Told (get_or list' i 0) (get_or (ps ++ ws) i nowhere) (get_or (ps' ++ ws') i nowhere)
      front i h =
          let r : get_or list' i 0 ≡ get_or p.list i 0 = read i (omega arith) ∙ get_or-append F B 0 i (omega (arith, long)) ∙ get_or-take p.old.emitted p.list i 0 (omega arith) in
          rw (r, get_or-append ps ws nowhere i h, get_or-append ps' ws' nowhere i (omega (arith, c.same))) (c.each i h)

      back : (j : ℕ) → j < length ws → Told (get_or list' (p.old.emitted + j) 0) (get_or (ps ++ ws) (p.old.emitted + j) nowhere) (get_or (ps' ++ ws') (p.old.emitted + j) nowhere)
      back j h =
          let r : get_or list' (p.old.emitted + j) 0 ≡ get_or p.causes j 0 = read (p.old.emitted + j) (omega arith) ∙ ap (λ (k : ℕ). get_or (F ++ B) (k + j) 0) (sym long) ∙ get_or-append-add F B j 0 ∙ get_or-take p.old.len p.causes j 0 (omega arith) in
          let q : get_or (ps ++ ws) (p.old.emitted + j) nowhere ≡ get_or ws j nowhere = ap (λ (k : ℕ). get_or (ps ++ ws) (k + j) nowhere) (sym lp) ∙ get_or-append-add ps ws j nowhere in
          let q' : get_or (ps' ++ ws') (p.old.emitted + j) nowhere ≡ get_or ws' j nowhere = ap (λ (k : ℕ). get_or (ps' ++ ws') (k + j) nowhere) (sym (c.same ∙ lp)) ∙ get_or-append-add ps' ws' j nowhere in
          rw (r, q, q') (d.each j h)

      at : (i : ℕ) → i < length (ps ++ ws) → Told (get_or list' i 0) (get_or (ps ++ ws) i nowhere) (get_or (ps' ++ ws') i nowhere)
      at i h = go (dec_lt i (length ps))
        where
          go : Dec (i < length ps) → Told (get_or list' i 0) (get_or (ps ++ ws) i nowhere) (get_or (ps' ++ ws') i nowhere)
          go (yes l) = front i l
          go (no l) =
              let k : p.old.emitted + (i - p.old.emitted) ≡ i = omega arith in
              subst (λ (z : ℕ). Told (get_or list' z 0) (get_or (ps ++ ws) z nowhere) (get_or (ps' ++ ws') z nowhere)) k (back (i - p.old.emitted) (omega (arith, length-append ps ws)))

  pub listed-emit : (cs : List ℕ) → p.old.len ≤ length p.causes → p.old.emitted ≤ length p.list
      → cs ≡ paste p.list p.old.emitted p.causes p.old.len → Listed v v' x p Emit cs
  unfolding Listed act
  listed-emit cs hc hl e s s' h =
      append-causes cs s.list s'.list s.working s'.working h.emitted h.len hc hl
      (ap (take (p.old.emitted + p.old.len)) e ∙ take-paste p.list p.old.emitted p.causes p.old.len hl hc) h.listed h.told

  -- ---- a select: o and o' are where one that leaves holes leads both runs, and cs the causes of its places
  module _ (mode : Mode) (n t : ℕ) (o o' : Progress) (cs : List ℕ) (lv : leaves mode ≡ true) (within : p.old.len ≤ length p.old.working)
      (e : Acted v x p.old (Select mode n t) o) (e' : Acted v' x p.new (Select mode n t) o')
      (room : o.len ≤ length o.working) (room' : o'.len ≤ length o'.working)
      (tells : TellsTo v v' x mode n t (take p.old.emitted p.old.list) (take p.new.emitted p.new.list) o.items o'.items p.causes p.old.working o.len cs) where
    module _ (s s' : Run) (h : Beside s s' p) where
      abbrev P : List Place
      P = (select_of v x mode n t (entries_of s.list) s.working).places

      abbrev P' : List Place
      P' = (select_of v' x mode n t (entries_of s'.list) s'.working).places

      -- what each run has emitted before it
      list : take p.old.emitted p.old.list ≡ entries_of s.list
      list = ap (λ (r : BareRun). r.list) h.old

      list' : take p.new.emitted p.new.list ≡ entries_of s'.list
      list' = ap (λ (r : BareRun). r.list) h.new

      olds : (take o.len o.items ≡ items_of P) × (take o.len o.working ≡ entries_of P)
      unfolding act selected
      olds = let r = acted-run v x p.old o (Select mode n t) s h.old e in (ap (λ (b : BareRun). b.items) r, ap (λ (b : BareRun). b.working) r)

      news : (take o'.len o'.items ≡ items_of P') × (take o'.len o'.working ≡ entries_of P')
      unfolding act selected
      news = let r = acted-run v' x p.new o' (Select mode n t) s' h.new e' in (ap (λ (b : BareRun). b.items) r, ap (λ (b : BareRun). b.working) r)

      long : length P ≡ o.len
      long = held-length o.working o.len P olds.1 room

      long' : length P' ≡ o'.len
      long' = held-length o'.working o'.len P' news.1 room'

      alike : length P' ≡ length P
      alike = select-count v' x mode n t (entries_of s'.list) s'.working lv ∙ ap (λ (k : ℕ). k * n) h.told.same ∙ sym (select-count v x mode n t (entries_of s.list) s.working lv)

      place : (i : ℕ) → i < length P
          → get_or P i nowhere ≡ place_under (get_or s.working (i / n) nowhere) (rank_under v x mode n t (take p.old.emitted p.old.list ++ take i o.items) (get_or s.working (i / n) nowhere) (i % n + 1))
      unfolding place_after
      place i l =
          let f = held-front o.items o.len P i olds.0 (omega (arith, long)) in
          rw (← f, list) (select-place v x mode n t (entries_of s.list) s.working lv i (omega (arith, select-count v x mode n t (entries_of s.list) s.working lv)))

      place' : (i : ℕ) → i < length P
          → get_or P' i nowhere ≡ place_under (get_or s'.working (i / n) nowhere) (rank_under v' x mode n t (take p.new.emitted p.new.list ++ take i o'.items) (get_or s'.working (i / n) nowhere) (i % n + 1))
      unfolding place_after
      place' i l =
          let f = held-front o'.items o'.len P' i news.0 (omega (arith, long', alike)) in
          rw (← f, list') (select-place v' x mode n t (entries_of s'.list) s'.working lv i (omega (arith, select-count v' x mode n t (entries_of s'.list) s'.working lv, alike)))

      each : (i : ℕ) → i < length P → Told (get_or cs i 0) (get_or P i nowhere) (get_or P' i nowhere)
      unfolding TellsTo TellsUnder
      each i l =
          let d : i / n < length s.working = div_below i n (length s.working) (omega (arith, select-count v x mode n t (entries_of s.list) s.working lv)) in
          rw (place i l, place' i l)
          (tells i (omega (arith, long)) (get_or s.working (i / n) nowhere) (get_or s'.working (i / n) nowhere) (h.told.each (i / n) d)
          (held-entry p.old.working p.old.len s.working (i / n) (ap (λ (r : BareRun). r.working) h.old) (omega (arith, h.len)) (omega (arith, h.len))))

    pub worked-select : Worked v v' x p (Select mode n t) cs
    unfolding Worked act selected
    worked-select s s' h = record { same = alike s s' h; each = each s s' h }

-- ---- a loop over the steps

-- p is where the first k actions lead both runs
pub record Reached (v v' : View) (x : ℕ) (actions : List Action) (k : ℕ) (p : Both) : Type 0 where
  pub old : Ran v x actions k p.old
  pub new : Ran v' x actions k p.new
  pub beside : Beside (run_to v x actions k) (run_to v' x actions k) p

module _ (v v' : View) (x : ℕ) (actions : List Action) where
  pub reached-start : (q q' : Progress) (cs ls : List ℕ) → Ran v x actions 0 q → Ran v' x actions 0 q' → q.len ≡ 0 → q.emitted ≡ 0
      → Reached v v' x actions 0 (record { old = q; new = q'; causes = cs; list = ls })
  unfolding run_to
  reached-start q q' cs ls r r' z y =
      record {
        old = r;
        new = r';
        beside =
            record {
              old = r.is ∙ sym (run-bare v x actions 0);
              new = r'.is ∙ sym (run-bare v' x actions 0);
              len = sym z;
              emitted = sym y;
              told = record { same = refl; each = λ i h. absurd (omega arith) };
              listed = record { same = refl; each = λ i h. absurd (omega arith) };
            };
      }

  pub reached-more : (k : ℕ) (p q : Both) (a : Action) → a ≡ get_or actions k Idle → Reached v v' x actions k p → Leads v v' x p a q
      → Reached v v' x actions (k + 1) q
  unfolding run_to
  reached-more k p q a e h l =
      record {
        old = ran-more v x actions k p.old q.old a e h.old l.old;
        new = ran-more v' x actions k p.new q.new a e h.new l.new;
        beside = rw (add-one k, ← e) (l.beside (run_to v x actions k) (run_to v' x actions k) h.beside);
      }

  -- the causes of the list
  pub reached-causes : (k : ℕ) (p : Both) → Reached v v' x actions k p → (j : ℕ) → j < length (run_to v x actions k).list
      → get_or p.list j 0 ≡ cause_of (parting (get_or (run_to v x actions k).list j nowhere).walk (get_or (run_to v' x actions k).list j nowhere).walk)
  reached-causes k p h j l = told_is _ _ _ (h.beside.listed.each j l)

-- where the rule is kept to, the next action can be done in both runs
pub able : {plan values values' : List ℕ} {actions : List Action} → Sound plan → Ready plan values actions → Ready plan values' actions
    → every not_first_n actions ≡ true → (x k : ℕ) (p : Both) (a : Action) → k < length actions → k ≤ 16 → a ≡ get_or actions k Idle
    → Reached (view_in plan values) (view_in plan values') x actions k p → Able p a
able {actions = actions} sound ready ready' independent x k p a h m e r = (
  (omega (arith, r.old.tries), doable sound ready x k p.old a h e r.old),
  (omega (arith, r.new.tries), doable sound ready' x k p.new a h e r.new),
  rw e (every-at not_first_n actions k Idle independent h),
)
