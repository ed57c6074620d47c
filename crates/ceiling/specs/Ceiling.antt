-- Document 02, change 7: "for independent selects and select through, lowering one acceptance moves places only in groups whose list held that
-- drive before the edit, and raising it only in groups whose list holds it afterwards. Moves are then at most W times the number of those
-- groups." Of a loadable map that 17 admits, and an edit that fits. Assumes nothing.
use Rattle.std.specs.Prelude.{◌≡◌, Bool, true, false, cond, leb, eqb, get_or, Option, Some}
use Rattle.std.proofs.Math.Path.{refl, sym, subst}
use Rattle.std.proofs.Common.{ap, ◌∙◌, mul-add, length-append, eq-eqb, ltb-true, lt-ltb}
use Rattle.std.proofs.lemmas.Bool.{false≢true, lt-leb}
use mathlib.Core.List.Memᴰ
use mathlib.Core.List.{List, [], ◌∷◌, ◌++◌, Memᴰ}
use Rattle.std.proofs.Math.Logic.{⊎_elim}
use Prim.Native.Nat.{ℕ, zero, suc, ◌+◌, ◌*◌, ◌%◌, ◌<◌, ◌≤◌}
use native.Mathlib.Omega.{arith}
use Rattle.std.proofs.Math.ListN.{length}
use Rattle.definitions.specs.declared.Verdict.TheVariants.{Rejected, Passed}
use Rattle.definitions.specs.declared.Event.TheVariants.{Tested}
use Rattle.definitions.specs.declared.Change.{Change}
use Rattle.definitions.specs.declared.Change.TheVariants.{Acceptance}
use Rattle.definitions.specs.declared.Move.{Move}
use Rattle.definitions.specs.declared.Verdict.{Verdict}
use Rattle.definitions.specs.Lists.{kept}
use Rattle.definitions.specs.Hash.{hash2}
use Rattle.definitions.specs.Map.{Map}
use Rattle.definitions.specs.View.{View, view_of, acceptance_of}
use Rattle.definitions.specs.Walk.{accepts, device_accepts, accepted}
use Rattle.definitions.specs.Select.{Place, nowhere}
use Rattle.definitions.specs.Rule.{Placed, placed_of, width_of}
use Rattle.definitions.specs.Table.{runs_to, runs_of}
use Rattle.definitions.specs.Load.{has_device}
use Rattle.definitions.specs.Edit.{put, move_at, row_moves_to, row_moves, nothing_placed, moves_to, moves_in, moves_of}
use Rattle.definitions.specs.Ceiling.{holds, holders_in, holders, ceiling}
use Rattle.definitions.specs.Calls.{independent, fits}
use Rattle.laws.specs.Lists.{both}
use Rattle.laws.specs.Loadable.{Loadable, put-loadable, put-groups, put-width, put-acceptance}
use Rattle.laws.specs.Found.{device-number}
use Rattle.tracing.specs.Edited.{put_step, put-independent}
use Rattle.tracing.specs.Traced.{judge, at_old, at_new}
use Rattle.tracing.specs.Moves.{move_of, row_move_lem, runs-count}
use Rattle.tracing.proofs.Moves.{moves-traced}
use Rattle.ceiling.specs.Source.{in_list, Source, source}

-- ---- how many moves

pub none : (vs : List Move) → ((v : Move) → Memᴰ v vs → ⊥) → vs ≡ []
none [] f = refl
none (v ∷ vs) f = absurd (f v (Memᴰ.head refl))

-- a row of k places has at most k moves
row-most : (g : ℕ) (olds news : List Place) (k : ℕ) → length (row_moves_to g olds news k) ≤ k
unfolding row_moves_to move_at
row-most g olds news zero = omega arith
row-most g olds news (suc k) =
    let a = get_or olds k nowhere in
    let b = get_or news k nowhere in
    omega (arith, length-append (row_moves_to g olds news k) (move_at g (suc k) a b), row-most g olds news k, one (eqb a.entry b.entry) (move_of g (suc k) a b))
  where
    one : (t : Bool) (v : Move) → length (cond t [] (v ∷ [])) ≤ 1
    one true v = omega arith
    one false v = omega arith

-- one group more
pub kept_more : (p : Placed → Bool) (xs : List Placed) (y : Placed) → length (kept p (xs ++ (y ∷ []))) ≡ length (kept p xs) + cond (p y) 1 0
unfolding kept
kept_more p [] y = go (p y)
  where
    go : (b : Bool) → length (cond b (y ∷ []) []) ≡ 0 + cond b 1 0
    go true = refl
    go false = refl
kept_more p (x ∷ xs) y = go (p x) (kept_more p xs y)
  where
    go : (b : Bool) → length (kept p (xs ++ (y ∷ []))) ≡ length (kept p xs) + cond (p y) 1 0
        → length (cond b (x ∷ kept p (xs ++ (y ∷ []))) (kept p (xs ++ (y ∷ [])))) ≡ length (cond b (x ∷ kept p xs) (kept p xs)) + cond (p y) 1 0
    go true e = omega (arith, e)
    go false e = e

module _ (m : Map) (d w : ℕ) (olds news : List Placed) where
  abbrev row_of : ℕ → List Move
  row_of g = row_moves_to g (get_or olds g nothing_placed).places (get_or news g nothing_placed).places w

  -- where every move is of a group whose list on map m holds the device, there are at most w for each of these
  count : (n : ℕ) → ((v : Move) → Memᴰ v (moves_to w olds news n) → holds d (placed_of m v.group) ≡ true)
      → length (moves_to w olds news n) ≤ w * holders_in d (runs_to m n)
  unfolding moves_to row_moves runs_to holders_in
  count zero f = omega arith
  count (suc g) f =
      rw (kept_more (holds d) (runs_to m g) (placed_of m g)) (go (holds d (placed_of m g)) refl (count g (λ v i. f v (Memᴰ.append_left _ i))))
    where
      before : List Move
      before = moves_to w olds news g

      k : ℕ
      k = length (kept (holds d) (runs_to m g))

      go : (b : Bool) → holds d (placed_of m g) ≡ b → length before ≤ w * k → length (before ++ row_of g) ≤ w * (k + cond b 1 0)
      go true e h = omega (arith, length-append before (row_of g), row-most g (get_or olds g nothing_placed).places (get_or news g nothing_placed).places w, mul-add w k 1)
      go false e h =
          let z = none (row_of g) (λ v i.
          let (j, l, q, o) = row_move_lem g (get_or olds g nothing_placed).places (get_or news g nothing_placed).places w v i in
          false≢true (sym e ∙ ap (λ (x : ℕ). holds d (placed_of m x)) (sym (ap (λ (y : Move). y.group) q)) ∙ f v (Memᴰ.append_right before i))) in
          omega (arith, length-append before (row_of g), ap length z, mul-add w k 0)

-- ---- the groups that can move

-- what a lesser acceptance takes, a greater takes
accepts-more : (h a b : ℕ) → a ≤ b → accepts h a ≡ true → accepts h b ≡ true
unfolding accepts
accepts-more h a b l e = let q = ltb-true (h % 65536) a e in lt-ltb (h % 65536) b (omega arith)

accepted-more : (v w : View) (x d : ℕ) → v.seed ≡ w.seed → d < 65536 → v.acceptance d ≤ w.acceptance d → accepted v x d ≡ true → accepted w x d ≡ true
unfolding accepted device_accepts
accepted-more v w x d p s l e =
    rw (lt-leb 65536 d s) (accepts-more _ (v.acceptance d) (w.acceptance d) l (subst (λ (o : ℕ). accepts (hash2 o x d) (v.acceptance d) ≡ true) p (rw (lt-leb 65536 d s) at e)))

passed-accepted : (b : Bool) → Passed ≡ judge b → b ≡ true
passed-accepted true e = refl
passed-accepted false e = absurd (let z : ◌≡◌ {A = ℕ} 0 1 = cc in omega arith)

rejected-not : (b : Bool) → Rejected ≡ judge b → b ≡ true → ⊥
rejected-not true e q = let z : ◌≡◌ {A = ℕ} 0 1 = cc in omega arith
rejected-not false e q = false≢true q

module _ (m : Map) (d a : ℕ) (L : Loadable m) (ind : independent m ≡ true) (f : fits m (Some (Acceptance d a)) ≡ true) where
  abbrev c : Option Change
  c = Some (Acceptance d a)

  abbrev m' : Map
  m' = put m c

  present : has_device m d ≡ true
  unfolding fits
  present = (both (has_device m d) (leb a 65536) f).0

  small : d < 1024
  small = device-number m L d present

  -- the acceptance after the edit
  new_is : (view_of m').acceptance d ≡ a
  unfolding view_of
  new_is = put-acceptance m d a present d ∙ rw (eq-eqb d d refl)

  -- the run in which the device passed has it in its list
  old-list : (x : ℕ) (s : Source m c x d) → s.u ≡ Passed → holds d (placed_of m x) ≡ true
  old-list x s q =
      let h = s.here in
      in_list m L ind x s.k s.p s.n h.wanted d h.mode h.step h.leaves-holes small h.olds h.old-is
      (subst (λ (o : Verdict). Memᴰ (Tested d o) h.olds) q (at_old h.at))

  new-list : (x : ℕ) (s : Source m c x d) → s.w ≡ Passed → holds d (placed_of m' x) ≡ true
  new-list x s q =
      let h = s.here in
      in_list m' (put-loadable m c L f) (put-independent m c ∙ ind) x s.k s.p s.n h.wanted d h.mode (put_step m c s.k _ h.step) h.leaves-holes small h.news h.new_is
      (subst (λ (o : Verdict). Memᴰ (Tested d o) h.news) q (at_new h.at))

  -- a test that one run alone passes is made there by the greater acceptance
  old-passes : (x : ℕ) (s : Source m c x d) → (s.u ≡ Passed) × (s.w ≡ Rejected) → (view_of m).acceptance d ≤ (view_of m').acceptance d → ⊥
  unfolding view_of
  old-passes x s q l =
      rejected-not (accepted (view_of m') x d) (sym q.1 ∙ s.judged.1)
      (accepted-more (view_of m) (view_of m') x d refl (omega (arith, small)) l (passed-accepted (accepted (view_of m) x d) (sym q.0 ∙ s.judged.0)))

  new-passes : (x : ℕ) (s : Source m c x d) → (s.u ≡ Rejected) × (s.w ≡ Passed) → (view_of m').acceptance d ≤ (view_of m).acceptance d → ⊥
  unfolding view_of
  new-passes x s q l =
      rejected-not (accepted (view_of m) x d) (sym q.0 ∙ s.judged.0)
      (accepted-more (view_of m') (view_of m) x d refl (omega (arith, small)) l (passed-accepted (accepted (view_of m') x d) (sym q.1 ∙ s.judged.1)))

  -- LOWERED: "moves places only in groups whose list held that drive before the edit"
  held-before : a ≤ acceptance_of m d → (v : Move) → Memᴰ v (moves_of m m') → holds d (placed_of m v.group) ≡ true
  unfolding view_of
  held-before l v i =
      let s = source m c v.group d a refl ((moves-traced m c L ind f).each v i).cause in
      ⊎_elim (λ q. old-list v.group s q.0) (λ q. absurd (new-passes v.group s q (omega (arith, new_is, l)))) s.ends

  pub lowered : a ≤ acceptance_of m d → (v : Move) → Memᴰ v (moves_of m m') → holds d (placed_of m v.group) ≡ true
  lowered = held-before

  -- RAISED: "and raising it only in groups whose list holds it afterwards"
  held-after : acceptance_of m d ≤ a → (v : Move) → Memᴰ v (moves_of m m') → holds d (placed_of m' v.group) ≡ true
  unfolding view_of
  held-after l v i =
      let s = source m c v.group d a refl ((moves-traced m c L ind f).each v i).cause in
      ⊎_elim (λ q. absurd (old-passes v.group s q (omega (arith, new_is, l)))) (λ q. new-list v.group s q.1) s.ends

  pub raised : acceptance_of m d ≤ a → (v : Move) → Memᴰ v (moves_of m m') → holds d (placed_of m' v.group) ≡ true
  raised = held-after

  -- "Moves are then at most W times the number of those groups."
  most : (h : Map) → h.groups ≡ m.groups → ((v : Move) → Memᴰ v (moves_of m m') → holds d (placed_of h v.group) ≡ true)
      → length (moves_of m m') ≤ width_of m * holders h d
  unfolding moves_of moves_in holders runs_of
  most h e g =
      subst (λ (k : ℕ). length (moves_of m m') ≤ width_of m * holders_in d (runs_to h k)) (runs-count m m.groups ∙ sym e)
      (count h d (width_of m) (runs_of m) (runs_of m') (length (runs_of m)) g)

  pub lowered-most : a ≤ acceptance_of m d → length (moves_of m m') ≤ ceiling m d
  unfolding ceiling
  lowered-most l = most m refl (held-before l)

  pub raised-most : acceptance_of m d ≤ a → length (moves_of m m') ≤ ceiling m' d
  unfolding ceiling
  raised-most l =
      subst (λ (k : ℕ). length (moves_of m m') ≤ k * holders m' d) (sym (put-width m c)) (most m' (put-groups m c) (held-after l))

  -- an acceptance set to the value that it has is both, and moves nothing
  pub unchanged : a ≡ acceptance_of m d → moves_of m m' ≡ []
  unfolding view_of
  unchanged q = none (moves_of m m') (λ v i.
      let s = source m c v.group d a refl ((moves-traced m c L ind f).each v i).cause in
      ⊎_elim
      (λ o. old-passes v.group s o (omega (arith, new_is, q)))
      (λ o. new-passes v.group s o (omega (arith, new_is, q))) s.ends)
