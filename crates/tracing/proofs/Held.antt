-- Document 02, "One drive, one place": an item that is held is held by one place alone, and what is not held is at none, as `Held` of specs/
-- says where it is looked for. Assumes nothing.
use Rattle.std.specs.Prelude.{◌≡◌, Bool, cond, ℕ, suc, ◌+◌, ◌/◌, ◌%◌, ◌<◌, ◌≤◌, eqb, get_or, take}
use Rattle.std.proofs.Math.Path.{refl, sym, ap, subst}
use Rattle.std.proofs.Common.{◌∙◌, le_of_lt, arith}
use Rattle.std.proofs.Math.Bool.{true, false, false≢true}
use mathlib.Core.List.{List, ◌++◌, map, Memᴰ}
use Rattle.std.proofs.Math.Logic.{⊎_elim}
use borrow.Author.Tests.{lt-leb, leb-false, eqb-false}
use Rattle.std.proofs.Math.ListN.{length, length-map, length-append, get_or-append}
use Rattle.std.proofs.Math.Seq.{get_or-append-add}
use Rattle.definitions.specs.declared.Action.TheVariants.{Select}
use Rattle.definitions.specs.declared.Event.TheVariants.{Tested}
use Rattle.definitions.specs.declared.Mode.{Mode}
use Rattle.definitions.specs.declared.Verdict.{Verdict}
use Rattle.definitions.specs.Lists.{has}
use Rattle.definitions.specs.Map.{Map, is_bucket, bucket_number, actions_of}
use Rattle.definitions.specs.View.{type_of, view_of}
use Rattle.definitions.specs.Walk.{hole, rank_of}
use Rattle.definitions.specs.Select.{Place, entries_of, items_of, nowhere}
use Rattle.laws.specs.Lists.{get_d-mapped}
use Rattle.laws.specs.Members.{mem-at, at_mem, mem-has, has-mem, has_either, has-neither, each_at}
use Rattle.laws.specs.Loadable.{Loadable}
use Rattle.laws.specs.Blocks.{step-inside}
use Rattle.laws.specs.Forest.{Holds, is, above, holds-kind, one-holder, type-device, kids_of, forest}
use Rattle.laws.specs.Found.{DrawnBy, each-entry, device-number, present-ranged, drawn-present, emitted-devices}
use Rattle.laws.specs.Origins.{Tests, rank-grounded}
use Rattle.laws.specs.OnePlace.{Alone, alone_at, below_holds, Keeps, Out}
use Rattle.laws.proofs.OnePlace.{selected-out}
use Rattle.tracing.specs.Runs.{leaves, no_rank, rank_under, step_at, working_at, list_at, place_at, step-above, held-at, not-held}
use Rattle.tracing.specs.Listed.{Emitted, listed-from, list-place, emitted-one}
use Rattle.tracing.specs.Held.{Before, own, listed, held_of, OnlyAt, Nowhere}

module _ (m : Map) (L : Loadable m) (x k n t : ℕ) (mode : Mode) (e : step_at m k ≡ Select mode n t) (p : ℕ) where
  -- what is held as place p is made
  abbrev pub held_at : List ℕ
  held_at = entries_of (list_at m x k) ++ items_of (take p (working_at m x (suc k)))

  inside : k < length (actions_of m)
  inside = step-inside (actions_of m) k (λ q. let z : ◌≡◌ {A = ℕ} 0 1 = cc in omega arith)

  out : Out m t (entries_of (list_at m x k)) (working_at m x (suc k))
  unfolding list_at working_at
  out = selected-out m L x k n t mode e

  keeps : (q : ℕ) → q < length (working_at m x (suc k)) → Keeps m t (place_at m x (suc k) q)
  unfolding place_at
  keeps q h = each_at (Keeps m t) (working_at m x (suc k)) q nowhere out.keeps h

  -- an item that was drawn is no hole
  no-hole : (i : ℕ) → DrawnBy (view_of m) x i → i ≡ hole → ⊥
  no-hole i d q = ⊎_elim (λ h. omega (arith, q, h)) (λ h. omega (arith, q, h.0)) (present-ranged m L i (drawn-present m L x i d))

  -- a device holds nothing but itself
  device-holds : (i d : ℕ) → is_bucket i ≡ false → Holds (kids_of m) i d → i ≡ d
  device-holds i d z (is q) = q
  device-holds i d z (above {p = o} n h) =
      let low = type-device m i (leb-false 65536 i z) in
      absurd (omega (arith, low, (forest m L).falls o d n, holds-kind (kids_of m) (type_of m) (forest m L) h))

  -- no bucket is emitted: "Buckets are held within their own select only."
  no-bucket : (i : ℕ) → has i (entries_of (list_at m x k)) ≡ true → is_bucket i ≡ false
  unfolding list_at
  no-bucket i h =
      ⊎_elim (λ q. lt-leb 65536 i (omega arith)) (λ d. lt-leb 65536 i (omega (arith, device-number m L i d)))
      (each-entry _ (list_at m x k) (emitted-devices m L x k (le_of_lt inside)) i (has-mem i (entries_of (list_at m x k)) h))

  -- ---- what is held is found

  abbrev Found : ℕ → Type 0
  Found i = (l : ℕ) × (q : ℕ) × Before m x k p i l q × (held_of (is_bucket i) (place_at m x l q) ≡ i)

  found-listed : (i : ℕ) → has i (entries_of (list_at m x k)) ≡ true → Found i
  unfolding entries_of
  found-listed i h =
      let z = no-bucket i h in
      let (j, g, s) = at_mem 0 (has-mem i (entries_of (list_at m x k)) h) in
      let within : j < length (list_at m x k) = omega (arith, g, length-map (list_at m x k) (λ (a : Place). a.entry)) in
      let (l, q, o, E) = listed-from m x k j within in
      let there = list-place m x k j l q o E in
      (l, q, listed z o E, rw z (ap (λ (a : Place). a.entry) (sym there.1) ∙ sym (get_d-mapped (λ (a : Place). a.entry) (list_at m x k) j nowhere 0 within) ∙ s))

  found-own : (i : ℕ) → DrawnBy (view_of m) x i → has i (items_of (take p (working_at m x (suc k)))) ≡ true → Found i
  unfolding place_at
  found-own i d h =
      let (q, o, g, s) = held-at (working_at m x (suc k)) p i h in
      (suc k, q, own o, go (is_bucket i) refl q g s)
    where
      go : (b : Bool) → is_bucket i ≡ b → (q : ℕ) → q < length (working_at m x (suc k)) → (place_at m x (suc k) q).item ≡ i → held_of b (place_at m x (suc k) q) ≡ i
      go true z q g s = s
      go false z q g s =
          ⊎_elim (λ y. absurd (no-hole i d (sym s ∙ y.0)))
          (λ (y, o). sym (device-holds i (place_at m x (suc k) q).entry z (subst (λ (a : ℕ). Holds (kids_of m) a (place_at m x (suc k) q).entry) s o))) (keeps q g)

  found : (i : ℕ) → DrawnBy (view_of m) x i → has i held_at ≡ true → Found i
  found i d h = ⊎_elim (found-listed i) (found-own i d) (has_either i (entries_of (list_at m x k)) (items_of (take p (working_at m x (suc k)))) h)

  -- ---- and at one place alone

  -- what is emitted, and behind it what the places of the select hold
  abbrev all : Bool → List ℕ
  all b = entries_of (list_at m x k) ++ map (held_of b) (working_at m x (suc k))

  alone : (b : Bool) → Alone (all b)
  unfolding entries_of items_of
  alone true = out.items
  alone false = out.entries

  emitted : ℕ
  emitted = length (entries_of (list_at m x k))

  emitted-most : (b : Bool) → emitted ≤ length (all b)
  unfolding emitted
  emitted-most b = omega (arith, length-append (entries_of (list_at m x k)) (map (held_of b) (working_at m x (suc k))))

  -- where a place of the select stands in that, and one that was emitted
  at_own : (b : Bool) (q : ℕ) → q < length (working_at m x (suc k))
      → (emitted + q < length (all b)) × (get_or (all b) (emitted + q) 0 ≡ held_of b (place_at m x (suc k) q))
  unfolding emitted place_at
  at_own b q h =
      let es = entries_of (list_at m x k) in
      let ns = map (held_of b) (working_at m x (suc k)) in (
        omega (arith, length-append es ns, length-map (working_at m x (suc k)) (held_of b)),
        get_or-append-add es ns q 0 ∙ get_d-mapped (held_of b) (working_at m x (suc k)) q nowhere 0 h,
      )

  at_listed : (b : Bool) (j l q : ℕ) → l < k → Emitted m x j l q → (j < emitted) × (get_or (all b) j 0 ≡ (place_at m x l q).entry)
  unfolding emitted entries_of
  at_listed b j l q h E =
      let there = list-place m x k j l q h E in
      let g : j < emitted = omega (arith, there.0, length-map (list_at m x k) (λ (a : Place). a.entry)) in (
        g,
        get_or-append (entries_of (list_at m x k)) _ 0 j g ∙ get_d-mapped (λ (a : Place). a.entry) (list_at m x k) j nowhere 0 there.0 ∙ ap (λ (a : Place). a.entry) there.1,
      )

  one-before : p < length (working_at m x (suc k)) → (i : ℕ) → DrawnBy (view_of m) x i → {l q l' q' : ℕ} → Before m x k p i l q → Before m x k p i l' q'
      → held_of (is_bucket i) (place_at m x l q) ≡ i → held_of (is_bucket i) (place_at m x l' q') ≡ i → (l ≡ l') × (q ≡ q')
  one-before in_p i d = go
    where
      b : Bool
      b = is_bucket i

      one : (j l : ℕ) → j < length (all b) → l < length (all b) → get_or (all b) j 0 ≡ i → get_or (all b) l 0 ≡ i → j ≡ l
      one = alone_at (all b) (alone b) i (no-hole i d)

      go : {l q l' q' : ℕ} → Before m x k p i l q → Before m x k p i l' q' → held_of b (place_at m x l q) ≡ i → held_of b (place_at m x l' q') ≡ i → (l ≡ l') × (q ≡ q')
      go (own {q} g) (own {q = q'} g') s s' =
          let a = at_own b q (omega arith) in
          let a' = at_own b q' (omega arith) in
          (refl, omega (arith, one (emitted + q) (emitted + q') a.0 a'.0 (a.1 ∙ s) (a'.1 ∙ s')))
      go (own {q} g) (listed {j} {l} {q = o} z h E) s s' =
          let a = at_own b q (omega arith) in
          let c = at_listed b j l o h E in
          absurd (omega (arith, c.0, one (emitted + q) j a.0 (omega (arith, c.0, emitted-most b)) (a.1 ∙ s) (c.1 ∙ rw z at s')))
      go (listed {j} {l} {q = o} z h E) (own {q} g) s s' =
          let a = at_own b q (omega arith) in
          let c = at_listed b j l o h E in
          absurd (omega (arith, c.0, one j (emitted + q) (omega (arith, c.0, emitted-most b)) a.0 (c.1 ∙ rw z at s) (a.1 ∙ s')))
      go (listed {j} {l} {q} z h E) (listed {j = j'} {l = l'} {q = q'} z' h' E') s s' =
          let c = at_listed b j l q h E in
          let c' = at_listed b j' l' q' h' E' in
          let e = one j j' (omega (arith, c.0, emitted-most b)) (omega (arith, c'.0, emitted-most b)) (c.1 ∙ rw z at s) (c'.1 ∙ rw z' at s') in
          emitted-one m x j' l q l' q' (subst (λ (y : ℕ). Emitted m x y l q) e E) E'

  -- an item that is held is held by one place alone
  pub held-once : p < length (working_at m x (suc k)) → (i : ℕ) → DrawnBy (view_of m) x i → has i held_at ≡ true
      → (l : ℕ) × (q : ℕ) × OnlyAt m x (place_at m x) k p i l q
  held-once in_p i d h =
      let (l, q, b, s) = found i d h in
      (l, q, record { before = b; holds = s; only = λ o u c y. one-before in_p i d c b y s })

  -- ---- what is not held is at none

  module _ (in_p : p < length (working_at m x (suc k))) (i : ℕ) (T : Tests m L x t held_at i) (h : has i held_at ≡ false) where
    -- no own place before has item o
    abbrev Unheld : ℕ → Type 0
    Unheld o = (q : ℕ) → q < p → (place_at m x (suc k) q).item ≡ o → ⊥

    unheld : (o : ℕ) → has o held_at ≡ false → Unheld o
    unfolding place_at
    unheld o f q g s =
        not-held (working_at m x (suc k)) p o q (has-neither o (entries_of (list_at m x k)) (items_of (take p (working_at m x (suc k)))) f).1 g (omega arith) s

    -- a device is the entry of none of them: that place's item would be of the type sought and hold it, so it would be the item that is sought
    -- here or beneath which it is sought, and that is not held
    none-own : (q : ℕ) → q < p → (place_at m x (suc k) q).entry ≡ i → ⊥
    unfolding view_of
    none-own q g s =
        ⊎_elim (λ y. no-hole i T.0 (sym s ∙ y.1))
        (λ (y, o).
        let o' : Holds (kids_of m) (place_at m x (suc k) q).item i = subst (Holds (kids_of m) (place_at m x (suc k) q).item) s o in
        ⊎_elim
        (λ z. unheld i h q g (one-holder (kids_of m) (type_of m) (forest m L) (y ∙ sym z) o' (is refl)))
        (λ (b, z, f, w). unheld b f q g (one-holder (kids_of m) (type_of m) (forest m L) (y ∙ sym z) o' (below_holds m w)))
        T.1)
        (keeps q (omega arith))

    -- so it is held by none
    pub free-nowhere : Nowhere m x (place_at m x) k p i
    unfolding entries_of
    free-nowhere l q (own {q = o} g) s = go (is_bucket i) s
      where
        go : (b : Bool) → held_of b (place_at m x (suc k) o) ≡ i → ⊥
        go true = unheld i h o g
        go false = none-own o g
    free-nowhere l q (listed {j} {l = a} {q = b} z g E) s =
        let there = list-place m x k j a b g E in
        let y : Memᴰ (get_or (list_at m x k) j nowhere).entry (entries_of (list_at m x k)) = mathlib.Core.List.Memᴰ.map (λ (a : Place). a.entry) (mem-at nowhere (list_at m x k) j there.0) in
        let w : (get_or (list_at m x k) j nowhere).entry ≡ i = ap (λ (a : Place). a.entry) there.1 ∙ (rw z at s) in
        false≢true (sym (has-neither i (entries_of (list_at m x k)) _ h).0 ∙ mem-has (subst (λ (o : ℕ). Memᴰ o (entries_of (list_at m x k))) w y))

  -- ---- what is tested for place p

  pub tested-sought : leaves mode ≡ true → p < length (working_at m x (suc k)) → (i : ℕ) (w : Verdict)
      → Memᴰ (Tested i w) (rank_under (view_of m) x mode n t held_at (place_at m x k (p / n)) (p % n + 1)).events → Tests m L x t held_at i
  unfolding rank_under place_at working_at
  tested-sought lv in_p i w = go (eqb (place_at m x k (p / n)).entry hole) refl
    where
      up : Place
      up = place_at m x k (p / n)

      go : (b : Bool) → eqb up.entry hole ≡ b
          → Memᴰ (Tested i w) (cond b no_rank (rank_of (view_of m) x mode n t held_at (bucket_number up.entry) (p % n + 1) 0)).events → Tests m L x t held_at i
      go true z o = elim o [ ]
      go false z o =
          rank-grounded m L x k n t mode e up (mem-at nowhere (working_at m x k) (p / n) (step-above m x k mode n t e lv p in_p)) (eqb-false up.entry hole z) held_at
          (p % n + 1) 0 (Tested i w) o
