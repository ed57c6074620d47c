-- Document 01, "Walk, select and rule": where entries come from. What a select puts out is a hole, or was drawn and has the type that the
-- select's mode reaches; what stands in a working list is a hole, or was taken or drawn and has the type reached. So in a loadable map each
-- entry of a group's list is a hole or a device of the map. Assumes nothing.
use Rattle.std.proofs.Math.Path.{◌≡◌, refl, subst}
use Rattle.std.proofs.Common.{◌∙◌, le_of_lt}
use Rattle.std.specs.Prelude.{Bool, ◌&&◌, ◌⊎◌, ltb, Option, None, Some}
use Rattle.std.proofs.Math.Bool.{true, false, cond}
use mathlib.Core.List.Memᴰ
use mathlib.Core.List.{List, [], ◌∷◌, ◌++◌, Memᴰ}
use Rattle.std.proofs.Math.Logic.{inl, inr, ⊎_elim}
use Prim.Native.Nat.{ℕ, zero, suc, ◌-◌, ◌<◌, ◌≤◌}
use native.Mathlib.Omega.{arith}
use Rattle.std.proofs.Math.Dec.{eqb}
use Rattle.std.proofs.Math.ListN.{length, get_or}
use borrow.Author.Tests.{eqb-true, eqb-false, leb-true, le-leb}
use Rattle.definitions.specs.declared.Action.{Action}
use Rattle.definitions.specs.declared.Action.TheVariants.{Take, Select, Emit, Idle}
use Rattle.definitions.specs.declared.Bucket.{Bucket}
use Rattle.definitions.specs.declared.Device.{Device}
use Rattle.definitions.specs.declared.Link.{Link}
use Rattle.definitions.specs.declared.Mode.{Mode}
use Rattle.definitions.specs.declared.Mode.TheVariants.{FirstN, Independent, Through}
use Rattle.definitions.specs.declared.State.{State}
use Rattle.definitions.specs.declared.Ranked.{Ranked}
use Rattle.definitions.specs.declared.Turn.{Turn}
use Rattle.definitions.specs.declared.Turn.TheVariants.{Fill, Fail}
use Rattle.definitions.specs.declared.Verdict.{Verdict}
use Rattle.definitions.specs.declared.Verdict.TheVariants.{Held, Rejected, Passed}
use Rattle.definitions.specs.Lists.{has}
use Rattle.definitions.specs.Map.{Map, is_bucket, bucket_item, bucket_number, actions_of}
use Rattle.definitions.specs.View.{View, children_of, bucket_type, type_by, type_of, view_of}
use Rattle.definitions.specs.Walk.{hole, Descent, RankEvents, draw_at, landing, deeper, on_winner, on_drawn, descend_in, descend, Trial, plain, plain_test, try_number, rank_start, rank_end, on_verdict, on_tried, tested, untested, onward, after_turn, on_turn, on_type, on_landed, on_descent, turn_of, rank_from, rank_by, inner_walk, found, sought, through_by, through_test, test_of, rank_of}
use Rattle.definitions.specs.Select.{Place, Selected, entries_of, items_of, place_under, put_out, holes_under, nowhere, with_rank, next_rank, ranks_to, with_holes, select_at, select_to, select_of}
use Rattle.definitions.specs.Rule.{Run, taken, selected, act, run_to, width_of, padded, placed_by, placed_of}
use Rattle.definitions.specs.Load.{device_ranged, bucket_ranged, has_device, has_bucket, has_item, takes_present, reaches}
use Rattle.laws.specs.Lists.{both, every-at}
use Rattle.laws.specs.Members.{mem-every, mem-at, Each, each_none, each-one, each_more, each-copies}
use Rattle.laws.specs.Counting.{number_at, lookup-is}
use Rattle.laws.specs.Kinds.{drawn-child}
use Rattle.laws.specs.Loadable.{Loadable, BucketRanged, ChildRanged, ranged-is, device-ranged, bucket-ranged, rising-is, present-is}
use Rattle.laws.specs.Blocks.{reached_by, reached, reached-inside, emit-inside}
use Rattle.laws.specs.Forest.{type-bucket, kids-bucket, kid-link}

-- item i is the winner of some draw of group x
abbrev pub DrawnBy : View → ℕ → ℕ → Type 0
DrawnBy v x i = (r : ℕ) × (b : ℕ) × (draw_at v x r b ≡ Some i)

-- a hole, or an item of type t that was drawn
abbrev pub Found : View → ℕ → ℕ → ℕ → Type 0
Found v x t e = (e ≡ hole) ⊎ (DrawnBy v x e × (v.type e ≡ t))

no-winner : (i : ℕ) → ◌≡◌ {A = Option ℕ} None (Some i) → ⊥
no-winner i e = let z : ◌≡◌ {A = ℕ} 0 1 = cc in omega arith

no-fill : (s : State) (i e k : ℕ) → ◌≡◌ {A = Turn} (Fail s) (Fill i e k) → ⊥
no-fill s i e k q = let z : ◌≡◌ {A = ℕ} 0 1 = cc in omega arith

-- ---- rank

-- what a descent comes to was drawn
module _ (v : View) (x t : ℕ) where
  descent-draws : (r k b i : ℕ) → (descend_in v x t r k b).landed.drawn ≡ Some i → DrawnBy v x i
  unfolding descend_in on_drawn on_winner landing deeper
  descent-draws r zero b i e = absurd (no-winner i e)
  descent-draws r (suc k) b i e = from (draw_at v x r b) refl e (λ c. descent-draws r k c i)
    where
      on : (j : ℕ) (u : Bool) → draw_at v x r b ≡ Some j → (on_winner (descend_in v x t r k) r b j u).landed.drawn ≡ Some i
          → ((c : ℕ) → (descend_in v x t r k c).landed.drawn ≡ Some i → DrawnBy v x i) → DrawnBy v x i
      on j true q h rest = rest (bucket_number j) h
      on j false q h rest = (r, b, q ∙ h)

      from : (d : Option ℕ) → draw_at v x r b ≡ d → (on_drawn v x t r (descend_in v x t r k) b d).landed.drawn ≡ Some i
          → ((c : ℕ) → (descend_in v x t r k c).landed.drawn ≡ Some i → DrawnBy v x i) → DrawnBy v x i
      from (Some j) q h rest = on j (ltb t (v.type j)) q h rest
      from None q h rest = absurd (no-winner i h)

-- item i of type t was drawn, and its test puts out e
pub record Passes (v : View) (x t : ℕ) (test : ℕ → ℕ → Trial) (i e : ℕ) : Type 0 where
  pub q : ℕ
  pub drawn : DrawnBy v x i
  pub type : v.type i ≡ t
  pub passed : (test q i).tried.verdict ≡ Passed
  pub entry : (test q i).tried.entry ≡ e

-- a rank ends in a hole, or in an item that passes
abbrev pub Ends : View → ℕ → ℕ → (ℕ → ℕ → Trial) → Ranked → Type 0
Ends v x t test k = ((k.item ≡ hole) × (k.entry ≡ hole)) ⊎ Passes v x t test k.item k.entry

module _ (v : View) (x : ℕ) (mode : Mode) (n t : ℕ) (test : ℕ → ℕ → Trial) (start r : ℕ) where
  verdict-fills : (s : State) (b i e k j f l : ℕ) (w : Verdict) → on_verdict start s b i e k w ≡ Fill j f l → (w ≡ Passed) × (i ≡ j) × (e ≡ f)
  unfolding on_verdict
  verdict-fills s b i e k j f l Held q = absurd (no-fill _ j f l q)
  verdict-fills s b i e k j f l Rejected q = absurd (no-fill _ j f l q)
  verdict-fills s b i e k j f l Passed q = (refl, (let z : i ≡ j = cc in z), (let z : e ≡ f = cc in z))

  -- a place is filled with what the descent came to, of the wanted type
  landed-fills : (s : State) (q j f l : ℕ) (c : Descent) (d : Option ℕ) → ((i : ℕ) → d ≡ Some i → DrawnBy v x i)
      → (on_landed v x mode n t test start r s q c.landed.bucket c.events d).turn ≡ Fill j f l → Passes v x t test j f
  unfolding on_landed on_type tested untested on_tried
  landed-fills s q j f l c None o e = absurd (no-fill _ j f l e)
  landed-fills s q j f l c (Some i) o e = go (eqb (v.type i) t) refl e
    where
      go : (u : Bool) → eqb (v.type i) t ≡ u → (on_type v x mode n t test start r s q c.landed.bucket c.events i u).turn ≡ Fill j f l
          → Passes v x t test j f
      go true h p =
          let w = (test q i).tried in
          let (passed, same, out) = verdict-fills s c.landed.bucket i w.entry w.inner j f l w.verdict p in
          subst (λ (y : ℕ). Passes v x t test y f) same
          (record { q = q; drawn = o i refl; type = eqb-true (v.type i) t h; passed = passed; entry = out })
      go false h p = absurd (no-fill _ j f l p)

  turn-fills : (s : State) (j f l : ℕ) → (turn_of v x mode n t test start r s).turn ≡ Fill j f l → Passes v x t test j f
  unfolding turn_of on_descent descend
  turn-fills s j f l e =
      let q = try_number mode n r s in
      let c = descend v x t q s.at in
      landed-fills s q j f l c c.landed.drawn (λ i h. descent-draws v x t q _ s.at i h) e

  rank-fills : (k : ℕ) (s : State) → Ends v x t test (rank_from v x mode n t test start r k s).ranked
  unfolding rank_from rank_end on_turn after_turn onward
  rank-fills zero s = inl (refl, refl)
  rank-fills (suc k) s = go (turn_of v x mode n t test start r s).turn refl (rank-fills k)
    where
      after : State → RankEvents
      after = rank_from v x mode n t test start r k

      go : (u : Turn) → (turn_of v x mode n t test start r s).turn ≡ u → ((z : State) → Ends v x t test (after z).ranked)
          → Ends v x t test (after_turn after s (turn_of v x mode n t test start r s).events u).ranked
      go (Fill i e j) q rest = inr (turn-fills s i e j q)
      go (Fail z) q rest = rest z

  pub rank-ends-in : (f₀ : ℕ) → Ends v x t test (rank_by v x mode n t test start r f₀).ranked
  unfolding rank_by
  rank-ends-in f₀ = rank-fills 50 (rank_start start f₀)

module _ (v : View) (x : ℕ) (held : List ℕ) where
  plain-found : (t i e : ℕ) → Passes v x t (plain_test v x held) i e → Found v x t e
  unfolding plain_test plain
  plain-found t i e P = subst (Found v x t) P.entry (inr (P.drawn, P.type))

  -- an inner walk finds none or a device
  inner-found : (n q i : ℕ) → Found v x 0 (inner_walk v x n held q i).ranked.entry
  unfolding inner_walk
  inner-found n q i =
      let k = (inner_walk v x n held q i).ranked in
      ⊎_elim (λ h. inl h.1) (λ P. plain-found 0 k.item k.entry P) (rank-ends-in v x Independent n 0 (plain_test v x held) (bucket_number i) q 0)

  -- what passes has, put out, the type that the mode reaches
  test-found : (mode : Mode) (n t i e : ℕ) → Passes v x t (test_of mode v x n held) i e → Found v x (reaches mode t) e
  unfolding test_of reaches through_test through_by plain sought found
  test-found FirstN n t i e P = plain-found t i e P
  test-found Independent n t i e P = plain-found t i e P
  test-found Through n t i e P = go (has i held) P.passed P.entry
    where
      go : (u : Bool) → (through_by v x n held P.q i u).tried.verdict ≡ Passed → (through_by v x n held P.q i u).tried.entry ≡ e → Found v x 0 e
      go true p s = absurd (let z : ◌≡◌ {A = ℕ} 0 1 = cc in omega arith)
      go false p s = subst (Found v x 0) s (inner-found n P.q i)

  -- the entry of a rank is a hole, or an item that was drawn, of the type that the mode reaches
  pub rank-found : (mode : Mode) (n t start r f₀ : ℕ)
      → Found v x (reaches mode t) (rank_of v x mode n t held start r f₀).ranked.entry
  unfolding rank_of
  rank-found mode n t start r f₀ =
      let test = test_of mode v x n held in
      let k = (rank_by v x mode n t test start r f₀).ranked in
      ⊎_elim (λ h. inl h.1) (λ P. test-found mode n t k.item k.entry P) (rank-ends-in v x mode n t test start r f₀)

-- ---- select

-- the entry of each place is such
abbrev pub Entries : (ℕ → Type 0) → List Place → Type 0
Entries P ps = Each (λ (p : Place). P p.entry) ps

-- so is each entry
pub each-entry : (P : ℕ → Type 0) (ps : List Place) → Entries P ps → Each P (entries_of ps)
unfolding entries_of
each-entry P ps h e i = let (p, j, q) = Memᴰ.of_map (λ (p : Place). p.entry) ps i in subst P q (h p j)

-- what holds of each hole under a place of the working list, and of what each rank at such a place puts out, holds of what a select puts out
module _ (v : View) (x : ℕ) (mode : Mode) (n t : ℕ) (before : List ℕ) (working : List Place) (Q : Place → Type 0)
    (under : (above : Place) → Memᴰ above working → Q (record { item = hole; entry = hole; walk = above.walk }))
    (ranked : (above : Place) → Memᴰ above working → (above.entry ≡ hole → ⊥) → (held : List ℕ) (r f₀ : ℕ)
    → Q (place_under above (rank_of v x mode n t held (bucket_number above.entry) r f₀))) where
  out-each : (o : Mode) (p : Place) → Q p → Each Q (put_out o p)
  unfolding put_out
  out-each Independent p h = each-one Q p h
  out-each Through p h = each-one Q p h
  out-each FirstN p h = go (eqb p.entry hole)
    where
      go : (u : Bool) → Each Q (cond u [] (p ∷ []))
      go true = each_none Q
      go false = each-one Q p h

  holes-each : (o : Mode) (above : Place) → Memᴰ above working → Each Q (holes_under o n above)
  unfolding holes_under
  holes-each Independent above i = each-copies Q n _ (under above i)
  holes-each Through above i = each-copies Q n _ (under above i)
  holes-each FirstN above i = each_none Q

  ranks-each : (above : Place) (s : Selected) (k : ℕ) → Memᴰ above working → (above.entry ≡ hole → ⊥) → Each Q s.places
      → Each Q (ranks_to v x mode n t before above s k).places
  unfolding ranks_to next_rank with_rank
  ranks-each above s zero i f h = h
  ranks-each above s (suc k) i f h =
      let o = ranks_to v x mode n t before above s k in
      each_more Q o.places _ (ranks-each above s k i f h) (out-each mode _ (ranked above i f (before ++ items_of o.places) (suc k) o.f))

  at_each : (above : Place) (s : Selected) → Memᴰ above working → Each Q s.places → (u : Bool) → eqb above.entry hole ≡ u
      → Each Q (select_at v x mode n t before above s u).places
  unfolding select_at with_holes
  at_each above s i h true e = each_more Q s.places _ h (holes-each mode above i)
  at_each above s i h false e = ranks-each above s n i (eqb-false above.entry hole e) h

  to-each : (k : ℕ) → k ≤ length working → Each Q (select_to v x mode n t before working k).places
  unfolding select_to
  to-each zero l = each_none Q
  to-each (suc k) l =
      let above = get_or working k nowhere in
      at_each above (select_to v x mode n t before working k) (mem-at nowhere working k l) (to-each k (omega arith)) (eqb above.entry hole) refl

  pub select-each : Each Q (select_of v x mode n t before working).places
  unfolding select_of
  select-each = to-each (length working) (omega arith)

-- each entry that a select puts out is a hole, or an item that was drawn, of the type that the mode reaches
pub select-found : (v : View) (x : ℕ) (mode : Mode) (n t : ℕ) (before : List ℕ) (working : List Place)
    → Entries (Found v x (reaches mode t)) (select_of v x mode n t before working).places
unfolding place_under
select-found v x mode n t before working =
    select-each v x mode n t before working (λ (p : Place). Found v x (reaches mode t) p.entry) (λ above i. inl refl)
    (λ above i f held r f₀. rank-found v x held mode n t (bucket_number above.entry) r f₀)

-- ---- rule

-- a hole, or an item of type u that is such
abbrev pub Reached : View → (ℕ → Type 0) → ℕ → ℕ → Type 0
Reached v P u e = (e ≡ hole) ⊎ (P e × (v.type e ≡ u))

-- P holds of what is drawn, and of each bucket taken, whose type types gives
module _ (v : View) (x : ℕ) (types : ℕ → ℕ) (actions : List Action) (P : ℕ → Type 0) (drawn : (i : ℕ) → DrawnBy v x i → P i)
    (takes : (k b : ℕ) → k < length actions → get_or actions k Idle ≡ Take b → P (bucket_item b) × (v.type (bucket_item b) ≡ types b)) where
  act-reached : (s : Run) (k u : ℕ) (a : Action) → k < length actions → get_or actions k Idle ≡ a → Entries (Reached v P u) s.working
      → Entries (Reached v P (reached_by types u a)) (act v x s a).working
  unfolding act taken selected reached_by
  act-reached s k u (Take b) l e h = each-one (λ (p : Place). Reached v P (types b) p.entry) _ (inr (takes k b l e))
  act-reached s k u (Select mode n t) l e h =
      λ p i. ⊎_elim (λ q. inl q) (λ (d, q). inr (drawn p.entry d, q)) (select-found v x mode n t (entries_of s.list) s.working p i)
  act-reached s k u Emit l e h = h
  act-reached s k u Idle l e h = h

  -- after the first k steps each entry of the working list is a hole, or such an item of the type reached
  pub working-reached : (k : ℕ) → k ≤ length actions → Entries (Reached v P (reached types actions k)) (run_to v x actions k).working
  unfolding run_to reached
  working-reached zero h = each_none (λ (p : Place). Reached v P 0 p.entry)
  working-reached (suc k) h =
      act-reached (run_to v x actions k) k (reached types actions k) (get_or actions k Idle) h refl (working-reached k (omega arith))

  -- where type 0 is reached at each emit, each entry emitted is a hole or such an item of type 0
  module _ (falls : (k : ℕ) → k < length actions → get_or actions k Idle ≡ Emit → reached types actions k ≡ 0) where
    pub list-reached : (k : ℕ) → k ≤ length actions → Entries (Reached v P 0) (run_to v x actions k).list
    unfolding run_to act selected
    list-reached zero h = each_none (λ (p : Place). Reached v P 0 p.entry)
    list-reached (suc k) h = go (get_or actions k Idle) refl (list-reached k (omega arith))
      where
        go : (a : Action) → get_or actions k Idle ≡ a → Entries (Reached v P 0) (run_to v x actions k).list
            → Entries (Reached v P 0) (act v x (run_to v x actions k) a).list
        go (Take b) e l = l
        go (Select mode n t) e l = l
        go Emit e l = each_more (λ (p : Place). Reached v P 0 p.entry) (run_to v x actions k).list _ l (rw (falls k h e) at (working-reached k (omega arith)))
        go Idle e l = l

-- ---- in a loadable map

module _ (m : Map) (L : Loadable m) where
  -- the frame of a bucket that is present
  bucket-there : (b : ℕ) → has_bucket m b ≡ true → (k : Bucket) × (k.number ≡ b) × (bucket_type m b ≡ k.ty) × BucketRanged k
  unfolding has_bucket bucket_type
  bucket-there b e =
      let none : Bucket = record { number = 0; ty = 0; kind = 0; weight = 0 } in
      let (k, l, q, t) = lookup-is (λ (c : Bucket). c.number) none (λ (c : Bucket). c.ty) b m.buckets (rising-is m L.rising).buckets e in
      (get_or m.buckets k none, q, t, bucket-ranged _ (every-at bucket_ranged m.buckets k none (ranged-is m L.ranged).buckets l))

  -- its type is above 0
  pub present-typed : (b : ℕ) → has_bucket m b ≡ true → 0 < bucket_type m b
  present-typed b e = let (k, q, t, r) = bucket-there b e in omega (arith, t, r.least)

  -- a device that is present has a number below 1,024
  pub device-number : (i : ℕ) → has_device m i ≡ true → i < 1024
  unfolding has_device
  device-number i q =
      let none : Device = record { number = 0; weight = 0; acceptance = 0 } in
      let (k, l, t) = number_at (λ (c : Device). c.number) none i m.devices q in
      omega (arith, t, (device-ranged (get_or m.devices k none) (every-at device_ranged m.devices k none (ranged-is m L.ranged).devices l)).number)

  -- an item that is present is in range
  pub present-ranged : (i : ℕ) → has_item m i ≡ true → ChildRanged i
  unfolding has_item
  present-ranged i h = go (is_bucket i) refl h
    where
      go : (u : Bool) → is_bucket i ≡ u → cond u (has_bucket m (bucket_number i)) (has_device m i) ≡ true → ChildRanged i
      go true e q = let (k, p, t, r) = bucket-there (bucket_number i) q in let l = leb-true 65536 i e in inr (l, omega (arith, p, r.number))
      go false e q = inl (device-number i q)

  -- and, where its type is 0, a device
  pub present-device : (i : ℕ) → has_item m i ≡ true → type_of m i ≡ 0 → has_device m i ≡ true
  unfolding has_item type_of type_by
  present-device i h t = go (is_bucket i) h t
    where
      go : (u : Bool) → cond u (has_bucket m (bucket_number i)) (has_device m i) ≡ true → type_by m i u ≡ 0 → has_device m i ≡ true
      go true q z = absurd (omega (arith, z, present-typed (bucket_number i) q))
      go false q z = q

  -- a child is present
  pub child-present : (b c : ℕ) → Memᴰ c (children_of m b) → has_item m c ≡ true
  child-present b c i =
      let (k, k∈, at, is) = kid-link m (bucket_item b) c (rw (kids-bucket m b) i) in
      let there = (both (has_bucket m k.bucket) (has_item m k.child) (mem-every (λ (j : Link). has_bucket m j.bucket && has_item m j.child) k∈ (present-is m L.present).links)).1 in
      rw is at there

  -- and so is an item that is drawn
  pub drawn-present : (x i : ℕ) → DrawnBy (view_of m) x i → has_item m i ≡ true
  drawn-present x i (r, b, e) = child-present b i (drawn-child m x r b i e).0

  -- and so is a bucket that is taken
  pub taken-bucket : (k b : ℕ) → k < length (actions_of m) → get_or (actions_of m) k Idle ≡ Take b → has_bucket m b ≡ true
  unfolding takes_present
  taken-bucket k b h e = rw e at (every-at (takes_present m) (actions_of m) k Idle (present-is m L.present).takes h)

  taken-present : (k b : ℕ) → k < length (actions_of m) → get_or (actions_of m) k Idle ≡ Take b
      → (has_item m (bucket_item b) ≡ true) × (type_of m (bucket_item b) ≡ bucket_type m b)
  unfolding has_item
  taken-present k b h e =
      let q : bucket_number (bucket_item b) ≡ b = omega arith in
      (rw (le-leb 65536 (bucket_item b) (omega arith), q) (taken-bucket k b h e), type-bucket m b)

  module _ (x : ℕ) where
    abbrev Item : ℕ → Type 0
    Item i = has_item m i ≡ true

    -- after the first k steps each entry of the working list is a hole, or an item of the map of the type reached
    pub working-present : (k : ℕ) → k ≤ length (actions_of m)
        → Entries (λ (e : ℕ). (e ≡ hole) ⊎ ((has_item m e ≡ true) × (type_of m e ≡ reached (bucket_type m) (actions_of m) k))) (run_to (view_of m) x (actions_of m) k).working
    unfolding view_of
    working-present = working-reached (view_of m) x (bucket_type m) (actions_of m) Item (drawn-present x) taken-present

    -- and each entry emitted is a hole or a device of the map
    pub emitted-devices : (k : ℕ) → k ≤ length (actions_of m)
        → Entries (λ (e : ℕ). (e ≡ hole) ⊎ (has_device m e ≡ true)) (run_to (view_of m) x (actions_of m) k).list
    unfolding view_of
    emitted-devices k h p i =
        ⊎_elim (λ q. inl q) (λ (o, t). inr (present-device p.entry o t))
        (list-reached (view_of m) x (bucket_type m) (actions_of m) Item (drawn-present x) taken-present
        (λ j l e. reached-inside m L.in_blocks (bucket_type m) (λ o b g q. refl) j 0 (le_of_lt l) (emit-inside m L.in_blocks j l e)) k h p i)

    -- each entry of a group's list is a hole or a device of the map
    pub list-devices : (e : ℕ) → Memᴰ e (entries_of (placed_of m x).places) → (e ≡ hole) ⊎ (has_device m e ≡ true)
    unfolding placed_of placed_by padded nowhere
    list-devices =
        let ps = (run_to (view_of m) x (actions_of m) (length (actions_of m))).list in
        each-entry _ (padded (width_of m) ps)
        (each_more _ ps _ (emitted-devices (length (actions_of m)) (omega arith)) (each-copies _ (width_of m - length ps) nowhere (inl refl)))
