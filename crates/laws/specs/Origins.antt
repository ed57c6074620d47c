-- Document 01, "Walk, select and rule", with select through: where draws are made. Each draw of a rank, and of its inner walks, is made at the
-- bucket that the rank starts at or at one that was itself drawn; so each draw made for a group is made at a bucket that was taken or drawn.
-- What was drawn weighs above 0: a draw that finds none is made at a bucket that was taken, and by question 22 that bucket has children, which
-- all weigh 0. Assumes nothing.
use Rattle.std.proofs.Math.Path.{◌≡◌, refl, ap, subst}
use Rattle.std.proofs.Common.{sym, ◌∙◌, le_of_lt, ltb-true, eqb-true}
use Rattle.std.specs.Prelude.{Bool, ◌⊎◌, ltb, get_or, Option, None, Some}
use Rattle.std.proofs.Math.Bool.{true, false, cond}
use mathlib.Core.List.{List, [], ◌∷◌, Memᴰ}
use Rattle.std.proofs.Math.Logic.{inl, inr, ⊎_elim}
use Prim.Native.Nat.{ℕ, zero, suc, ◌+◌, ◌-◌, ◌<◌, ◌≤◌}
use native.Mathlib.Omega.{arith}
use Rattle.std.proofs.Math.Dec.{eqb}
use Rattle.std.proofs.Math.ListN.{length, length-map}
use Rattle.definitions.specs.declared.Action.{Action}
use Rattle.definitions.specs.declared.Action.TheVariants.{Take, Select, Emit, Idle}
use Rattle.definitions.specs.declared.Event.{Event}
use Rattle.definitions.specs.declared.Event.TheVariants.{Drew, Tested}
use Rattle.definitions.specs.declared.Mode.{Mode}
use Rattle.definitions.specs.declared.Mode.TheVariants.{FirstN, Independent, Through}
use Rattle.definitions.specs.declared.Standing.{Standing}
use Rattle.definitions.specs.declared.State.{State}
use Rattle.definitions.specs.declared.Turn.{Turn}
use Rattle.definitions.specs.declared.Turn.TheVariants.{Fill, Fail}
use Rattle.definitions.specs.declared.Verdict.{Verdict}
use Rattle.definitions.specs.declared.Verdict.TheVariants.{Held, Rejected, Passed}
use Rattle.definitions.specs.Lists.{has, sum}
use Rattle.definitions.specs.Map.{Map, bucket_item, bucket_number, actions_of}
use Rattle.definitions.specs.View.{View, children_of, weight_of, weights_of, bucket_type, type_of, view_of}
use Rattle.definitions.specs.Walk.{hole, Descent, RankEvents, TurnEvents, draw_at, landing, deeper, on_winner, on_drawn, descend_in, descend, Trial, plain, plain_test, try_number, failed_to, retry_at, rank_start, rank_end, on_verdict, on_tried, tested, untested, onward, after_turn, on_turn, on_type, on_landed, on_descent, turn_of, rank_from, rank_by, inner_walk, sought, through_by, through_test, test_of, rank_of}
use Rattle.definitions.specs.Select.{Place, entries_of, place_under, nowhere}
use Rattle.definitions.specs.Rule.{Run, taken, selected, act, run_to, width_of, padded, placed_by, placed_of}
use Rattle.definitions.specs.Load.{through_typed, typed, standing}
use Rattle.laws.specs.Lists.{every-at}
use Rattle.laws.specs.Members.{Each, each_none, each-one, each_more, each-copies}
use Rattle.laws.specs.Kinds.{drawn-child, drawn-none}
use Rattle.laws.specs.Fuel.{Sinks, is-bucket}
use Rattle.laws.specs.Loadable.{Loadable}
use Rattle.laws.specs.Blocks.{InOrder, takes, selects, emits, step-inside, step-in-order, reached, reached-inside}
use Rattle.laws.specs.Forest.{type-bucket, weight-bucket, sinks}
use Rattle.laws.specs.Found.{DrawnBy, Entries, Reached, working-reached, select-each, taken-bucket}
use Rattle.laws.specs.Filled.{bucket-filled}

-- a draw has the end that the definition gives it, and is made at a bucket that is such; what is tested is such too
abbrev pub Made : View → ℕ → (ℕ → Type 0) → (ℕ → Type 0) → Event → Type 0
Made v x At Of (Drew b r d) = (d ≡ draw_at v x r b) × At b
Made v x At Of (Tested i w) = Of i

-- each draw and each test among these events is so
abbrev pub Draws : View → ℕ → (ℕ → Type 0) → (ℕ → Type 0) → List Event → Type 0
Draws v x At Of es = Each (Made v x At Of) es

made_so : (v : View) (x : ℕ) (P Q F G : ℕ → Type 0) → ((b : ℕ) → P b → Q b) → ((i : ℕ) → F i → G i) → (e : Event) → Made v x P F e → Made v x Q G e
made_so v x P Q F G h o (Drew b r d) (e, p) = (e, h b p)
made_so v x P Q F G h o (Tested i w) u = o i u

-- ---- rank

-- item i was come to from bucket b by draws of group x, one or more
pub data Beneath (v : View) (x b : ℕ) : ℕ → Type 0 where
  drew : {i : ℕ} (r : ℕ) → draw_at v x r b ≡ Some i → Beneath v x b i
  further : {i : ℕ} (r c : ℕ) → Beneath v x b (bucket_item c) → draw_at v x r c ≡ Some i → Beneath v x b i

beneath-drawn : {v : View} {x b i : ℕ} → Beneath v x b i → DrawnBy v x i
beneath-drawn {b} (drew r e) = (r, b, e)
beneath-drawn (further r c p e) = (r, c, e)

-- the bucket that a rank starts at, or one that was drawn beneath it
abbrev pub From : View → ℕ → ℕ → ℕ → Type 0
From v x start b = (b ≡ start) ⊎ Beneath v x start (bucket_item b)

-- what is drawn there is beneath the start
from-drawn : (v : View) (x start b r i : ℕ) → From v x start b → draw_at v x r b ≡ Some i → Beneath v x start i
from-drawn v x start b r i (inl q) e = drew r (subst (λ (c : ℕ). draw_at v x r c ≡ Some i) q e)
from-drawn v x start b r i (inr p) e = further r b p e

-- and such that it can be drawn from
record Source (v : View) (x start b : ℕ) : Type 0 where
  from : From v x start b
  typed : 0 < v.type (bucket_item b)

module _ (v : View) (sinks : Sinks v) (x start t r : ℕ) (Of : ℕ → Type 0) where
  abbrev Ended : Option ℕ → Type 0
  Ended d = (i : ℕ) → d ≡ Some i → Beneath v x start i

  abbrev Descends : Descent → Type 0
  Descends d = Draws v x (From v x start) Of d.events × Source v x start d.landed.bucket × Ended d.landed.drawn

  descent-made : (k b : ℕ) → v.type (bucket_item b) ≤ k → Source v x start b → Descends (descend_in v x t r k b)
  unfolding descend_in on_drawn on_winner landing deeper
  descent-made zero b l o = absurd (omega (arith, o.typed))
  descent-made (suc k) b l o = go (draw_at v x r b) refl (descent-made k)
    where
      here : (d : Option ℕ) → draw_at v x r b ≡ d → Draws v x (From v x start) Of (Drew b r d ∷ [])
      here d e = each-one _ (Drew b r d) (sym e, o.from)

      ended : (d : Option ℕ) → draw_at v x r b ≡ d → Ended d
      ended d e i q = from-drawn v x start b r i o.from (e ∙ q)

      on : (i : ℕ) → draw_at v x r b ≡ Some i → (u : Bool) → ltb t (v.type i) ≡ u
          → ((c : ℕ) → v.type (bucket_item c) ≤ k → Source v x start c → Descends (descend_in v x t r k c))
          → Descends (on_winner (descend_in v x t r k) r b i u)
      on i e false q below = (here (Some i) e, o, ended (Some i) e)
      on i e true q below =
          let h = ltb-true t (v.type i) q in
          let same = is-bucket v sinks x t r i h in
          let z = ap v.type same in
          let (es, c, f) = below (bucket_number i) (omega (arith, z, sinks.drawn x r b i e))
          (record { from = inr (subst (Beneath v x start) (sym same) (from-drawn v x start b r i o.from e)); typed = omega (arith, z, h) }) in
          (each_more _ (Drew b r (Some i) ∷ []) _ (here (Some i) e) es, c, f)

      go : (d : Option ℕ) → draw_at v x r b ≡ d
          → ((c : ℕ) → v.type (bucket_item c) ≤ k → Source v x start c → Descends (descend_in v x t r k c))
          → Descends (on_drawn v x t r (descend_in v x t r k) b d)
      go None e below = (here None e, o, ended None e)
      go (Some i) e below = on i e (ltb t (v.type i)) refl below

module _ (v : View) (sinks : Sinks v) (x : ℕ) (mode : Mode) (n t : ℕ) (test : ℕ → ℕ → Trial) (start r : ℕ) (Of : ℕ → Type 0)
    (inside : (q i : ℕ) → Beneath v x start i → v.type i ≡ t → Draws v x (From v x start) Of (test q i).events)
    (above : 0 < v.type (bucket_item start)) where
  abbrev Ranks : List Event → Type 0
  Ranks = Draws v x (From v x start) Of

  -- a turn's events, where the next one begins, and what it fills the place with
  abbrev Turns : TurnEvents → Type 0
  Turns k =
      Ranks k.events × ((s : State) → k.turn ≡ Fail s → Source v x start s.at)
      × ((i e j : ℕ) → k.turn ≡ Fill i e j → Beneath v x start i)

  first : Source v x start start
  first = record { from = inl refl; typed = above }

  untested-made : (s : State) (es : List Event) → Ranks es → Turns (untested start s es)
  unfolding untested failed_to
  untested-made s es h = (
    h,
    λ s' e. let z : start ≡ s'.at = cc in subst (Source v x start) z first,
    λ i f j e. absurd (let z : ◌≡◌ {A = ℕ} 0 1 = cc in omega arith),
  )

  verdict-next : (s : State) (b i e k : ℕ) (w : Verdict) → Source v x start b → (s' : State) → on_verdict start s b i e k w ≡ Fail s'
      → Source v x start s'.at
  unfolding on_verdict failed_to retry_at
  verdict-next s b i e k Held o s' q = let z : cond (ltb (s.fr + 1) 3) b start ≡ s'.at = cc in subst (Source v x start) z (go (ltb (s.fr + 1) 3))
    where
      go : (u : Bool) → Source v x start (cond u b start)
      go true = o
      go false = first
  verdict-next s b i e k Rejected o s' q = let z : start ≡ s'.at = cc in subst (Source v x start) z first
  verdict-next s b i e k Passed o s' q = absurd (let z : ◌≡◌ {A = ℕ} 0 1 = cc in omega arith)

  verdict-fills : (s : State) (b i e k : ℕ) (w : Verdict) → Beneath v x start i → (j f l : ℕ) → on_verdict start s b i e k w ≡ Fill j f l
      → Beneath v x start j
  unfolding on_verdict
  verdict-fills s b i e k Held o j f l q = absurd (let z : ◌≡◌ {A = ℕ} 0 1 = cc in omega arith)
  verdict-fills s b i e k Rejected o j f l q = absurd (let z : ◌≡◌ {A = ℕ} 0 1 = cc in omega arith)
  verdict-fills s b i e k Passed o j f l q = let z : i ≡ j = cc in subst (Beneath v x start) z o

  landed_made : (s : State) (q : ℕ) (c : Descent) → Draws v x (From v x start) Of c.events → Source v x start c.landed.bucket
      → (d : Option ℕ) → Ended v sinks x start t q Of d
      → Turns (on_landed v x mode n t test start r s q c.landed.bucket c.events d)
  unfolding on_landed on_type tested on_tried
  landed_made s q c es o None f = untested-made s c.events es
  landed_made s q c es o (Some i) f = go (eqb (v.type i) t) refl
    where
      go : (u : Bool) → eqb (v.type i) t ≡ u → Turns (on_type v x mode n t test start r s q c.landed.bucket c.events i u)
      go true e =
          let w = (test q i).tried in (
            each_more _ c.events (test q i).events es (inside q i (f i refl) (eqb-true (v.type i) t e)),
            verdict-next s c.landed.bucket i w.entry w.inner w.verdict o,
            verdict-fills s c.landed.bucket i w.entry w.inner w.verdict (f i refl),
          )
      go false e = untested-made s c.events es

  turn-made : (s : State) → Source v x start s.at → Turns (turn_of v x mode n t test start r s)
  unfolding turn_of on_descent descend
  turn-made s o =
      let q = try_number mode n r s in
      let k = v.type (bucket_item s.at) in
      let c = descend_in v x t q k s.at in
      let (es, b, f) = descent-made v sinks x start t q Of k s.at (omega arith) o in
      landed_made s q c es b c.landed.drawn f

  -- a rank's events, and what it ends in: a hole, or an item beneath its start
  abbrev Ends : RankEvents → Type 0
  Ends k = Ranks k.events × ((k.ranked.item ≡ hole) ⊎ Beneath v x start k.ranked.item)

  from-made : (k : ℕ) (s : State) → Source v x start s.at → Ends (rank_from v x mode n t test start r k s)
  unfolding rank_from rank_end on_turn after_turn onward
  from-made zero s o = (each_none _, inl refl)
  from-made (suc k) s o = let (es, next, fills) = turn-made s o in go (turn_of v x mode n t test start r s).turn es next fills (from-made k)
    where
      after : State → RankEvents
      after = rank_from v x mode n t test start r k

      go : (u : Turn) → Ranks (turn_of v x mode n t test start r s).events → ((z : State) → u ≡ Fail z → Source v x start z.at)
          → ((i e j : ℕ) → u ≡ Fill i e j → Beneath v x start i) → ((z : State) → Source v x start z.at → Ends (after z))
          → Ends (after_turn after s (turn_of v x mode n t test start r s).events u)
      go (Fill i e j) es next fills rest = (es, inr (fills i e j refl))
      go (Fail z) es next fills rest = let (fs, end) = rest z (next z refl) in (each_more _ _ _ es fs, end)

  rank-made : (f₀ : ℕ) → Ends (rank_by v x mode n t test start r f₀)
  unfolding rank_by rank_start
  rank-made f₀ = from-made 50 (rank_start start f₀) first

-- item j was drawn beneath item i, which is a bucket
abbrev pub Below : View → ℕ → ℕ → ℕ → Type 0
Below v x i j = (bucket_item (bucket_number i) ≡ i) × Beneath v x (bucket_number i) j

-- what a rank of a select for type t tests: an item of that type, or one drawn beneath such an item that is not held
abbrev pub Sought : View → ℕ → ℕ → List ℕ → ℕ → Type 0
Sought v x t held j = (v.type j ≡ t) ⊎ ((i : ℕ) × (v.type i ≡ t) × (has i held ≡ false) × Below v x i j)

module _ (v : View) (sinks : Sinks v) (x : ℕ) (held : List ℕ) where
  plain-made : (P Of : ℕ → Type 0) (q i : ℕ) → Of i → Draws v x P Of (plain_test v x held q i).events
  unfolding plain_test plain
  plain-made P Of q i h = each-one _ _ h

  -- the inner walk of an item draws at that item's bucket, or at one drawn beneath it, tests what is beneath it, and ends in none or in that
  pub inner_made : (n q i : ℕ) → 0 < v.type i
      → let k = inner_walk v x n held q i in
      Draws v x (From v x (bucket_number i)) (Beneath v x (bucket_number i)) k.events × ((k.ranked.item ≡ hole) ⊎ Beneath v x (bucket_number i) k.ranked.item)
  unfolding inner_walk
  inner_made n q i h =
      let b = bucket_number i in
      rank-made v sinks x Independent n 0 (plain_test v x held) b q (Beneath v x b) (λ q j d o. plain-made (From v x b) (Beneath v x b) q j d)
      (omega (arith, h, ap v.type (is-bucket v sinks x 0 q i h))) 0

  -- what is beneath an item that is beneath the start is beneath the start
  beneath-on : {start i j : ℕ} → bucket_item (bucket_number i) ≡ i → Beneath v x start i → Beneath v x (bucket_number i) j → Beneath v x start j
  beneath-on {start} {i} q p (drew r e) = further r (bucket_number i) (subst (Beneath v x start) (sym q) p) e
  beneath-on q p (further r c o e) = further r c (beneath-on q p o) e

  test-made : (mode : Mode) (n t start : ℕ) → through_typed (Select mode n t) ≡ true → (q i : ℕ) → Beneath v x start i → v.type i ≡ t
      → Draws v x (From v x start) (λ (j : ℕ). Beneath v x start j × Sought v x t held j) (test_of mode v x n held q i).events
  unfolding test_of through_test through_by plain sought through_typed
  test-made FirstN n t start g q i d h = plain-made (From v x start) _ q i (d, inl h)
  test-made Independent n t start g q i d h = plain-made (From v x start) _ q i (d, inl h)
  test-made Through n t start g q i d h = go (has i held) refl
    where
      Of : ℕ → Type 0
      Of j = Beneath v x start j × Sought v x t held j

      deep : 0 < v.type i
      deep = omega (arith, h, ltb-true 0 t g)

      same : bucket_item (bucket_number i) ≡ i
      same = is-bucket v sinks x 0 q i deep

      go : (u : Bool) → has i held ≡ u → Draws v x (From v x start) Of (through_by v x n held q i u).events
      go true f = each-one _ _ (d, inl h)
      go false f =
          each_more _ (Tested i Passed ∷ []) _ (each-one _ _ (d, inl h))
          (λ e m.
          made_so v x (From v x (bucket_number i)) (From v x start) (Beneath v x (bucket_number i)) Of
          (λ b. ⊎_elim (λ p. inr (subst (Beneath v x start) (sym (ap bucket_item p ∙ same)) d)) (λ p. inr (beneath-on same d p)))
          (λ j p. (beneath-on same d p, inr (i, h, f, (same, p)))) e ((inner_made n q i deep).0 e m))

  -- each draw of a rank is made at the bucket that it starts at, or at one drawn beneath it; and what it tests is beneath its start and is what
  -- the select looks for
  pub rank-draws : (mode : Mode) (n t start r f₀ : ℕ) → through_typed (Select mode n t) ≡ true → 0 < v.type (bucket_item start)
      → Draws v x (From v x start) (λ (j : ℕ). Beneath v x start j × Sought v x t held j) (rank_of v x mode n t held start r f₀).events
  unfolding rank_of
  rank-draws mode n t start r f₀ g h =
      (rank-made v sinks x mode n t (test_of mode v x n held) start r _ (test-made mode n t start g) h f₀).0

-- ---- weights

sum-none : (ws : List ℕ) → ((n : ℕ) → n < length ws → get_or ws n 0 ≡ 0) → sum ws ≡ 0
unfolding sum
sum-none [] h = refl
sum-none (w ∷ ws) h = omega (arith, h 0 (omega arith), sum-none ws (λ n l. h (suc n) (omega arith)))

module _ (m : Map) (L : Loadable m) (x : ℕ) where
  -- what is drawn weighs above 0
  pub drawn-weighs : (i : ℕ) → DrawnBy (view_of m) x i → 0 < weight_of m i
  drawn-weighs i (r, b, e) = (drawn-child m x r b i e).1

  -- so a bucket that was drawn has no such draw
  pub drawn-finds : (r b : ℕ) → DrawnBy (view_of m) x (bucket_item b) → draw_at (view_of m) x r b ≡ None → ⊥
  unfolding weights_of
  drawn-finds r b d e =
      let z = sum-none (weights_of m b) (λ n l. drawn-none m x r b e n (omega (arith, l, length-map (children_of m b) (weight_of m)))) in
      omega (arith, z, weight-bucket m L.falling b, drawn-weighs (bucket_item b) d)

-- ---- rule

-- the rule takes bucket b
abbrev pub Taken : Map → ℕ → Type 0
Taken m b = (k : ℕ) × (k < length (actions_of m)) × (get_or (actions_of m) k Idle ≡ Take b)

-- bucket b was taken, and its children, which it has, all weigh 0
pub record Weightless (m : Map) (b : ℕ) : Type 0 where
  pub taken : Taken m b
  pub filled : 0 < length (children_of m b)
  pub weights : (n : ℕ) → n < length (children_of m b) → get_or (weights_of m b) n 0 ≡ 0

module _ (m : Map) (L : Loadable m) (x : ℕ) where
  -- where draws are made
  abbrev pub Ground : ℕ → Type 0
  Ground b = Taken m b ⊎ DrawnBy (view_of m) x (bucket_item b)

  -- an entry of the working list was taken or drawn
  abbrev Arrived : ℕ → Type 0
  Arrived e = Taken m (bucket_number e) ⊎ DrawnBy (view_of m) x e

  working-from : (k : ℕ) → k ≤ length (actions_of m)
      → Entries (Reached (view_of m) Arrived (reached (bucket_type m) (actions_of m) k)) (run_to (view_of m) x (actions_of m) k).working
  unfolding view_of
  working-from =
      working-reached (view_of m) x (bucket_type m) (actions_of m) Arrived (λ i d. inr d)
      (λ k b h e. let q : bucket_number (bucket_item b) ≡ b = omega arith in (inl (k, h, e ∙ ap Take (sym q)), type-bucket m b))

  -- what a select for type t tests was drawn, and is what it looks for
  abbrev pub Tests : ℕ → List ℕ → ℕ → Type 0
  Tests t held i = DrawnBy (view_of m) x i × Sought (view_of m) x t held i

  -- each rank that a select of the rule makes, at a place of its working list
  pub rank-grounded : (k n t : ℕ) (mode : Mode) → get_or (actions_of m) k Idle ≡ Select mode n t
      → (p : Place) → Memᴰ p (run_to (view_of m) x (actions_of m) k).working → (p.entry ≡ hole → ⊥) → (held : List ℕ) (r f₀ : ℕ)
      → Draws (view_of m) x Ground (Tests t held) (rank_of (view_of m) x mode n t held (bucket_number p.entry) r f₀).events
  unfolding view_of typed
  rank-grounded k n t mode e p i f held r f₀ = ⊎_elim (λ h. absurd (f h)) from (working-from k (le_of_lt inside) p i)
    where
      inside : k < length (actions_of m)
      inside = step-inside (actions_of m) k (λ q. let z : ◌≡◌ {A = ℕ} 0 1 = cc in omega arith)

      at : {st st' : Standing} {a : Action} → InOrder m st a st' → standing m k ≡ st → a ≡ Select mode n t
          → t < reached (bucket_type m) (actions_of m) k
      at takes s q = absurd (let z : ◌≡◌ {A = ℕ} 0 1 = cc in omega arith)
      at (selects {u} {t = o} l) s q =
          let z : o ≡ t = cc in
          omega (arith, l, z, reached-inside m L.in_blocks (bucket_type m) (λ j b g h. refl) k u (le_of_lt inside) s)
      at emits s q = absurd (let z : ◌≡◌ {A = ℕ} 0 1 = cc in omega arith)

      from : Arrived p.entry × (type_of m p.entry ≡ reached (bucket_type m) (actions_of m) k)
          → Draws (view_of m) x Ground (Tests t held) (rank_of (view_of m) x mode n t held (bucket_number p.entry) r f₀).events
      from (g, q) ev j =
          let h : 0 < type_of m p.entry = omega (arith, q, at (step-in-order m L.in_blocks k inside) refl e) in
          let same = is-bucket (view_of m) (sinks m L) x 0 r p.entry h in
          made_so (view_of m) x (From (view_of m) x (bucket_number p.entry)) Ground _ (Tests t held)
          (λ b. ⊎_elim (λ z. ⊎_elim (λ y. inl (rw z y)) (λ y. inr (subst (DrawnBy (view_of m) x) (sym (ap bucket_item z ∙ same)) y)) g) (λ z. inr (beneath-drawn z)))
          (λ j (d, o). (beneath-drawn d, o)) ev
          (rank-draws (view_of m) (sinks m L) x held mode n t (bucket_number p.entry) r f₀ (rw e at (every-at through_typed (actions_of m) k Idle L.typed inside))
          (omega (arith, h, ap (type_of m) same)) ev j)

  -- the walk of each place
  abbrev Walks : List Place → Type 0
  Walks = Each (λ (p : Place). Draws (view_of m) x Ground (DrawnBy (view_of m) x) p.walk)

  run-grounded : (k : ℕ) → k ≤ length (actions_of m)
      → Walks (run_to (view_of m) x (actions_of m) k).working × Walks (run_to (view_of m) x (actions_of m) k).list
  unfolding run_to act taken selected place_under
  run-grounded zero h = (each_none _, each_none _)
  run-grounded (suc k) h = let (w, l) = run-grounded k (omega arith) in go (get_or (actions_of m) k Idle) refl w l
    where
      s : Run
      s = run_to (view_of m) x (actions_of m) k

      go : (a : Action) → get_or (actions_of m) k Idle ≡ a → Walks s.working → Walks s.list
          → Walks (act (view_of m) x s a).working × Walks (act (view_of m) x s a).list
      go (Take b) e w l = (each-one (λ (p : Place). Draws (view_of m) x Ground (DrawnBy (view_of m) x) p.walk) _ (each_none _), l)
      go (Select mode n t) e w l = (
        select-each (view_of m) x mode n t (entries_of s.list) s.working (λ (p : Place). Draws (view_of m) x Ground (DrawnBy (view_of m) x) p.walk) w
            (λ above i f held r f₀.
            each_more _ above.walk _ (w above i)
            (λ ev j. made_so (view_of m) x Ground Ground (Tests t held) (DrawnBy (view_of m) x) (λ b h. h) (λ o h. h.0) ev (rank-grounded k n t mode e above i f held r f₀ ev j))),
        l,
      )
      go Emit e w l = (w, each_more _ s.list s.working l w)
      go Idle e w l = (w, l)

  -- each draw made for a place of the group's list is made at a bucket that was taken, or at one that was drawn; and what is tested was drawn
  pub list-grounded : (p : Place) → Memᴰ p (placed_of m x).places → Draws (view_of m) x Ground (DrawnBy (view_of m) x) p.walk
  unfolding placed_of placed_by padded nowhere
  list-grounded =
      let ps = (run_to (view_of m) x (actions_of m) (length (actions_of m))).list in
      each_more _ ps _ (run-grounded (length (actions_of m)) (omega arith)).1 (each-copies _ (width_of m - length ps) nowhere (each_none _))

  ground-none : (b q : ℕ) → (None ≡ draw_at (view_of m) x q b) × Ground b → Weightless m b
  ground-none b q (e, g) =
      record {
        taken = t;
        filled = bucket-filled m L b (taken-bucket m L t.0 b t.1 t.2);
        weights = drawn-none m x q b (sym e);
      }
    where
      t : Taken m b
      t = ⊎_elim (λ h. h) (λ d. absurd (drawn-finds m L x q b d (sym e))) g

  -- only a bucket that was taken can have a draw that finds none: in a rank that a select of the rule makes, left out by first-n or not
  pub rank-none : (k n t : ℕ) (mode : Mode) → get_or (actions_of m) k Idle ≡ Select mode n t
      → (p : Place) → Memᴰ p (run_to (view_of m) x (actions_of m) k).working → (p.entry ≡ hole → ⊥) → (held : List ℕ) (r f₀ b q : ℕ)
      → Memᴰ (Drew b q None) (rank_of (view_of m) x mode n t held (bucket_number p.entry) r f₀).events → Weightless m b
  rank-none k n t mode e p i f held r f₀ b q j = ground-none b q (rank-grounded k n t mode e p i f held r f₀ (Drew b q None) j)

  -- and in the walk of a place of the group's list
  pub list-none : (p : Place) → Memᴰ p (placed_of m x).places → (b q : ℕ) → Memᴰ (Drew b q None) p.walk → Weightless m b
  list-none p i b q j = ground-none b q (list-grounded p i (Drew b q None) j)
