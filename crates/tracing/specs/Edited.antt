-- Document 01, "Table, edits, moves": what a fitting edit does to the draws and the acceptance tests of a group: all that tracing needs to
-- know of an edit. Assumes nothing.
use Rattle.std.specs.Prelude.{◌≡◌, Bool, true, false, ◌⊎◌, ℕ, ◌<◌, leb, eqb, length, get_or, Option, None, Some}
use Rattle.std.proofs.Math.Path.{refl, sym, ap, ap₂, subst}
use Rattle.std.proofs.Common.{◌∙◌, arith, eqb-true}
use Rattle.std.proofs.lemmas.Bool.{false≢true}
use mathlib.Core.List.{List, map}
use Rattle.std.proofs.Math.Logic.{inl, inr, ⊎_elim}
use Rattle.std.proofs.Math.Decide.{dec_lt}
use Rattle.std.proofs.lemmas.List.{length-map}
use Rattle.definitions.specs.declared.Action.{Action}
use Rattle.definitions.specs.declared.Action.TheVariants.{Emit, Idle}
use Rattle.definitions.specs.declared.Kind.{Kind}
use Rattle.definitions.specs.declared.Kind.TheVariants.{Straw, Tree}
use Rattle.definitions.specs.declared.Change.{Change}
use Rattle.definitions.specs.declared.Change.TheVariants.{Acceptance, Weight}
use Rattle.definitions.specs.Hash.{S}
use Rattle.definitions.specs.Tree.{height_of, tree_of}
use Rattle.definitions.specs.Map.{Map, bucket_item}
use Rattle.definitions.specs.View.{View, children_of, bucket_kind, device_weight, weight_of, weights_of, view_of}
use Rattle.definitions.specs.Walk.{draw_by, draw_at, device_accepts, accepted}
use Rattle.definitions.specs.Edit.{put}
use Rattle.definitions.specs.Load.{has_device}
use Rattle.definitions.specs.Calls.{independent, fits}
use Rattle.laws.specs.Lists.{both}
use Rattle.laws.specs.Members.{at_mem, map-ext}
use Rattle.laws.specs.Tree.{Fork}
use Rattle.laws.proofs.Tree.{tree-law}
use Rattle.laws.specs.Loadable.{Loadable, put-type, put-bucket-kind, put-children, put-actions, put-acceptance, weight-leaves-acceptance, acceptance-leaves-weights}
use Rattle.laws.specs.Forest.{Holds, Raises, kids_of, put-raises, put-lowers, put-weights, child-heavier, draw-child}
use Rattle.tracing.specs.Runs.{step_at, working_at, steps-same, count_same}

-- the edited device, and the child of bucket b that is or holds it, told by its place
pub record Holder (m : Map) (c : Option Change) (b : ℕ) : Type 0 where
  pub device : ℕ
  pub weight : ℕ
  pub edit : c ≡ Some (Weight device weight)
  pub place : ℕ
  pub inside : place < length (children_of m b)
  pub holds : Holds (kids_of m) (get_or (children_of m b) place 0) device

module _ (m : Map) (c : Option Change) (b : ℕ) (e : Holder m c b) where
  -- the draw's winner is that child
  abbrev pub WonBy : Option ℕ → Type 0
  WonBy d = d ≡ Some (get_or (children_of m b) e.place 0)

  -- this of the old run where the device weighs more there, and that of the new where it weighs more there
  abbrev pub Heavier : Type 0 → Type 0 → Type 0
  Heavier old new = ((e.weight < device_weight m e.device) × old) ⊎ ((device_weight m e.device < e.weight) × new)

  -- the two walks of a tree's draw fork at a node above that child, and the second turns to the side that holds it
  abbrev pub Forks : ℕ → ℕ → Map → Map → Type 0
  Forks x r light heavy = Fork S x r (bucket_item b) (weights_of light b) (weights_of heavy b) e.place (height_of (length (children_of m b))) 0

-- 02: of two draws in bucket b with r', that in the old run ends in y and that in the new in z
pub data Won (m : Map) (c : Option Change) (x r b : ℕ) (y z : Option ℕ) : Type 0 where
  -- "the winner where the device weighs more is the child that holds or is it"
  straw : bucket_kind m b ≡ Straw → (e : Holder m c b) → Heavier m c b e (WonBy m c b e y) (WonBy m c b e z) → Won m c x r b y z
  -- "If only one run's draw finds none, the other run's winner is or holds that drive."
  found : bucket_kind m b ≡ Tree → (e : Holder m c b) → Heavier m c b e (WonBy m c b e y × (z ≡ None)) (WonBy m c b e z × (y ≡ None)) → Won m c x r b y z
  -- "In a tree, cause 02 stands where two paths first part, and the run in which the edited drive weighs more turns to the side holding it."
  forked : bucket_kind m b ≡ Tree → (y ≡ None → ⊥) → (z ≡ None → ⊥)
      → (e : Holder m c b) → Heavier m c b e (Forks m c b e x r (put m c) m) (Forks m c b e x r m (put m c)) → Won m c x r b y z

-- only an edit of weight does this
pub won-edit : {m : Map} {c : Option Change} {x r b : ℕ} {y z : Option ℕ} → Won m c x r b y z → (d : ℕ) × (w : ℕ) × (c ≡ Some (Weight d w))
won-edit (straw k e h) = (e.device, e.weight, e.edit)
won-edit (found k e h) = (e.device, e.weight, e.edit)
won-edit (forked k p q e h) = (e.device, e.weight, e.edit)

-- "If only one run's draw finds none, the other run's winner is or holds that drive.": in a bucket of either kind
pub other-holds : {m : Map} {c : Option Change} {x r b : ℕ} {y z : Option ℕ} → Won m c x r b y z
    → (y ≡ None → (e : Holder m c b) × WonBy m c b e z) × (z ≡ None → (e : Holder m c b) × WonBy m c b e y)
other-holds (straw k e (inl h)) = (λ q. absurd (let z : ◌≡◌ {A = ℕ} 0 1 = cc in omega arith), λ q. (e, h.1))
other-holds (straw k e (inr h)) = (λ q. (e, h.1), λ q. absurd (let z : ◌≡◌ {A = ℕ} 0 1 = cc in omega arith))
other-holds (found k e (inl h)) = (λ q. absurd (let z : ◌≡◌ {A = ℕ} 0 1 = cc in omega arith), λ q. (e, h.1.0))
other-holds (found k e (inr h)) = (λ q. (e, h.1.0), λ q. absurd (let z : ◌≡◌ {A = ℕ} 0 1 = cc in omega arith))
other-holds (forked k p q e h) = (λ o. absurd (p o), λ o. absurd (q o))

-- what an edit does to group x: only the edited device's acceptance test changes, after an edit of acceptance; and a draw changes only
-- after an edit of weight, and then as `Won` says
pub record Edited (m : Map) (c : Option Change) (x : ℕ) : Type 0 where
  pub tests : (i : ℕ) → (accepted (view_of m) x i ≡ accepted (view_of (put m c)) x i) ⊎ ((a : ℕ) × (c ≡ Some (Acceptance i a)))
  pub draws : (r b : ℕ) → (draw_at (view_of m) x r b ≡ draw_at (view_of (put m c)) x r b) ⊎ Won m c x r b (draw_at (view_of m) x r b) (draw_at (view_of (put m c)) x r b)

module _ (m : Map) (x r b : ℕ) where
  abbrev kids : List ℕ
  kids = children_of m b

  -- a draw by weights w of the children
  abbrev draw_with : Kind → (ℕ → ℕ) → Option ℕ
  draw_with k w = draw_by k S x r (bucket_item b) kids (map w kids)

  draw-old : draw_at (view_of m) x r b ≡ draw_with (bucket_kind m b) (weight_of m)
  unfolding draw_at view_of weights_of
  draw-old = refl

  draw-new : (c : Option Change) → draw_at (view_of (put m c)) x r b ≡ draw_with (bucket_kind m b) (weight_of (put m c))
  unfolding draw_at view_of
  draw-new c =
      ap (λ (k : Kind). draw_by k S x r (bucket_item b) (children_of (put m c) b) (weights_of (put m c) b)) (put-bucket-kind m c b)
      ∙ ap₂ (draw_by (bucket_kind m b) S x r (bucket_item b)) (put-children m c b) (put-weights m c b)

  draw-keeps : (c : Option Change) → ((i : ℕ) → weight_of (put m c) i ≡ weight_of m i) → draw_at (view_of m) x r b ≡ draw_at (view_of (put m c)) x r b
  draw-keeps c h =
      draw-old ∙ sym (draw-new c ∙ ap (draw_by (bucket_kind m b) S x r (bucket_item b) kids) (map-ext (weight_of (put m c)) (weight_of m) kids (λ i k. h i)))

  -- the two draws of a tree walk by these weights, and fork at a node above place p, where the second turns to its side
  abbrev ForksAt : ℕ → (ℕ → ℕ) → (ℕ → ℕ) → Type 0
  ForksAt p v w = Fork S x r (bucket_item b) (map v kids) (map w kids) p (height_of (length kids)) 0

  -- how two draws of a bucket of this kind differ, where only the child at place p weighs more by w than by v
  data Differ (p : ℕ) (v w : ℕ → ℕ) : Kind → Type 0 where
    in-straw : draw_with Straw w ≡ Some (get_or kids p 0) → Differ p v w Straw
    one-finds : draw_with Tree v ≡ None → draw_with Tree w ≡ Some (get_or kids p 0) → Differ p v w Tree
    both-find : (draw_with Tree v ≡ None → ⊥) → (draw_with Tree w ≡ None → ⊥) → ForksAt p v w → Differ p v w Tree

  module _ (L : Loadable m) (d : ℕ) (v w : ℕ → ℕ) (R : Raises (kids_of m) d v w) where
    draws-differ : (k : Kind) → (draw_with k v ≡ draw_with k w) ⊎ ((p : ℕ) × (p < length kids) × Holds (kids_of m) (get_or kids p 0) d × Differ p v w k)
    unfolding draw_by
    draws-differ Straw =
        ⊎_elim (λ e. inl e)
        (λ t.
        let (i, k, g, e) = t in
        let (p, s, q) = at_mem 0 k in
        inr (p, s, rw q g, in-straw (e ∙ ap Some (sym q))))
        (draw-child m L d v w R S x r b)
    draws-differ Tree =
        ⊎_elim (λ e. inl (ap (λ (ws : List ℕ). tree_of S x r (bucket_item b) ws kids) e))
        (λ h.
        ⊎_elim (λ e. inl e)
        (λ t. inr (h.place, h.inside, h.holds, ⊎_elim (λ o. one-finds o.0 o.1) (λ o. both-find o.0 o.1 o.2) t))
        (tree-law S x r (bucket_item b) (map v kids) (map w kids) h.place h.by h.only h.more kids (length-map kids v) (length-map kids w) h.inside))
        (child-heavier m L d v w R b)

  module _ (L : Loadable m) (d w : ℕ) (h : has_device m d ≡ true) where
    abbrev c : Option Change
    c = Some (Weight d w)

    abbrev y : Option ℕ
    y = draw_at (view_of m) x r b

    abbrev z : Option ℕ
    z = draw_at (view_of (put m c)) x r b

    abbrev Claim : Type 0
    Claim = (y ≡ z) ⊎ Won m c x r b y z

    abbrev holder : (p : ℕ) → p < length kids → Holds (kids_of m) (get_or kids p 0) d → Holder m c b
    holder p s g = record { device = d; weight = w; edit = refl; place = p; inside = s; holds = g }

    old-is : (k : Kind) → bucket_kind m b ≡ k → y ≡ draw_with k (weight_of m)
    old-is k e = draw-old ∙ ap (λ (o : Kind). draw_with o (weight_of m)) e

    new_is : (k : Kind) → bucket_kind m b ≡ k → z ≡ draw_with k (weight_of (put m c))
    new_is k e = draw-new c ∙ ap (λ (o : Kind). draw_with o (weight_of (put m c))) e

    raised-won : (p : ℕ) (s : p < length kids) (g : Holds (kids_of m) (get_or kids p 0) d) → device_weight m d < w → (k : Kind) → bucket_kind m b ≡ k
        → Differ p (weight_of m) (weight_of (put m c)) k → Won m c x r b y z
    unfolding weights_of
    raised-won p s g l Straw k (in-straw e) = straw k (holder p s g) (inr (l, new_is Straw k ∙ e))
    raised-won p s g l Tree k (one-finds e f) = found k (holder p s g) (inr (l, (new_is Tree k ∙ f, old-is Tree k ∙ e)))
    raised-won p s g l Tree k (both-find e f F) =
        forked k (λ q. e (sym (old-is Tree k) ∙ q)) (λ q. f (sym (new_is Tree k) ∙ q)) (holder p s g)
        (inr (l, subst (λ (ws : List ℕ). Fork S x r (bucket_item b) (weights_of m b) ws p (height_of (length kids)) 0) (sym (put-weights m c b)) F))

    lowered-won : (p : ℕ) (s : p < length kids) (g : Holds (kids_of m) (get_or kids p 0) d) → w < device_weight m d → (k : Kind) → bucket_kind m b ≡ k
        → Differ p (weight_of (put m c)) (weight_of m) k → Won m c x r b y z
    unfolding weights_of
    lowered-won p s g l Straw k (in-straw e) = straw k (holder p s g) (inl (l, old-is Straw k ∙ e))
    lowered-won p s g l Tree k (one-finds e f) = found k (holder p s g) (inl (l, (old-is Tree k ∙ f, new_is Tree k ∙ e)))
    lowered-won p s g l Tree k (both-find e f F) =
        forked k (λ q. f (sym (old-is Tree k) ∙ q)) (λ q. e (sym (new_is Tree k) ∙ q)) (holder p s g)
        (inl (l, subst (λ (ws : List ℕ). Fork S x r (bucket_item b) ws (weights_of m b) p (height_of (length kids)) 0) (sym (put-weights m c b)) F))

    draw-raised : device_weight m d < w → Claim
    draw-raised l =
        ⊎_elim (λ e. inl (draw-old ∙ e ∙ sym (draw-new c))) (λ t. let (p, s, g, D) = t in inr (raised-won p s g l (bucket_kind m b) refl D))
        (draws-differ L d (weight_of m) (weight_of (put m c)) (put-raises m d w h L (omega arith)) (bucket_kind m b))

    draw-lowered : w < device_weight m d → Claim
    draw-lowered l =
        ⊎_elim (λ e. inl (draw-old ∙ sym e ∙ sym (draw-new c))) (λ t. let (p, s, g, D) = t in inr (lowered-won p s g l (bucket_kind m b) refl D))
        (draws-differ L d (weight_of (put m c)) (weight_of m) (put-lowers m d w h L (omega arith)) (bucket_kind m b))

    draw-even : device_weight m d ≡ w → Claim
    draw-even e =
        inl (draw-keeps (Some (Weight d w))
        (λ i. omega (arith, (put-raises m d w h L (omega arith)).rises i, (put-lowers m d w h L (omega arith)).rises i)))

    draw-weighed : Claim
    draw-weighed = go (dec_lt (device_weight m d) w) (dec_lt w (device_weight m d))
      where
        go : Dec (device_weight m d < w) → Dec (w < device_weight m d) → Claim
        go (yes l) q = draw-raised l
        go (no f) (yes l) = draw-lowered l
        go (no f) (no g) = draw-even (omega arith)

-- an acceptance test goes by the device's acceptance
test_by : (v w : View) (x i : ℕ) → v.seed ≡ w.seed → v.acceptance i ≡ w.acceptance i → accepted v x i ≡ accepted w x i
unfolding accepted device_accepts
test_by v w x i p q = rw (p, q)

test-accepted : (m : Map) (x d a : ℕ) → has_device m d ≡ true → (i : ℕ)
    → (accepted (view_of m) x i ≡ accepted (view_of (put m (Some (Acceptance d a)))) x i) ⊎ ((e : ℕ) × (Some (Acceptance d a) ≡ Some (Acceptance i e)))
unfolding view_of
test-accepted m x d a h i = go (eqb i d) refl
  where
    go : (b : Bool) → eqb i d ≡ b
        → (accepted (view_of m) x i ≡ accepted (view_of (put m (Some (Acceptance d a)))) x i) ⊎ ((e : ℕ) × (Some (Acceptance d a) ≡ Some (Acceptance i e)))
    go true e = inr (a, ap (λ j. Some (Acceptance j a)) (sym (eqb-true i d e)))
    go false e = inl (test_by (view_of m) (view_of (put m (Some (Acceptance d a)))) x i refl (sym (put-acceptance m d a h i ∙ rw e)))

test-weighed : (m : Map) (x d w i : ℕ) → accepted (view_of m) x i ≡ accepted (view_of (put m (Some (Weight d w)))) x i
unfolding view_of
test-weighed m x d w i = test_by (view_of m) (view_of (put m (Some (Weight d w)))) x i refl (sym (weight-leaves-acceptance m d w i))

-- a fitting edit of a loadable map does this and no more
pub edited : (m : Map) (c : Option Change) → Loadable m → fits m c ≡ true → (x : ℕ) → Edited m c x
unfolding fits
edited m (Some (Acceptance d a)) L f x =
    record {
      tests = test-accepted m x d a (both (has_device m d) (leb a 65536) f).0;
      draws = λ r b. inl (draw-keeps m x r b (Some (Acceptance d a)) (acceptance-leaves-weights m d a));
    }
edited m (Some (Weight d w)) L f x =
    record { tests = λ i. inl (test-weighed m x d w i); draws = λ r b. draw-weighed m x r b L d w (both (has_device m d) (leb w 65535) f).0 }
edited m None L f x = absurd (false≢true f)

-- ---- what an edit leaves as it is

module _ (m : Map) (c : Option Change) where
  -- the types
  pub put-types : (i : ℕ) → (view_of m).type i ≡ (view_of (put m c)).type i
  unfolding view_of
  put-types i = sym (put-type m c i)

  -- the steps
  pub put_step : (k : ℕ) (a : Action) → step_at m k ≡ a → step_at (put m c) k ≡ a
  put_step k a e = steps-same m (put m c) (put-actions m c) k ∙ e

  -- which of them leave the working list
  pub put-stays : (k : ℕ) → (step_at m k ≡ Emit) ⊎ (step_at m k ≡ Idle) → (step_at (put m c) k ≡ Emit) ⊎ (step_at (put m c) k ≡ Idle)
  put-stays k = ⊎_elim (λ e. inl (put_step k Emit e)) (λ e. inr (put_step k Idle e))

  -- that every select is independent
  pub put-independent : independent (put m c) ≡ independent m
  unfolding independent
  put-independent = rw (put-actions m c)

  -- how many places there are after each step
  pub put_count : independent m ≡ true → (x k : ℕ) → length (working_at m x k) ≡ length (working_at (put m c) x k)
  put_count ind x k = count_same m (put m c) (put-actions m c) ind x x k
