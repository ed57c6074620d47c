-- The walk from the root to a leaf, by sums: a node weighs the difference of what is before it and before its end. Assumes nothing.
use Rattle.std.proofs.Math.Path.{◌≡◌, refl, subst}
use Rattle.std.proofs.Common.{sym, ap, ◌∙◌, zero-mul, pow_mono}
use Rattle.std.specs.Prelude.{max, Bool, cond, List, ltb, get_or, Option, None, Some}
use Rattle.std.proofs.Math.Bool.{true, false}
use Prim.Native.Nat.{ℕ, zero, suc, ◌+◌, ◌-◌, ◌*◌, ◌/◌, ◌%◌, ◌^◌, ◌<◌, ◌≤◌}
use Rattle.std.proofs.Math.Nat.{pow-zero, pow-suc, sub-zero}
use Rattle.std.proofs.Math.Decide.{dec_lt}
use Rattle.std.specs.Int.{IsPowerOfTwo}
use native.Mathlib.Omega.{arith}
use borrow.Author.Tests.{ltb-true, ltb-false, lt-ltb, le-ltb, ne_eqb}
use Rattle.std.proofs.Math.ListN.{length, get_or-eq_default}
use Rattle.std.proofs.Math.Pow.{pow_pos}
use Rattle.definitions.specs.Hash.{hash4}
use Rattle.definitions.specs.Tree.{label_of, height_to, height_of, node_weight, turns_left, node_below, leaf_from, tree_by, tree_of}
use Rattle.laws.specs.Tree.{height-room, height-least, leaf-above, leaf-inside}
use Rattle.hierarchy.specs.Sums.{firsts_of, before, leaf_weight, total_in, weights_from, firsts_of-length, firsts_of-at, before-between}
use Rattle.tree.specs.declared.Node.{Node}

-- ---- heights

-- 64 children have no more leaves
pub leaves-most : (n : ℕ) → n ≤ 64 → 2 ^ height_of n ≤ 64
leaves-most n h = omega (arith, pow_mono {i = height_of n} {j = 6} (height-least n 6 h))

-- the least power of two with room for the children is the root's label
pub root-label : (n span : ℕ) → IsPowerOfTwo span → n ≤ span → span / 2 < max 1 n → span ≡ 2 ^ height_of n
root-label n span (k, e) h l = e ∙ ap (λ (j : ℕ). 2 ^ j) (go k e)
  where
    go : (k : ℕ) → span ≡ 2 ^ k → k ≡ height_of n
    go zero e = omega (arith, height-least n 0 (omega (arith, h, e)))
    go (suc j) e = by (dec_lt j (height_of n))
      where
        by : Dec (j < height_of n) → suc j ≡ height_of n
        by (yes r) = omega (arith, r, height-least n (suc j) (omega (arith, h, e)))
        by (no f) =
            absurd (omega (arith, e, l, pow-suc 2 j, pow_pos j, height-room n, pow_mono {i = height_of n} {j = j} (omega arith)))

-- where the leaves on the two sides of node k begin
begins-left : (j k : ℕ) → k * 2 ^ suc j ≡ 2 * k * 2 ^ j
begins-left j k = omega (arith, ap (λ (p : ℕ). k * p) (pow-suc 2 j))

begins-right : (j k : ℕ) → k * 2 ^ suc j + 2 ^ j ≡ (2 * k + 1) * 2 ^ j
begins-right j k = omega (arith, ap (λ (p : ℕ). k * p) (pow-suc 2 j))

-- ---- weights

module _ (sums : List ℕ) where
  abbrev n : ℕ
  n = length sums

  -- the weights of the children
  abbrev pub weights : List ℕ
  weights = weights_from sums n

  -- where they weigh anything there are some
  pub some-weigh : (total_in sums ≡ 0 → ⊥) → 0 < n
  some-weigh f = by (dec_lt 0 n)
    where
      by : Dec (0 < n) → 0 < n
      by (yes h) = h
      by (no g) = absurd (f (get_or-eq_default sums 0 {n = n - 1} (omega arith)))

  -- what is before each place of a node of weight 0
  before-even : (i h : ℕ) → before sums i h h ≡ h
  before-even i h = let (l, m) = before-between sums i h h (omega arith) in omega arith

  leaf-even : (j a h i : ℕ) → leaf_weight sums j a h h i ≡ 0
  unfolding leaf_weight
  leaf-even zero a h i = omega arith
  leaf-even (suc j) a h i = rw (before-even (a + 2 ^ j) h, leaf-even j a h i, leaf-even j (a + 2 ^ j) h i) (go (ltb i (a + 2 ^ j)))
    where
      go : (t : Bool) → ◌≡◌ {A = ℕ} (cond t 0 0) 0
      go true = refl
      go false = refl

  -- the two sides of a node
  leaf-left : (j a lo hi i : ℕ) → i < a + 2 ^ j → leaf_weight sums (suc j) a lo hi i ≡ leaf_weight sums j a lo (before sums (a + 2 ^ j) lo hi) i
  unfolding leaf_weight
  leaf-left j a lo hi i h = rw (lt-ltb i (a + 2 ^ j) h)

  leaf-right : (j a lo hi i : ℕ) → a + 2 ^ j ≤ i → leaf_weight sums (suc j) a lo hi i ≡ leaf_weight sums j (a + 2 ^ j) (before sums (a + 2 ^ j) lo hi) hi i
  unfolding leaf_weight
  leaf-right j a lo hi i h = rw (le-ltb i (a + 2 ^ j) h)

  -- what is before a place behind the last child
  before-missing : (i lo hi : ℕ) → n ≤ i → before sums i lo hi ≡ hi
  unfolding before
  before-missing i lo hi h = rw (le-ltb i n h)

  -- a missing leaf weighs 0
  leaf-missing : (j a lo hi i : ℕ) → a < n → n ≤ i → i < a + 2 ^ j → leaf_weight sums j a lo hi i ≡ 0
  leaf-missing zero a lo hi i h l u = absurd (omega (arith, pow-zero 2))
  leaf-missing (suc j) a lo hi i h l u = go (dec_lt i (a + 2 ^ j)) (dec_lt (a + 2 ^ j) n) (leaf-missing j)
    where
      go : Dec (i < a + 2 ^ j) → Dec (a + 2 ^ j < n)
          → ((a lo hi i : ℕ) → a < n → n ≤ i → i < a + 2 ^ j → leaf_weight sums j a lo hi i ≡ 0) → leaf_weight sums (suc j) a lo hi i ≡ 0
      go (yes p) q rest = leaf-left j a lo hi i p ∙ rest a lo (before sums (a + 2 ^ j) lo hi) i h l p
      go (no p) (yes q) rest =
          leaf-right j a lo hi i (omega arith) ∙ rest (a + 2 ^ j) (before sums (a + 2 ^ j) lo hi) hi i q l (omega (arith, u, pow-suc 2 j))
      go (no p) (no q) rest =
          leaf-right j a lo hi i (omega arith) ∙ rw (before-missing (a + 2 ^ j) lo hi (omega arith)) (leaf-even j (a + 2 ^ j) hi i)

  -- each leaf under the root
  leaf-is : 0 < n → (i : ℕ) → i < 2 ^ height_of n → get_or weights i 0 ≡ leaf_weight sums (height_of n) 0 0 (total_in sums) i
  unfolding weights_from
  leaf-is h i l = go (dec_lt i n)
    where
      f : ℕ → ℕ
      f = leaf_weight sums (height_of n) 0 0 (total_in sums)

      go : Dec (i < n) → get_or (firsts_of n f) i 0 ≡ f i
      go (yes p) = firsts_of-at n f i p
      go (no p) =
          get_or-eq_default (firsts_of n f) 0 {n = i} (omega (arith, firsts_of-length n f))
          ∙ sym (leaf-missing (height_of n) 0 0 (total_in sums) i h (omega arith) (omega arith))

  -- these are the leaves under the node of height j whose first leaf is a
  abbrev Under : ℕ → ℕ → ℕ → ℕ → Type 0
  Under j a lo hi = (i : ℕ) → a ≤ i → i < a + 2 ^ j → get_or weights i 0 ≡ leaf_weight sums j a lo hi i

  module _ (j a lo hi : ℕ) (u : Under (suc j) a lo hi) where
    left-under : Under j a lo (before sums (a + 2 ^ j) lo hi)
    left-under i h l = u i h (omega (arith, pow-suc 2 j)) ∙ leaf-left j a lo hi i l

    right-under : Under j (a + 2 ^ j) (before sums (a + 2 ^ j) lo hi) hi
    right-under i h l = u i (omega arith) (omega (arith, l, pow-suc 2 j)) ∙ leaf-right j a lo hi i h

  -- a node weighs what is before its end less what is before it
  node-weighs : (j k a lo hi : ℕ) → a ≡ k * 2 ^ j → lo ≤ hi → Under j a lo hi → node_weight weights j k ≡ hi - lo
  unfolding node_weight leaf_weight
  node-weighs zero k a lo hi e h u = u k (omega (arith, e, pow-zero 2)) (omega (arith, e, pow-zero 2))
  node-weighs (suc j) k a lo hi e h u =
      let m = before sums (a + 2 ^ j) lo hi in
      let (p, q) = before-between sums (a + 2 ^ j) lo hi h in
      omega (
        arith,
        node-weighs j (2 * k) a lo m (e ∙ begins-left j k) p (left-under j a lo hi u),
        node-weighs j (2 * k + 1) (a + 2 ^ j) m hi (rw e (begins-right j k)) q (right-under j a lo hi u),
      )

-- ---- the walk

-- "floor(t × node weight / 2^32) is less than the left weight", without the division: a is the product
pub part-less : (a b : ℕ) → b < 2 ^ 32 → ltb a ((b * 2 ^ 32) % 2 ^ 64) ≡ ltb (a / 2 ^ 32) b
part-less a b h = go (ltb (a / 2 ^ 32) b) refl
  where
    go : (t : Bool) → ltb (a / 2 ^ 32) b ≡ t → ltb a ((b * 2 ^ 32) % 2 ^ 64) ≡ t
    go true e = lt-ltb a ((b * 2 ^ 32) % 2 ^ 64) (omega (arith, h, ltb-true (a / 2 ^ 32) b e))
    go false e = le-ltb a ((b * 2 ^ 32) % 2 ^ 64) (omega (arith, h, ltb-false (a / 2 ^ 32) b e))

abbrev node : ℕ → ℕ → ℕ → Node
node label lo hi = record { label = label; lo = lo; hi = hi }

module _ (seed x r item : ℕ) (sums : List ℕ) where
  abbrev leaves_of : ℕ
  leaves_of = 2 ^ height_of (length sums)

  abbrev ws : List ℕ
  ws = weights sums

  abbrev leaf : ℕ → ℕ → ℕ
  leaf = leaf_from seed x r item ws

  -- the child to which the walk turns at a node whose children's labels lie this far to either side, where mid is what is before its middle
  abbrev pub side_by : ℕ → Node → ℕ → Bool → Node
  side_by side n mid b = cond b (node (n.label - side) n.lo mid) (node (n.label + side) mid n.hi)

  unfoldable pub turned : ℕ → Node → Node
  turned side n =
      let mid = before sums (n.label / 2) n.lo n.hi in
      side_by side n mid (ltb (hash4 seed x n.label r item * (n.hi - n.lo) / 2 ^ 32) (mid - n.lo))

  pub turned-side : (side : ℕ) (n : Node) (mid : ℕ) → mid ≡ before sums (n.label / 2) n.lo n.hi → (b : Bool)
      → b ≡ ltb (hash4 seed x n.label r item * (n.hi - n.lo) / 2 ^ 32) (mid - n.lo) → (d : Bool) → b ≡ d → side_by side n mid d ≡ turned side n
  unfolding turned
  turned-side side n mid e b q d t = rw (← t, q, e)

  -- the walk has come to this node, whose children's labels lie this far to either side: the leaf from here is the leaf
  pub record Stands (side : ℕ) (n : Node) : Type 0 where
    pub height : ℕ
    pub place : ℕ
    pub sides : side ≡ 2 ^ height / 2
    pub labelled : n.label ≡ label_of height place
    pub ends : n.label + 2 ^ height ≤ 2 * leaves_of
    pub rises : n.lo ≤ n.hi
    pub under : Under sums height (place * 2 ^ height) n.lo n.hi
    pub leads : leaf height place ≡ leaf (height_of (length sums)) 0

  -- then its label and those of its children are in range
  pub stands-bounds : (side : ℕ) (n : Node) → Stands side n → 0 < side → length sums ≤ 64 → (2 ≤ n.label) × (side ≤ n.label) × (n.label + side ≤ 128)
  stands-bounds side n s h l =
      let m : 2 ^ s.height ≤ n.label = omega (arith, s.labelled) in
      (omega (arith, m, h, s.sides), omega (arith, m, s.sides), omega (arith, s.ends, s.sides, leaves-most (length sums) l))

  pub stands-root : 0 < length sums → (total : ℕ) → total ≡ total_in sums → Stands (leaves_of / 2) (node leaves_of 0 total)
  stands-root h total e =
      record {
        height = height_of (length sums);
        place = 0;
        sides = refl;
        labelled = omega arith;
        ends = omega arith;
        rises = omega arith;
        under = λ i l u. rw (e, zero-mul (2 ^ height_of (length sums))) (leaf-is sums h i (omega (arith, u, zero-mul (2 ^ height_of (length sums)))));
        leads = refl;
      }

  -- at the leaf the walk ends
  pub stands-leaf : (side : ℕ) (n : Node) → Stands side n → side ≤ 0 → n.label / 2 ≡ leaf (height_of (length sums)) 0
  unfolding leaf_from
  stands-leaf side n s h = go s.height s.sides s.labelled s.leads
    where
      go : (j : ℕ) → side ≡ 2 ^ j / 2 → n.label ≡ label_of j s.place → leaf j s.place ≡ leaf (height_of (length sums)) 0
          → n.label / 2 ≡ leaf (height_of (length sums)) 0
      go zero e q l = omega (arith, q, l, pow-zero 2)
      go (suc j) e q l = absurd (omega (arith, h, e, pow-suc 2 j, pow_pos j))

  -- the side to which the code turns is the definition's
  side-is : (j k label lo hi : ℕ) → label ≡ label_of (suc j) k → lo ≤ hi → Under sums (suc j) (k * 2 ^ suc j) lo hi
      → ltb (hash4 seed x label r item * (hi - lo) / 2 ^ 32) (before sums (k * 2 ^ suc j + 2 ^ j) lo hi - lo) ≡ turns_left seed x r item ws j k
  unfolding turns_left
  side-is j k label lo hi e h u =
      let a = k * 2 ^ suc j in
      let (p, q) = before-between sums (a + 2 ^ j) lo hi h in
      rw (
        e,
        ← node-weighs sums (suc j) k a lo hi refl h u,
        ← node-weighs sums j (2 * k) a lo (before sums (a + 2 ^ j) lo hi) (begins-left j k) p (left-under sums j a lo hi u),
      )

  -- one turn more
  pub stands-turn : (side : ℕ) (n o : Node) → Stands side n → 0 < side → o ≡ turned side n → Stands (side / 2) o
  unfolding turned leaf_from node_below
  stands-turn side n o s h t = subst (Stands (side / 2)) (sym t) (go s.height s.sides s.labelled s.ends s.under s.leads)
    where
      k : ℕ
      k = s.place

      go : (j : ℕ) → side ≡ 2 ^ j / 2 → n.label ≡ label_of j k → n.label + 2 ^ j ≤ 2 * leaves_of → Under sums j (k * 2 ^ j) n.lo n.hi
          → leaf j k ≡ leaf (height_of (length sums)) 0 → Stands (side / 2) (turned side n)
      go zero e q v u l = absurd (omega (arith, h, e, pow-zero 2))
      go (suc j) e q v u l =
          let z : side ≡ 2 ^ j = omega (arith, e, pow-suc 2 j) in
          rw (z, middle)
          (subst (λ (b : Bool). Stands (2 ^ j / 2) (side_by (2 ^ j) n mid b)) (sym (side-is j k n.label n.lo n.hi q s.rises u))
          (by (turns_left seed x r item ws j k) l))
        where
          a : ℕ
          a = k * 2 ^ suc j

          double : k * 2 ^ suc j ≡ 2 * (k * 2 ^ j)
          double = omega (arith, ap (λ (p : ℕ). k * p) (pow-suc 2 j))

          middle : n.label / 2 ≡ a + 2 ^ j
          middle = omega (arith, q, double, pow-suc 2 j)

          mid : ℕ
          mid = before sums (a + 2 ^ j) n.lo n.hi

          between : (n.lo ≤ mid) × (mid ≤ n.hi)
          between = before-between sums (a + 2 ^ j) n.lo n.hi s.rises

          by : (b : Bool) → leaf j (cond b (2 * k) (2 * k + 1)) ≡ leaf (height_of (length sums)) 0 → Stands (2 ^ j / 2) (side_by (2 ^ j) n mid b)
          by true m =
              record {
                height = j;
                place = 2 * k;
                sides = refl;
                labelled = omega (arith, q, double, pow-suc 2 j);
                ends = omega (arith, v, pow-suc 2 j);
                rises = between.0;
                under = subst (λ (i : ℕ). Under sums j i n.lo mid) (begins-left j k) (left-under sums j a n.lo n.hi u);
                leads = m;
              }
          by false m =
              record {
                height = j;
                place = 2 * k + 1;
                sides = refl;
                labelled = omega (arith, q, double, pow-suc 2 j);
                ends = omega (arith, v, pow-suc 2 j);
                rises = between.1;
                under = subst (λ (i : ℕ). Under sums j i mid n.hi) (begins-right j k) (right-under sums j a n.lo n.hi u);
                leads = m;
              }

  -- ---- the draw

  module _ (items : List ℕ) (paired : length sums ≡ length items) where
    abbrev drawn : Option ℕ
    drawn = tree_of seed x r item (weights_from sums (length items)) items

    total-is : 0 < length sums → node_weight ws (height_of (length sums)) 0 ≡ total_in sums
    total-is h =
        node-weighs sums (height_of (length sums)) 0 0 0 (total_in sums) (omega arith) (omega arith) (λ i l u. leaf-is sums h i (omega arith))
        ∙ sub-zero (total_in sums)

    draw-empty : length sums ≡ 0 → None ≡ drawn
    unfolding tree_of tree_by height_of height_to node_weight weights_from firsts_of
    draw-empty e = let z : length items ≡ 0 = omega (arith, paired, e) in rw z

    draw-weightless : 0 < length sums → total_in sums ≡ 0 → None ≡ drawn
    unfolding tree_of tree_by
    draw-weightless h e = rw (← paired, total-is h, e)

    pub draw-none : total_in sums ≡ 0 → None ≡ drawn
    draw-none e = go (dec_lt 0 (length sums))
      where
        go : Dec (0 < length sums) → None ≡ drawn
        go (yes h) = draw-weightless h e
        go (no f) = draw-empty (omega arith)

    module _ (f : total_in sums ≡ 0 → ⊥) (k : ℕ) (e : k ≡ leaf (height_of (length sums)) 0) where
      pub draw-inside : k < length items
      unfolding weights_from
      draw-inside =
          let p = leaf-above seed x r item ws (height_of (length sums)) 0 (omega (arith, total-is (some-weigh sums f), f)) in
          omega (arith, leaf-inside ws (leaf (height_of (length sums)) 0) p, firsts_of-length (length sums) (leaf_weight sums (height_of (length sums)) 0 0 (total_in sums)), paired, e)

      pub draw-won : Some (get_or items k 0) ≡ drawn
      unfolding tree_of tree_by
      draw-won = rw (← paired, total-is (some-weigh sums f), ne_eqb (total_in sums) 0 f, e) (ap (λ (n : ℕ). Some (get_or items (leaf (height_of n) 0) 0)) paired)
