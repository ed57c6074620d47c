-- Change 4, the tree draw: labels and heights are the document's; its winner is a child above 0, and none means that there is none; and where
-- two draws part whose weights differ at one child. Assumes nothing.
use Rattle.std.proofs.Math.Path.{◌≡◌, refl, sym, ap, subst}
use Rattle.std.proofs.Common.{◌∙◌, mul-le-mul_right, mul-add, pow-suc, pow_mono}
use Rattle.std.specs.Prelude.{Bool, List, [], ◌∷◌, ◌⊎◌, leb, Option, None, Some}
use Rattle.std.proofs.Math.Bool.{true, false, cond}
use Rattle.std.proofs.Math.Logic.{inl, inr, ⊎_elim}
use Prim.Native.Nat.{ℕ, zero, suc, ◌+◌, ◌*◌, ◌/◌, ◌%◌, ◌^◌, ◌<◌, ◌≤◌}
use Rattle.std.proofs.Math.Nat.{pow-zero}
use Rattle.std.proofs.Math.Decide.{ℕ_discrete, dec_lt}
use native.Mathlib.Omega.{arith}
use borrow.Author.Tests.{ltb-true, ltb-false, leb-true, leb-false, eqb-true, eqb-false}
use Rattle.std.specs.Int.Bits.{bit_xor}
use Rattle.std.proofs.lemmas.Nat.{xor_lt}
use Rattle.std.proofs.Math.Dec.{ltb, eqb}
use Rattle.std.proofs.Math.ListN.{length, get_or, get_or-eq_default}
use Rattle.definitions.specs.declared.Mix.{Mix}
use Rattle.definitions.specs.Lists.{distinct}
use Rattle.definitions.specs.declared.Shift.TheVariants.{Left, Right}
use Rattle.definitions.specs.Hash.{minus, rows, mix_step, mix_steps, mix, hash4}
use Rattle.definitions.specs.Tree.{label_of, height_to, height_of, node_weight, turns_left, node_below, leaf_from, tree_by, tree_of}
use Rattle.laws.specs.Members.{one_index}

-- ---- a hash is a number of 32 bits

step-lt : (x y z w : ℕ) → w < 2 ^ 32 → bit_xor (minus (minus x y) z) w < 2 ^ 32
step-lt x y z w h = xor_lt 32 (minus (minus x y) z) w (omega arith) h

left_lt : (n : ℕ) (m : Mix) → (mix_step (Left n) m).c < 2 ^ 32
unfolding mix_step
left_lt n m = step-lt m.a m.b m.c ((m.c * 2 ^ n) % 2 ^ 32) (omega arith)

right_lt : (m : Mix) → m.c < 2 ^ 32 → (mix_step (Right 15) m).c < 2 ^ 32
unfolding mix_step
right_lt m h = step-lt m.a m.b m.c (m.c / 2 ^ 15) (omega arith)

pub mix-lt : (m : Mix) → (mix m).c < 2 ^ 32
unfolding mix mix_steps rows
mix-lt m = right_lt _ (left_lt 10 _)

pub hash4-lt : (seed p q s z : ℕ) → hash4 seed p q s z < 2 ^ 32
unfolding hash4
hash4-lt seed p q s z = mix-lt _

-- ---- heights

power-above : (n : ℕ) → n ≤ 2 ^ n
power-above zero = rw (pow-zero 2) (omega arith)
power-above (suc n) = rw (pow-suc 2 n) (go n (power-above n))
  where
    go : (n : ℕ) → n ≤ 2 ^ n → suc n ≤ 2 ^ n * 2
    go zero h = rw (pow-zero 2) (omega arith)
    go (suc m) h = omega arith

height-to : (n i : ℕ) → n ≤ 2 ^ i → n ≤ 2 ^ height_to n i
unfolding height_to
height-to n zero h = h
height-to n (suc i) h = go (leb n (2 ^ i)) refl (height-to n i)
  where
    go : (b : Bool) → leb n (2 ^ i) ≡ b → (n ≤ 2 ^ i → n ≤ 2 ^ height_to n i) → n ≤ 2 ^ cond b (height_to n i) (suc i)
    go true e rest = rest (leb-true n (2 ^ i) e)
    go false e rest = h

-- the children have room under the root
pub height-room : (n : ℕ) → n ≤ 2 ^ height_of n
unfolding height_of
height-room n = height-to n n (power-above n)

-- and under none that is lower: "the least power of two that is at least the number of children"
height-to-least : (n i j : ℕ) → n ≤ 2 ^ j → height_to n i ≤ j
unfolding height_to
height-to-least n zero j h = omega arith
height-to-least n (suc i) j h = go (leb n (2 ^ i)) refl (height-to-least n i j h)
  where
    go : (t : Bool) → leb n (2 ^ i) ≡ t → height_to n i ≤ j → cond t (height_to n i) (suc i) ≤ j
    go true e r = r
    go false e r = by (dec_lt i j)
      where
        by : Dec (i < j) → suc i ≤ j
        by (yes l) = l
        by (no f) = absurd (omega (arith, h, leb-false n (2 ^ i) e, pow_mono {i = j} {j = i} (omega arith)))

pub height-least : (n j : ℕ) → n ≤ 2 ^ j → height_of n ≤ j
unfolding height_of
height-least n j h = height-to-least n n j h

-- ---- labels

-- "Child i, from 0, is the leaf labelled 2 × i + 1."
pub label-leaf : (i : ℕ) → label_of 0 i ≡ 2 * i + 1
label-leaf i = omega (arith, pow-zero 2)

-- "The root's label is the least power of two .."
pub label-root : (n : ℕ) → label_of (height_of n) 0 ≡ 2 ^ height_of n
label-root n = omega arith

-- ".. its children's labels lie 2^(j−1) to either side"
pub label-sides : (j k : ℕ) → (label_of j (2 * k) + 2 ^ j ≡ label_of (suc j) k) × (label_of (suc j) k + 2 ^ j ≡ label_of j (2 * k + 1))
label-sides j k = let e = ap (λ (p : ℕ). k * p) (pow-suc 2 j) in (omega (arith, e, pow-suc 2 j), omega (arith, e, pow-suc 2 j))

-- ---- nodes

-- the node of height j above leaf i
unfoldable pub above : ℕ → ℕ → ℕ
above i zero = i
above i (suc j) = above i j / 2

above-lt : (i j n : ℕ) → i < n * 2 ^ j → above i j < n
unfolding above
above-lt i zero n h = omega (arith, pow-zero 2)
above-lt i (suc j) n h = let r = above-lt i j (n * 2) (omega (arith, ap (λ (p : ℕ). n * p) (pow-suc 2 j))) in omega arith

-- the root is above each child
pub above_root : (i n : ℕ) → i < n → above i (height_of n) ≡ 0
above_root i n h = let r = above-lt i (height_of n) 1 (omega (arith, height-room n)) in omega arith

half : (a k : ℕ) → a / 2 ≡ k → (a ≡ 2 * k) ⊎ (a ≡ 2 * k + 1)
half a k e = go (ℕ_discrete a (2 * k))
  where
    go : Dec (a ≡ 2 * k) → (a ≡ 2 * k) ⊎ (a ≡ 2 * k + 1)
    go (yes p) = inl p
    go (no f) = inr (omega arith)

module _ (ws : List ℕ) where
  -- a node weighs no less than a leaf under it
  pub leaf-le : (i j : ℕ) → get_or ws i 0 ≤ node_weight ws j (above i j)
  unfolding node_weight above
  leaf-le i zero = omega arith
  leaf-le i (suc j) =
      ⊎_elim (λ e. omega (arith, leaf-le i j, ap (node_weight ws j) e)) (λ e. omega (arith, leaf-le i j, ap (node_weight ws j) e))
      (half (above i j) (above i j / 2) refl)

  pub node-zero : ((i : ℕ) → get_or ws i 0 ≡ 0) → (j k : ℕ) → node_weight ws j k ≡ 0
  unfolding node_weight
  node-zero h zero k = h k
  node-zero h (suc j) k = omega (arith, node-zero h j (2 * k), node-zero h j (2 * k + 1))

  -- a leaf above 0 is a child
  pub leaf-inside : (i : ℕ) → 0 < get_or ws i 0 → i < length ws
  leaf-inside i h = go (ltb i (length ws)) refl
    where
      go : (b : Bool) → ltb i (length ws) ≡ b → i < length ws
      go true e = ltb-true _ _ e
      go false e = absurd (omega (arith, get_or-eq_default ws 0 {n = i} (ltb-false _ _ e)))

-- a part of W, by a hash of 32 bits, is below W
part-lt : (t w : ℕ) → t < 2 ^ 32 → 0 < w → t * w / 2 ^ 32 < w
part-lt t w h p = let q : t * w ≤ 4294967295 * w = mul-le-mul_right w (omega arith) in omega arith

module _ (seed x r item : ℕ) (ws : List ℕ) where
  abbrev hash_at : ℕ → ℕ → ℕ
  hash_at j k = hash4 seed x (label_of (suc j) k) r item

  -- the walk goes from a node above 0 to a node above 0
  below-above : (j k : ℕ) → 0 < node_weight ws (suc j) k → 0 < node_weight ws j (node_below seed x r item ws j k)
  unfolding node_below turns_left node_weight
  below-above j k h = go (node_weight ws j (2 * k)) (node_weight ws j (2 * k + 1)) refl refl
    where
      go : (l o : ℕ) → l ≡ node_weight ws j (2 * k) → o ≡ node_weight ws j (2 * k + 1)
          → 0 < node_weight ws j (cond (ltb (hash_at j k * (node_weight ws j (2 * k) + node_weight ws j (2 * k + 1)) / 2 ^ 32) (node_weight ws j (2 * k))) (2 * k) (2 * k + 1))
      go l o p q = rw (← p, ← q) (by (ltb (hash_at j k * (l + o) / 2 ^ 32) l) refl)
        where
          by : (b : Bool) → ltb (hash_at j k * (l + o) / 2 ^ 32) l ≡ b → 0 < node_weight ws j (cond b (2 * k) (2 * k + 1))
          by true e = let u : hash_at j k * (l + o) / 2 ^ 32 < l = ltb-true _ _ e in rw (← p) (omega arith)
          by false e =
              let u : l ≤ hash_at j k * (l + o) / 2 ^ 32 = ltb-false _ _ e in
              let z : hash_at j k * (l + o) / 2 ^ 32 < l + o = part-lt (hash_at j k) (l + o) (hash4-lt _ _ _ _ _) (omega (arith, p, q, h)) in
              rw (← q) (omega arith)

  -- from a node above 0 the walk comes to a leaf above 0
  pub leaf-above : (j k : ℕ) → 0 < node_weight ws j k → 0 < get_or ws (leaf_from seed x r item ws j k) 0
  unfolding leaf_from node_weight
  leaf-above zero k h = h
  leaf-above (suc j) k h = leaf-above j (node_below seed x r item ws j k) (below-above j k h)

  -- the leaf to which the walk comes from a node is under it
  pub leaf-under : (j k : ℕ) → above (leaf_from seed x r item ws j k) j ≡ k
  unfolding leaf_from above node_below
  leaf-under zero k = refl
  leaf-under (suc j) k = ap (λ (n : ℕ). n / 2) (leaf-under j (node_below seed x r item ws j k)) ∙ go (turns_left seed x r item ws j k)
    where
      go : (b : Bool) → cond b (2 * k) (2 * k + 1) / 2 ≡ k
      go true = omega arith
      go false = omega arith

  -- "A bucket with one child draws that child, or none at weight 0."
  module _ (w i : ℕ) where
    one-by : (b : Bool) → eqb w 0 ≡ b → tree_of seed x r item (w ∷ []) (i ∷ []) ≡ cond b None (Some i)
    unfolding tree_of tree_by leaf_from node_weight height_of height_to
    one-by true e = rw e
    one-by false e = rw e

    pub one-child : tree_of seed x r item (w ∷ []) (i ∷ []) ≡ cond (eqb w 0) None (Some i)
    one-child = one-by (eqb w 0) refl

  module _ (items : List ℕ) (paired : length ws ≡ length items) where
    abbrev total : ℕ
    total = node_weight ws (height_of (length items)) 0

    -- the winner is a child of weight above 0
    pub tree-child : (i : ℕ) → tree_of seed x r item ws items ≡ Some i
        → (n : ℕ) × (n < length items) × (get_or items n 0 ≡ i) × (0 < get_or ws n 0)
    unfolding tree_of tree_by
    tree-child i = go (eqb total 0) refl
      where
        go : (b : Bool) → eqb total 0 ≡ b → tree_by seed x r item ws items b ≡ Some i → (n : ℕ) × (n < length items) × (get_or items n 0 ≡ i) × (0 < get_or ws n 0)
        go true e q = absurd (let z : ◌≡◌ {A = ℕ} 0 1 = cc in omega arith)
        go false e q =
            let n = leaf_from seed x r item ws (height_of (length items)) 0 in
            let ne : total ≡ 0 → ⊥ = eqb-false total 0 e in
            let p = leaf-above (height_of (length items)) 0 (omega arith) in
            let l = leaf-inside ws n p in
            (n, omega arith, (let w : get_or items n 0 ≡ i = cc in w), p)

    -- none exactly where there is no child of weight above 0
    pub tree-none : (tree_of seed x r item ws items ≡ None → (n : ℕ) → n < length items → get_or ws n 0 ≡ 0)
        × (((n : ℕ) → n < length items → get_or ws n 0 ≡ 0) → tree_of seed x r item ws items ≡ None)
    unfolding tree_of tree_by
    tree-none = go (eqb total 0) refl
      where
        all : ((n : ℕ) → n < length items → get_or ws n 0 ≡ 0) → (n : ℕ) → get_or ws n 0 ≡ 0
        all h n = at (ltb n (length items)) refl
          where
            at : (b : Bool) → ltb n (length items) ≡ b → get_or ws n 0 ≡ 0
            at true e = h n (ltb-true _ _ e)
            at false e = get_or-eq_default ws 0 {n = n} (let q : length items ≤ n = ltb-false n (length items) e in omega arith)

        go : (b : Bool) → eqb total 0 ≡ b
            → (tree_by seed x r item ws items b ≡ None → (n : ℕ) → n < length items → get_or ws n 0 ≡ 0)
            × (((n : ℕ) → n < length items → get_or ws n 0 ≡ 0) → tree_by seed x r item ws items b ≡ None)
        go true e = (λ q n h. omega (arith, leaf-le ws n (height_of (length items)), eqb-true total 0 e, ap (node_weight ws (height_of (length items))) (above_root n (length items) h)), λ h. refl)
        go false e = (
          λ q. absurd (let z : ◌≡◌ {A = ℕ} 0 1 = cc in omega arith),
          λ h. absurd (eqb-false total 0 e (node-zero ws (all h) (height_of (length items)) 0)),
        )

-- ---- two draws whose weights differ at one child

-- a run in which the left side weighs more turns left where the other does
left-stays : (t w l d : ℕ) → t < 2 ^ 32 → t * w / 2 ^ 32 < l → t * (w + d) / 2 ^ 32 < l + d
left-stays t w l d h e =
    let p : t * d ≤ 4294967296 * d = mul-le-mul_right d (omega arith) in
    let q : t * (w + d) ≡ t * w + t * d = mul-add t w d in
    omega arith

-- a run in which the right side weighs more turns right where the other does
right-stays : (t w l d : ℕ) → l ≤ t * w / 2 ^ 32 → l ≤ t * (w + d) / 2 ^ 32
right-stays t w l d e = let q : t * (w + d) ≡ t * w + t * d = mul-add t w d in omega arith

-- vs and ws are the children's weights in two runs, and c the place of a child
module _ (seed x r item : ℕ) (vs ws : List ℕ) (c : ℕ) where
  abbrev below₁ : ℕ → ℕ → ℕ
  below₁ = node_below seed x r item vs

  abbrev below₂ : ℕ → ℕ → ℕ
  below₂ = node_below seed x r item ws

  -- both walks come from node k of height j to node l of height i
  pub data Both (i l : ℕ) : ℕ → ℕ → Type 0 where
    here : Both i l i l
    down : {j k : ℕ} → below₁ j k ≡ below₂ j k → Both i l j (below₂ j k) → Both i l (suc j) k

  -- "where two paths first part, and the run in which the edited drive weighs more turns to the side holding it": at node l of height i + 1
  pub record Fork (j k : ℕ) : Type 0 where
    pub i : ℕ
    pub l : ℕ
    pub common : Both (suc i) l j k
    pub parts : below₁ i l ≡ below₂ i l → ⊥
    pub holds : above c (suc i) ≡ l
    pub turns : below₂ i l ≡ above c i

  both-from : {i l j k : ℕ} → Both i l j k
      → (leaf_from seed x r item vs j k ≡ leaf_from seed x r item vs i l) × (leaf_from seed x r item ws j k ≡ leaf_from seed x r item ws i l)
  unfolding leaf_from
  both-from here = (refl, refl)
  both-from (down {j} {k} e rest) = let q = both-from rest in (ap (leaf_from seed x r item vs j) e ∙ q.0, q.1)

  -- walks that fork come to different leaves
  pub fork-leaves : {j k : ℕ} → Fork j k → leaf_from seed x r item vs j k ≡ leaf_from seed x r item ws j k → ⊥
  unfolding leaf_from
  fork-leaves F e =
      let q = both-from F.common in
      let same = sym q.0 ∙ e ∙ q.1 in
      F.parts
      (sym (leaf-under seed x r item vs F.i (below₁ F.i F.l)) ∙ ap (λ (n : ℕ). above n F.i) same ∙ leaf-under seed x r item ws F.i (below₂ F.i F.l))

  -- so two draws that fork end in different children: their ends differ where their paths part
  pub fork_ends : (items : List ℕ) → distinct items ≡ true → length vs ≡ length items → length ws ≡ length items
      → (tree_of seed x r item vs items ≡ None → ⊥) → (tree_of seed x r item ws items ≡ None → ⊥) → Fork (height_of (length items)) 0
      → tree_of seed x r item vs items ≡ tree_of seed x r item ws items → ⊥
  unfolding tree_of tree_by
  fork_ends items u p q f g F = go (eqb (whole vs) 0) refl (eqb (whole ws) 0) refl f g
    where
      H : ℕ
      H = height_of (length items)

      whole : List ℕ → ℕ
      whole us = node_weight us H 0

      leaf : List ℕ → ℕ
      leaf us = leaf_from seed x r item us H 0

      D : List ℕ → Bool → Option ℕ
      D us b = tree_by seed x r item us items b

      there : (us : List ℕ) → length us ≡ length items → eqb (whole us) 0 ≡ false → leaf us < length items
      there us s e =
          let n : whole us ≡ 0 → ⊥ = eqb-false (whole us) 0 e in
          omega (arith, s, leaf-inside us (leaf us) (leaf-above seed x r item us H 0 (omega arith)))

      go : (a : Bool) → eqb (whole vs) 0 ≡ a → (b : Bool) → eqb (whole ws) 0 ≡ b → (D vs a ≡ None → ⊥) → (D ws b ≡ None → ⊥) → D vs a ≡ D ws b → ⊥
      go true e b h f g s = f refl
      go false e true h f g s = g refl
      go false e false h f g s =
          let o : get_or items (leaf vs) 0 ≡ get_or items (leaf ws) 0 = cc in
          fork-leaves F (one_index items u (leaf vs) (leaf ws) (there vs p e) (there ws q h) o)

  -- they differ at child c alone, which weighs d more in the second
  module _ (d : ℕ) (only : (i : ℕ) → (i ≡ c → ⊥) → get_or vs i 0 ≡ get_or ws i 0) (more : get_or ws c 0 ≡ get_or vs c 0 + d) where
    -- a node that is not above c weighs the same
    same-node : (j k : ℕ) → (above c j ≡ k → ⊥) → node_weight vs j k ≡ node_weight ws j k
    unfolding node_weight above
    same-node zero k f = only k (λ e. f (sym e))
    same-node (suc j) k f =
        omega (arith, same-node j (2 * k) (λ e. f (omega arith)), same-node j (2 * k + 1) (λ e. f (omega arith)))

    -- one above c weighs d more
    pub more-node : (j k : ℕ) → above c j ≡ k → node_weight ws j k ≡ node_weight vs j k + d
    unfolding node_weight above
    more-node zero k e = subst (λ (i : ℕ). get_or ws i 0 ≡ get_or vs i 0 + d) e more
    more-node (suc j) k e =
        ⊎_elim (λ p. omega (arith, more-node j (2 * k) p, same-node j (2 * k + 1) (λ q. omega arith)))
        (λ p. omega (arith, more-node j (2 * k + 1) p, same-node j (2 * k) (λ q. omega arith))) (half (above c j) k e)

    turn-law : (j k : ℕ) → (below₁ j k ≡ below₂ j k → ⊥) → (above c (suc j) ≡ k) × (below₂ j k ≡ above c j)
    unfolding node_below turns_left above
    turn-law j k f = go (ℕ_discrete (above c j / 2) k)
      where
        t : ℕ
        t = hash4 seed x (label_of (suc j) k) r item

        L : List ℕ → ℕ
        L us = node_weight us j (2 * k)

        W : List ℕ → ℕ
        W us = node_weight us (suc j) k

        B : List ℕ → Bool
        B us = ltb (t * W us / 2 ^ 32) (L us)

        side : Bool → ℕ
        side b = cond b (2 * k) (2 * k + 1)

        by_left : above c j ≡ 2 * k → W ws ≡ W vs + d → L ws ≡ L vs + d → (a b : Bool) → B vs ≡ a → B ws ≡ b → (side a ≡ side b → ⊥) → side b ≡ above c j
        by_left e p q true true u v g = absurd (g refl)
        by_left e p q false false u v g = absurd (g refl)
        by_left e p q false true u v g = sym e
        by_left e p q true false u v g =
            let y : t * W vs / 2 ^ 32 < L vs = ltb-true _ _ u in
            let z : L ws ≤ t * W ws / 2 ^ 32 = ltb-false _ _ v in
            let o : t * (W vs + d) / 2 ^ 32 < L vs + d = left-stays t (W vs) (L vs) d (hash4-lt _ _ _ _ _) y in
            absurd (omega (arith, o, z, q, ap (λ (w : ℕ). t * w / 2 ^ 32) p))

        by_right : above c j ≡ 2 * k + 1 → W ws ≡ W vs + d → L ws ≡ L vs → (a b : Bool) → B vs ≡ a → B ws ≡ b → (side a ≡ side b → ⊥) → side b ≡ above c j
        by_right e p q true true u v g = absurd (g refl)
        by_right e p q false false u v g = absurd (g refl)
        by_right e p q true false u v g = sym e
        by_right e p q false true u v g =
            let y : L vs ≤ t * W vs / 2 ^ 32 = ltb-false _ _ u in
            let z : t * W ws / 2 ^ 32 < L ws = ltb-true _ _ v in
            let o : L vs ≤ t * (W vs + d) / 2 ^ 32 = right-stays t (W vs) (L vs) d y in
            absurd (omega (arith, o, z, q, ap (λ (w : ℕ). t * w / 2 ^ 32) p))

        go : Dec (above c j / 2 ≡ k) → (above c j / 2 ≡ k) × (below₂ j k ≡ above c j)
        go (no g) =
            let p = same-node (suc j) k g in
            let q = same-node j (2 * k) (λ e. g (omega arith)) in
            absurd (f (rw (p, q)))
        go (yes g) = (
          g,
          ⊎_elim
              (λ e. by_left e (more-node (suc j) k g) (more-node j (2 * k) e) (B vs) (B ws) refl refl f)
              (λ e. by_right e (more-node (suc j) k g) (sym (same-node j (2 * k) (λ z. omega arith))) (B vs) (B ws) refl refl f)
              (half (above c j) k g),
        )

    -- two walks from one node come to one leaf, or fork
    pub paths : (j k : ℕ) → (leaf_from seed x r item vs j k ≡ leaf_from seed x r item ws j k) ⊎ Fork j k
    unfolding leaf_from
    paths zero k = inl refl
    paths (suc j) k = go (ℕ_discrete (below₁ j k) (below₂ j k)) (paths j (below₂ j k))
      where
        go : Dec (below₁ j k ≡ below₂ j k) → (leaf_from seed x r item vs j (below₂ j k) ≡ leaf_from seed x r item ws j (below₂ j k)) ⊎ Fork j (below₂ j k)
            → (leaf_from seed x r item vs j (below₁ j k) ≡ leaf_from seed x r item ws j (below₂ j k)) ⊎ Fork (suc j) k
        go (yes e) rest =
            ⊎_elim (λ q. inl (ap (leaf_from seed x r item vs j) e ∙ q))
            (λ q. inr (record { i = q.i; l = q.l; common = down e q.common; parts = q.parts; holds = q.holds; turns = q.turns }))
            rest
        go (no f) rest = let z = turn-law j k f in inr (record { i = j; l = k; common = here; parts = f; holds = z.0; turns = z.1 })
