-- The draw of a tree bucket in two runs between which one child alone weighs more. Assumes nothing.
use Rattle.std.proofs.Math.Path.{◌≡◌, refl, ap}
use Rattle.std.specs.Prelude.{Bool, List, ◌⊎◌, Option, None, Some}
use Rattle.std.proofs.Math.Bool.{true, false}
use Rattle.std.proofs.Math.Logic.{inl, inr, ⊎_elim}
use Prim.Native.Nat.{ℕ, ◌+◌, ◌<◌}
use Rattle.std.proofs.Math.Decide.{ℕ_discrete}
use native.Mathlib.Omega.{arith}
use borrow.Author.Tests.{eqb-true, eqb-false}
use Rattle.std.proofs.Math.Dec.{eqb}
use Rattle.std.proofs.Math.ListN.{length, get_or}
use Rattle.definitions.specs.Tree.{height_of, node_weight, leaf_from, tree_by, tree_of}
use Rattle.laws.specs.Tree.{above_root, leaf-le, leaf-above, leaf-inside, Fork, more-node, paths}

module _ (seed x r item : ℕ) (vs ws : List ℕ) (c : ℕ) where
  module _ (d : ℕ) (only : (i : ℕ) → (i ≡ c → ⊥) → get_or vs i 0 ≡ get_or ws i 0) (more : get_or ws c 0 ≡ get_or vs c 0 + d) where
    -- the draws are the same; or only the second finds a child, which is c; or both find one, and their paths fork
    pub tree-law : (items : List ℕ) → length vs ≡ length items → length ws ≡ length items → c < length items
        → (tree_of seed x r item vs items ≡ tree_of seed x r item ws items)
        ⊎ (((tree_of seed x r item vs items ≡ None) × (tree_of seed x r item ws items ≡ Some (get_or items c 0)))
        ⊎ ((tree_of seed x r item vs items ≡ None → ⊥) × (tree_of seed x r item ws items ≡ None → ⊥) × Fork seed x r item vs ws c (height_of (length items)) 0))
    unfolding tree_of tree_by
    tree-law items p q h = go (eqb (whole vs) 0) refl (eqb (whole ws) 0) refl
      where
        H : ℕ
        H = height_of (length items)

        whole : List ℕ → ℕ
        whole us = node_weight us H 0

        heavier : whole ws ≡ whole vs + d
        heavier = more-node seed x r item vs ws c d only more H 0 (above_root c (length items) h)

        leaf : List ℕ → ℕ
        leaf us = leaf_from seed x r item us H 0

        -- where the first finds none, the second comes to c
        at_c : whole vs ≡ 0 → (whole ws ≡ 0 → ⊥) → leaf ws ≡ c
        at_c z n = by (ℕ_discrete (leaf ws) c)
          where
            up : 0 < get_or ws (leaf ws) 0
            up = leaf-above seed x r item ws H 0 (omega arith)

            within : leaf ws < length items
            within = omega (arith, leaf-inside ws (leaf ws) up)

            by : Dec (leaf ws ≡ c) → leaf ws ≡ c
            by (yes e) = e
            by (no f) =
                absurd (omega (arith, up, only (leaf ws) f, leaf-le vs (leaf ws) H, ap (node_weight vs H) (above_root (leaf ws) (length items) within), z))

        D : List ℕ → Bool → Option ℕ
        D us b = tree_by seed x r item us items b

        some : (us : List ℕ) → D us false ≡ None → ⊥
        some us e = let z : ◌≡◌ {A = ℕ} 0 1 = cc in omega arith

        go : (a : Bool) → eqb (whole vs) 0 ≡ a → (b : Bool) → eqb (whole ws) 0 ≡ b
            → (D vs a ≡ D ws b) ⊎ (((D vs a ≡ None) × (D ws b ≡ Some (get_or items c 0))) ⊎ ((D vs a ≡ None → ⊥) × (D ws b ≡ None → ⊥) × Fork seed x r item vs ws c H 0))
        go true e true f = inl refl
        go false e true f = absurd (eqb-false (whole vs) 0 e (omega (arith, heavier, eqb-true (whole ws) 0 f)))
        go true e false f = inr (inl (refl, ap (λ (n : ℕ). Some (get_or items n 0)) (at_c (eqb-true (whole vs) 0 e) (eqb-false (whole ws) 0 f))))
        go false e false f =
            ⊎_elim (λ k. inl (ap (λ (n : ℕ). Some (get_or items n 0)) k)) (λ k. inr (inr (some vs, some ws, k))) (paths seed x r item vs ws c d only more H 0)
