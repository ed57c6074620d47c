-- Change 4: the draw of a bucket of either kind tells of its children. Assumes nothing.
use Rattle.std.specs.Prelude.{◌≡◌, refl, ℕ, ◌<◌, length, get_or, Option, None, Some}
use Rattle.std.proofs.Math.Path.{subst}
use mathlib.Core.List.{List, Memᴰ}
use Rattle.std.proofs.Common.{arith, sym, ◌∙◌}
use Rattle.std.proofs.lemmas.List.{length-map}
use Rattle.definitions.specs.declared.Kind.{Kind}
use Rattle.definitions.specs.declared.Kind.TheVariants.{Straw, Tree}
use Rattle.definitions.specs.Hash.{S}
use Rattle.definitions.specs.Map.{Map, bucket_item}
use Rattle.definitions.specs.View.{children_of, bucket_kind, weight_of, weights_of, view_of}
use Rattle.definitions.specs.Walk.{draw_by, draw_at}
use Rattle.laws.specs.Lists.{get_d-mapped}
use Rattle.laws.specs.Members.{mem-at}
use Rattle.laws.specs.Draw.{winner-child, none-exactly}
use Rattle.laws.specs.Tree.{tree-child, tree-none}

-- "a draw's winner is a child above 0, and .. none means no such child": of a draw among children with these item numbers and weights
abbrev pub Tells : List ℕ → List ℕ → Option ℕ → Type 0
Tells items weights (Some i) = (n : ℕ) × (n < length items) × (get_or items n 0 ≡ i) × (0 < get_or weights n 0)
Tells items weights None = (n : ℕ) → n < length items → get_or weights n 0 ≡ 0

-- either part, of a bucket of either kind, each child having its weight
module _ (seed x r item : ℕ) (items weights : List ℕ) (paired : length weights ≡ length items) where
  won : (kind : Kind) (i : ℕ) → draw_by kind seed x r item items weights ≡ Some i
      → (n : ℕ) × (n < length items) × (get_or items n 0 ≡ i) × (0 < get_or weights n 0)
  unfolding draw_by
  won Straw i e = winner-child seed x r items weights i e
  won Tree i e = tree-child seed x r item weights items paired i e

  no-one : (kind : Kind) → draw_by kind seed x r item items weights ≡ None → (n : ℕ) → n < length items → get_or weights n 0 ≡ 0
  unfolding draw_by
  no-one Straw e = (none-exactly seed x r items weights).0 e
  no-one Tree e = (tree-none seed x r item weights items paired).0 e

-- "For both kinds together, show that": of a bucket of either kind, each child having its weight
pub draw-tells : (kind : Kind) (seed x r item : ℕ) (items weights : List ℕ) → length weights ≡ length items
    → Tells items weights (draw_by kind seed x r item items weights)
draw-tells kind seed x r item items weights paired = go (draw_by kind seed x r item items weights) refl
  where
    go : (d : Option ℕ) → draw_by kind seed x r item items weights ≡ d → Tells items weights d
    go (Some i) e = won seed x r item items weights paired kind i e
    go None e = no-one seed x r item items weights paired kind e

-- of bucket b of a map
module _ (m : Map) (x r b : ℕ) where
  kind : Kind
  kind = bucket_kind m b

  paired : length (weights_of m b) ≡ length (children_of m b)
  unfolding weights_of
  paired = length-map (children_of m b) (weight_of m)

  draw-is : draw_at (view_of m) x r b ≡ draw_by kind S x r (bucket_item b) (children_of m b) (weights_of m b)
  unfolding draw_at view_of weights_of kind
  draw-is = refl

  pub drawn-tells : Tells (children_of m b) (weights_of m b) (draw_at (view_of m) x r b)
  drawn-tells = go (draw_at (view_of m) x r b) refl
    where
      go : (d : Option ℕ) → draw_at (view_of m) x r b ≡ d → Tells (children_of m b) (weights_of m b) d
      go (Some i) e = won S x r (bucket_item b) (children_of m b) (weights_of m b) paired kind i (sym draw-is ∙ e)
      go None e = no-one S x r (bucket_item b) (children_of m b) (weights_of m b) paired kind (sym draw-is ∙ e)

  -- the winner is a child of it, of weight above 0
  pub drawn-child : (i : ℕ) → draw_at (view_of m) x r b ≡ Some i → Memᴰ i (children_of m b) × (0 < weight_of m i)
  unfolding weights_of
  drawn-child i e =
      let (n, h, q, p) = won S x r (bucket_item b) (children_of m b) (weights_of m b) paired kind i (sym draw-is ∙ e) in
      subst (λ (c : ℕ). Memᴰ c (children_of m b) × (0 < weight_of m c)) q
      (mem-at 0 (children_of m b) n h, omega (arith, p, get_d-mapped (weight_of m) (children_of m b) n 0 0 h))

  -- and none means that each child weighs 0
  pub drawn-none : draw_at (view_of m) x r b ≡ None → (n : ℕ) → n < length (children_of m b) → get_or (weights_of m b) n 0 ≡ 0
  drawn-none e = no-one S x r (bucket_item b) (children_of m b) (weights_of m b) paired kind (sym draw-is ∙ e)
