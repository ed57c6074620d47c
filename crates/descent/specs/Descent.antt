-- What holds of a draw in a sound plan: the winner is an item in range, of a type below its bucket's. So a descent ends, and stays in
-- the map. Assumes nothing.
use Rattle.std.specs.Prelude.{◌≡◌, length, get_or, take, Option, None, Some}
use Rattle.std.proofs.Math.Path.{sym}
use Rattle.std.proofs.Common.{ap, ◌∙◌, subst, inl, inr, arith, lt_of_not-le, get_or-take}
use mathlib.Core.List.{List}
use Prim.Native.Nat.{ℕ, ◌+◌, ◌<◌, ◌≤◌}
use borrow.Author.Tests.{lt-leb, le-leb, eq-eqb, ne_eqb}
use Rattle.std.proofs.Math.ListN.{drop, length-take}
use Rattle.std.proofs.Math.Seq.{get_or-drop}
use Rattle.definitions.specs.declared.Kind.{Kind}
use Rattle.definitions.specs.declared.Kind.TheVariants.{Straw, Tree}
use Rattle.definitions.specs.declared.Landed.{Landed}
use Rattle.definitions.specs.Straw.{draw_of}
use Rattle.definitions.specs.Tree.{tree_of}
use Rattle.definitions.specs.Map.{bucket_number, bucket_item}
use Rattle.definitions.specs.View.{View}
use Rattle.definitions.specs.Walk.{Descent, draw_by, draw_at, landing, deeper, descend}
use Rattle.hierarchy.specs.Sections.{section-at, section-front, section-beyond, section-part}
use Rattle.hierarchy.specs.Sums.{weights_from, weights_by, firsts_of-length}
use Rattle.hierarchy.specs.Arrays.{count_at, kinds_at, children_at, seed_at, seed_in, first_in, count_in, bucket_type_in, kind_in, part_of, children_in, child_in, type_in, view_in, ItemRange, Sound}
use Rattle.laws.specs.Draw.{winner-child}
use Rattle.laws.specs.Tree.{tree-child}
use Rattle.laws.specs.Fuel.{Sinks}
use Rattle.laws.specs.Walk.{descend-none, descend-stop, descend-down}

-- a descent ends at a bucket below 256, and what it draws there, if anything, is an item in range
abbrev pub LandedBounds : Landed → Type 0
LandedBounds l = (l.bucket < 256) × ((i : ℕ) → l.drawn ≡ Some i → ItemRange i)

-- the type of a bucket's item is the bucket's, and that of a device is 0
pub type-bucket : (plan : List ℕ) (i : ℕ) → 65536 ≤ i → type_in plan i ≡ bucket_type_in plan (bucket_number i)
type-bucket plan i h = rw (le-leb 65536 i h)

pub type-device : (plan : List ℕ) (i : ℕ) → i < 65536 → type_in plan i ≡ 0
type-device plan i h = rw (lt-leb 65536 i h)

-- the bucket of an item in range is below 256
pub bucket-below : (i : ℕ) → ItemRange i → 65536 ≤ i → bucket_number i < 256
bucket-below i (inl h) l = absurd (omega arith)
bucket-below i (inr h) l = omega (arith, h.1)

-- the winner stands among the children, whatever their weights
drawn-at : (k : Kind) (seed x r item : ℕ) (items words : List ℕ) (i : ℕ) → draw_by k seed x r item items (weights_by k (length items) words) ≡ Some i
    → (j : ℕ) × (j < length items) × (get_or items j 0 ≡ i)
unfolding draw_by weights_by weights_from
drawn-at Straw seed x r item items words i e = let (j, l, at, above) = winner-child seed x r items words i e in (j, l, at)
drawn-at Tree seed x r item items words i e =
    let (j, l, at, above) = tree-child seed x r item (weights_from words (length items)) items (firsts_of-length (length items) _) i e in
    (j, l, at)

-- an item of a type above another is a bucket's
pub typed-bucket : (plan : List ℕ) (i t : ℕ) → t < type_in plan i → 65536 ≤ i
typed-bucket plan i t l = lt_of_not-le (λ (h : i ≤ 65535). omega (arith, type-device plan i (omega arith)))

-- other values that weigh the children of bucket b alike draw the same there
pub draw-alike : (plan old new : List ℕ) (x r b : ℕ) → part_of plan b old ≡ part_of plan b new → draw_at (view_in plan old) x r b ≡ draw_at (view_in plan new) x r b
unfolding draw_at
draw-alike plan old new x r b e = rw e

module _ {plan : List ℕ} (sound : Sound plan) (values : List ℕ) where
  abbrev v : View
  v = view_in plan values

  -- the winner is a child of the bucket, at some place
  child-at : (x r b i : ℕ) → draw_at v x r b ≡ Some i → (j : ℕ) × (j < count_in plan b) × (child_in plan b j ≡ i)
  unfolding draw_at
  child-at x r b i e =
      let (j, l, at) = drawn-at (kind_in plan b) v.seed x r (bucket_item b) (v.children b) (part_of plan b values) i e in
      let n : ℕ = count_in plan b in
      let rest : List ℕ = drop (first_in plan b) (children_in plan) in
      let lt : j < n = omega (arith, l, length-take n rest) in
      (j, lt, sym (get_or-take n rest j 0 lt ∙ get_or-drop (first_in plan b) (children_in plan) j 0) ∙ at)

  -- where the part of bucket b begins, and how many words it has, as the code reads them
  begins : (b : ℕ) → b < 256 → get_or plan b 0 ≡ first_in plan b
  begins b h = sym (section-front 256 b plan h)

  many : (b : ℕ) → b < 256 → get_or plan (count_at + b) 0 ≡ count_in plan b
  many b h = sym (section-at count_at 256 b plan h)

  -- the part is inside both lists, and small
  pub part-inside : (b : ℕ) → b < 256 → children_at + get_or plan b 0 + get_or plan (count_at + b) 0 ≤ seed_at
  part-inside b h = omega (arith, begins b h, many b h, sound.inside b h)

  pub part-narrow : (b : ℕ) → b < 256 → get_or plan (count_at + b) 0 ≤ 64
  part-narrow b h = rw (many b h) (sound.narrow b h)

  pub part-is : (b : ℕ) → b < 256 → (xs : List ℕ) → part_of plan b xs ≡ take (get_or plan (count_at + b) 0) (drop (children_at + get_or plan b 0) xs)
  part-is b h xs = rw (begins b h, many b h) (section-part children_at 1280 (first_in plan b) (count_in plan b) xs (sound.inside b h))

  -- the draw at bucket b, by its part of the plan and of the values
  module _ (x r b : ℕ) (h : b < 256) (d : Option ℕ) where
    abbrev part : List ℕ → List ℕ
    part xs = take (get_or plan (count_at + b) 0) (drop (children_at + get_or plan b 0) xs)

    pub straw-is : (get_or plan (kinds_at + b) 0 ≡ 2 → ⊥) → d ≡ draw_of (seed_in plan) x r (part plan) (part values) → d ≡ draw_at v x r b
    unfolding draw_at draw_by weights_by
    straw-is f e = rw (section-at kinds_at 256 b plan h, ne_eqb (get_or plan (kinds_at + b) 0) 2 f, part-is b h plan, part-is b h values) e

    pub tree_is : get_or plan (kinds_at + b) 0 ≡ 2
        → d ≡ tree_of (seed_in plan) x r (bucket_item b) (weights_from (part values) (length (part plan))) (part plan) → d ≡ draw_at v x r b
    unfolding draw_at draw_by weights_by
    tree_is f e = rw (section-at kinds_at 256 b plan h, eq-eqb (get_or plan (kinds_at + b) 0) 2 f, part-is b h plan, part-is b h values) e

  -- no bucket that is not in the plan has a child
  pub within-plan : (x r b i : ℕ) → draw_at v x r b ≡ Some i → b < 256
  within-plan x r b i e =
      let (j, l, at) = child-at x r b i e in
      lt_of_not-le (λ (h : 256 ≤ b). omega (arith, l, section-beyond count_at 256 b plan h))

  -- it is in range
  pub winner-range : (x r b i : ℕ) → draw_at v x r b ≡ Some i → ItemRange i
  winner-range x r b i e = let (j, l, at) = child-at x r b i e in subst ItemRange at (sound.ranged b j (within-plan x r b i e) l)

  -- its type is below the bucket's
  pub winner-falls : (x r b i : ℕ) → draw_at v x r b ≡ Some i → type_in plan i < bucket_type_in plan b
  winner-falls x r b i e =
      let (j, l, at) = child-at x r b i e in
      subst (λ (k : ℕ). type_in plan k < bucket_type_in plan b) at (sound.falls b j (within-plan x r b i e) l)

  -- so a descent ends by itself: what its fuel is changes nothing (`descend-enough`, crate laws)
  pub sound-sinks : Sinks v
  sound-sinks =
      record {
        drawn = λ x r b i e.
            let z : bucket_number (bucket_item b) ≡ b = omega arith in
            rw (type-bucket plan (bucket_item b) (omega arith), z) (winner-falls x r b i e);
        device = type-device plan;
      }

  -- what the draw at bucket b leads to
  module _ (x t r b : ℕ) where
    pub lands-none : draw_at v x r b ≡ None → record { bucket = b; drawn = None } ≡ (descend v x t r b).landed
    unfolding landing
    lands-none e = sym (ap (λ (d : Descent). d.landed) (descend-none v x t r b sound-sinks e))

    module _ (i : ℕ) (e : draw_at v x r b ≡ Some i) where
      pub lands-stop : type_in plan i ≤ t → record { bucket = b; drawn = Some i } ≡ (descend v x t r b).landed
      unfolding landing
      lands-stop h = sym (ap (λ (d : Descent). d.landed) (descend-stop v x t r b sound-sinks i e h))

      pub lands-down : t < type_in plan i → (l : Landed) → l ≡ (descend v x t r (bucket_number i)).landed → l ≡ (descend v x t r b).landed
      unfolding deeper
      lands-down h l go = go ∙ sym (ap (λ (d : Descent). d.landed) (descend-down v x t r b sound-sinks i e h))
