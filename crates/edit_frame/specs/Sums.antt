-- The weights of the buckets written one by one: a loop over them, and what it leaves. Assumes nothing.
use Rattle.std.specs.Prelude.{◌≡◌, length, get_or}
use Rattle.std.proofs.Math.Path.{refl, ap}
use Rattle.std.proofs.Common.{sym, ◌∙◌, arith, add-one}
use mathlib.Core.List.{List, [], ◌∷◌, map}
use Prim.Native.Nat.{ℕ, zero, suc, ◌+◌, ◌<◌, ◌≤◌}
use Rattle.std.proofs.Math.ListN.{set}
use Rattle.std.proofs.lemmas.List.{set-get_or}
use Rattle.definitions.specs.declared.Bucket.{Bucket}
use Rattle.definitions.specs.Map.{Map}
use Rattle.text.specs.Records.{no_bucket, counts_of}
use Rattle.text.specs.Edit.{with_buckets, with_bucket, bearing, borne_by, bearing_all}

-- each bucket's number is below n
pub record Numbered (n : ℕ) (m : Map) : Type 0 where
  pub below : (k : ℕ) → k < length m.buckets → (get_or m.buckets k no_bucket).number < n

-- a list with f of its first k entries in their places
unfoldable pub map_to : {A : Type 0} → (A → A) → ℕ → List A → List A
map_to f zero xs = xs
map_to f (suc k) [] = []
map_to f (suc k) (x ∷ xs) = f x ∷ map_to f k xs

module _ {A : Type 0} (f : A → A) (d : A) where
  -- the next is as it was
  map-to-at : (k : ℕ) (xs : List A) → get_or (map_to f k xs) k d ≡ get_or xs k d
  unfolding map_to
  map-to-at zero xs = refl
  map-to-at (suc k) [] = refl
  map-to-at (suc k) (x ∷ xs) = map-to-at k xs

  map-to-length : (k : ℕ) (xs : List A) → length (map_to f k xs) ≡ length xs
  unfolding map_to
  map-to-length zero xs = refl
  map-to-length (suc k) [] = refl
  map-to-length (suc k) (x ∷ xs) = ap suc (map-to-length k xs)

  -- one more
  map-to-more : (k : ℕ) (xs : List A) → k < length xs → set (map_to f k xs) k (f (get_or xs k d)) ≡ map_to f (suc k) xs
  unfolding map_to
  map-to-more k [] h = absurd (omega arith)
  map-to-more zero (x ∷ xs) h = refl
  map-to-more (suc k) (x ∷ xs) h = ap (λ (l : List A). f x ∷ l) (map-to-more k xs (omega arith))

  -- all
  map-to-all : (k : ℕ) (xs : List A) → length xs ≤ k → map_to f k xs ≡ map f xs
  unfolding map_to
  map-to-all zero [] h = refl
  map-to-all (suc k) [] h = refl
  map-to-all zero (x ∷ xs) h = absurd (omega arith)
  map-to-all (suc k) (x ∷ xs) h = ap (λ (l : List A). f x ∷ l) (map-to-all k xs (omega arith))

-- a map with the weights of its first k buckets written
unfoldable pub bearing_to : List ℕ → Map → ℕ → Map
bearing_to ws m k = with_buckets m (map_to (borne_by ws) k m.buckets)

-- a bucket that has that weight already
pub borne-already : (m : Map) (k : ℕ) (ws : List ℕ) → (get_or m.buckets k no_bucket).weight ≡ get_or ws (get_or m.buckets k no_bucket).number 0 → m ≡ with_bucket k (borne_by ws (get_or m.buckets k no_bucket)) m
unfolding with_bucket
borne-already m k ws e =
    let b = get_or m.buckets k no_bucket in
    ap (with_buckets m) (sym (ap (set m.buckets k) (ap (bearing b) (sym e)) ∙ set-get_or m.buckets k no_bucket))

module _ (ws : List ℕ) (m : Map) where
  pub to_none : m ≡ bearing_to ws m 0
  unfolding bearing_to map_to
  to_none = refl

  pub to-length : (k : ℕ) → length (bearing_to ws m k).buckets ≡ length m.buckets
  unfolding bearing_to
  to-length k = map-to-length (borne_by ws) no_bucket k m.buckets

  -- the next bucket is as it was
  pub to-next : (k : ℕ) → get_or (bearing_to ws m k).buckets k no_bucket ≡ get_or m.buckets k no_bucket
  unfolding bearing_to
  to-next k = map-to-at (borne_by ws) no_bucket k m.buckets

  -- one more
  pub to-more : (k : ℕ) → k < length m.buckets
      → with_bucket k (borne_by ws (get_or (bearing_to ws m k).buckets k no_bucket)) (bearing_to ws m k) ≡ bearing_to ws m (k + 1)
  unfolding with_bucket bearing_to
  to-more k h =
      rw (add-one k)
      (ap (with_buckets m)
      (ap (λ (b : Bucket). set (map_to (borne_by ws) k m.buckets) k (borne_by ws b)) (to-next k) ∙ map-to-more (borne_by ws) no_bucket k m.buckets h))

  -- all
  pub to-all : (k : ℕ) → length m.buckets ≤ k → bearing_to ws m k ≡ bearing_all ws m
  unfolding bearing_to bearing_all
  to-all k h = ap (with_buckets m) (map-to-all (borne_by ws) no_bucket k m.buckets h)

  -- a text of such a map has the shape that the text of m has
  pub to-counts : (k : ℕ) → counts_of (bearing_to ws m k) ≡ counts_of m
  unfolding counts_of bearing_to
  to-counts k = rw (map-to-length (borne_by ws) no_bucket k m.buckets)
