-- Document 02, change 1: the live weight of a bucket, what its devices above acceptance 0 weigh together. It is the bucket's weight in a map
-- whose devices of acceptance 0 weigh nothing. Where it is 0, no inner walk beneath the bucket finds a device. Assumes nothing.
use Rattle.std.specs.Prelude.{◌≡◌, Bool, ◌&&◌, length, Some}
use Rattle.std.proofs.Math.Path.{refl, sym}
use Rattle.std.proofs.Common.{ap, ◌∙◌, subst, arith}
use Rattle.std.proofs.Math.Bool.{true, false, cond}
use mathlib.Core.List.{List, map, Memᴰ}
use Prim.Native.Nat.{ℕ, zero, suc, ◌%◌, ◌<◌, ◌≤◌}
use Rattle.std.proofs.Math.Decide.{dec_lt, ℕ_discrete}
use Rattle.std.proofs.Math.Dec.{eqb}
use Rattle.std.proofs.Math.ListN.{get_or, get_or-eq_default}
use borrow.Author.Tests.{le-ltb, lt-leb, eq-eqb, ne_eqb, eqb-true}
use Rattle.definitions.specs.declared.Device.{Device}
use Rattle.definitions.specs.declared.Change.TheVariants.{Weight}
use Rattle.definitions.specs.Lists.{sum}
use Rattle.definitions.specs.Hash.{S, hash2}
use Rattle.definitions.specs.Map.{Map, bucket_item, bucket_number}
use Rattle.definitions.specs.View.{View, children_of, acceptance_of, device_weight, weight_of, weights_of, view_of}
use Rattle.definitions.specs.Load.{has_device}
use Rattle.definitions.specs.Edit.{put}
use Rattle.definitions.specs.Calls.{fits}
use Rattle.definitions.specs.Walk.{draw_at, accepts, device_accepts, accepted, inner_walk}
use Rattle.laws.specs.Counting.{lookup-none}
use Rattle.laws.specs.Kinds.{drawn-child}
use Rattle.laws.specs.Loadable.{Loadable, put-loadable, put-has-device, put-children, put-weight}
use Rattle.laws.specs.Fuel.{is-bucket}
use Rattle.laws.specs.Forest.{weight-device, weight-bucket, sinks}
use Rattle.laws.specs.Found.{device-number, present-device, drawn-present}
use Rattle.hierarchy.specs.Arrays.{lives_in, view_in, given_up, Flagged}
use Rattle.hierarchy.specs.Tables.{Tabled}
use Rattle.weights.specs.Weights.{live_part}
use Rattle.compile.specs.Weighing.{bucket_weight}
use Rattle.compile.specs.Compiled.{Planned, Weighs, put-planned}
use Rattle.compile.specs.Dead.{walk-dead}

-- ---- the map

module _ (m : Map) where
  -- is there a device k, and is its acceptance 0?
  abbrev shut : ℕ → Bool
  shut k = has_device m k && eqb (acceptance_of m k) 0

  -- the devices below k that are so weigh nothing
  unfoldable pub living_to : ℕ → Map
  living_to zero = m
  living_to (suc k) = cond (shut k) (put (living_to k) (Some (Weight k 0))) (living_to k)

  -- all of them
  unfoldable pub living : Map
  living = living_to 1024

  -- a bucket's weight there: what its devices above acceptance 0 weigh together
  unfoldable pub live_weight : ℕ → ℕ
  live_weight b = bucket_weight living b

  -- a list that is 0 at the numbers of buckets alone whose live weight is 0
  abbrev pub Marks : List ℕ → Type 0
  Marks xs = (b : ℕ) → b < 256 → get_or xs b 0 ≡ 0 → live_weight b ≡ 0

  -- what it has in common with the map
  record Alike (n : Map) : Type 0 where
    loadable : Loadable m → Loadable n
    planned : {plan : List ℕ} → Planned m plan → Planned n plan
    present : (d : ℕ) → has_device n d ≡ has_device m d
    children : (b : ℕ) → children_of n b ≡ children_of m b

  alike : (k : ℕ) → Alike (living_to k)
  unfolding living_to fits
  alike zero = record { loadable = λ l. l; planned = λ p. p; present = λ d. refl; children = λ b. refl }
  alike (suc k) = go (has_device m k) refl (eqb (acceptance_of m k) 0) (alike k)
    where
      n : Map
      n = living_to k

      go : (t : Bool) → has_device m k ≡ t → (u : Bool) → Alike n → Alike (cond (t && u) (put n (Some (Weight k 0))) n)
      go false e u a = a
      go true e false a = a
      go true e true a =
          record {
            loadable = λ l. put-loadable n (Some (Weight k 0)) (a.loadable l) (rw (a.present k, e) refl);
            planned = λ p. put-planned n (Some (Weight k 0)) (a.planned p);
            present = λ d. put-has-device n (Some (Weight k 0)) d ∙ a.present d;
            children = λ b. put-children n (Some (Weight k 0)) b ∙ a.children b;
          }

  -- a step leaves the other devices
  leaves : (k d : ℕ) → (d ≡ k → ⊥) → device_weight (living_to (suc k)) d ≡ device_weight (living_to k) d
  unfolding living_to
  leaves k d f = go (has_device m k) refl (eqb (acceptance_of m k) 0)
    where
      n : Map
      n = living_to k

      go : (t : Bool) → has_device m k ≡ t → (u : Bool) → device_weight (cond (t && u) (put n (Some (Weight k 0))) n) d ≡ device_weight n d
      go false e u = refl
      go true e false = refl
      go true e true = put-weight n k 0 ((alike k).present k ∙ e) d ∙ rw (ne_eqb d k f) refl

  -- so those from k on weigh what they did
  above : (k d : ℕ) → k ≤ d → device_weight (living_to k) d ≡ device_weight m d
  unfolding living_to
  above zero d h = refl
  above (suc k) d h = leaves k d (λ e. omega (arith, e)) ∙ above k d (omega arith)

  -- its own device weighs nothing where its acceptance is 0
  here : (k : ℕ) → device_weight (living_to (suc k)) k ≡ live_part (acceptance_of m k) (device_weight m k)
  unfolding living_to has_device device_weight
  here k = go (has_device m k) refl (eqb (acceptance_of m k) 0)
    where
      n : Map
      n = living_to k

      go : (t : Bool) → has_device m k ≡ t → (u : Bool) → device_weight (cond (t && u) (put n (Some (Weight k 0))) n) k ≡ cond u 0 (device_weight m k)
      go false e true = above k k (omega arith) ∙ lookup-none (λ (d : Device). d.number) (λ (d : Device). d.weight) k m.devices e
      go false e false = above k k (omega arith)
      go true e false = above k k (omega arith)
      go true e true = put-weight n k 0 ((alike k).present k ∙ e) k ∙ rw (eq-eqb k k refl) refl

  -- so do those below k
  below : (k d : ℕ) → d < k → device_weight (living_to k) d ≡ live_part (acceptance_of m d) (device_weight m d)
  below zero d h = absurd (omega arith)
  below (suc k) d h = go (ℕ_discrete d k) (below k d)
    where
      go : Dec (d ≡ k) → (d < k → device_weight (living_to k) d ≡ live_part (acceptance_of m d) (device_weight m d))
          → device_weight (living_to (suc k)) d ≡ live_part (acceptance_of m d) (device_weight m d)
      go (yes e) rest = subst (λ (i : ℕ). device_weight (living_to (suc k)) i ≡ live_part (acceptance_of m i) (device_weight m i)) (sym e) (here k)
      go (no e) rest = leaves k d e ∙ rest (omega arith)

  -- the live weights of the devices are their weights there
  pub living-weighs : {plan own acceptance : List ℕ} → Weighs m plan own → Tabled acceptance 1024 (acceptance_of m) → (live : List ℕ) → length live ≡ 1024
      → ((d : ℕ) → d < 1024 → get_or live d 0 ≡ live_part (get_or acceptance d 0) (get_or own d 0)) → Weighs living plan live
  unfolding living
  living-weighs {own} w a live s h =
      record {
        loadable = (alike 1024).loadable w.loadable;
        planned = (alike 1024).planned w.planned;
        owned = record { size = s; at = λ d. go d (dec_lt d 1024) };
      }
    where
      go : (d : ℕ) → Dec (d < 1024) → get_or live d 0 ≡ device_weight (living_to 1024) d
      go d (yes l) = h d l ∙ rw (a.at d, w.owned.at d) (sym (below 1024 d l))
      go d (no l) =
          get_or-eq_default live 0 (omega (arith, s))
          ∙ sym (above 1024 d (omega arith) ∙ sym (w.owned.at d) ∙ get_or-eq_default own 0 (omega (arith, w.owned.size)))

-- ---- a bucket that weighs nothing there

sum-none : (f : ℕ → ℕ) {c : ℕ} {cs : List ℕ} → Memᴰ c cs → sum (map f cs) ≡ 0 → f c ≡ 0
unfolding sum
sum-none f (Memᴰ.head {xs} q) e = ap f q ∙ omega (arith, e)
sum-none f (Memᴰ.tail {x} m) e = sum-none f m (omega (arith, e))

module _ (m : Map) (L : Loadable m) where
  -- its children weigh nothing there
  child-none : (b i : ℕ) → live_weight m b ≡ 0 → Memᴰ i (children_of m b) → weight_of (living m) i ≡ 0
  unfolding live_weight living weights_of
  child-none b i p n =
      let a = alike m 1024 in
      sum-none (weight_of (living m)) n
      (ap (λ (cs : List ℕ). sum (map (weight_of (living m)) cs)) (sym (a.children b)) ∙ sym (weight-bucket (living m) (a.loadable L).falling b) ∙ p)

  module _ (x : ℕ) where
    -- a bucket drawn in it weighs nothing there
    goes : (r b i : ℕ) → live_weight m b ≡ 0 → draw_at (view_of m) x r b ≡ Some i → 0 < (view_of m).type i → live_weight m (bucket_number i) ≡ 0
    unfolding live_weight
    goes r b i p e t = rw (is-bucket (view_of m) (sinks m L) x 0 r i t) (child-none b i p (drawn-child m x r b i e).0)

    -- a device drawn in it has acceptance 0
    fails : (r b i : ℕ) → live_weight m b ≡ 0 → draw_at (view_of m) x r b ≡ Some i → (view_of m).type i ≡ 0 → accepted (view_of m) x i ≡ false
    unfolding view_of living accepted device_accepts accepts
    fails r b i p e t =
        let (n, h) = drawn-child m x r b i e in
        let l : i < 1024 = device-number m L i (present-device m L i (drawn-present m L x i (r, b, e)) t) in
        let s : i < 65536 = omega (arith, l) in
        let z : device_weight (living m) i ≡ 0 = sym (weight-device (living m) i s) ∙ child-none b i p n in
        let a : acceptance_of m i ≡ 0 = go i (omega (arith, h, weight-device m i s)) (eqb (acceptance_of m i) 0) refl (sym (below m 1024 i l) ∙ z) in
        rw (lt-leb 65536 i s, a) (le-ltb (hash2 S x i % 65536) 0 (omega arith))
      where
        go : (i : ℕ) → 0 < device_weight m i → (u : Bool) → eqb (acceptance_of m i) 0 ≡ u → cond u 0 (device_weight m i) ≡ 0 → acceptance_of m i ≡ 0
        go i w true q o = eqb-true (acceptance_of m i) 0 q
        go i w false q o = absurd (omega (arith, o))

  -- so an inner walk beneath it gives up
  pub flagged-is : (plan values : List ℕ) → view_in plan values ≡ view_of m → Marks m (lives_in values) → Flagged plan values
  flagged-is plan values e t =
      record {
        dead = λ b l h x n q held.
            subst (λ (v : View). (inner_walk v x n held q (bucket_item b)).ranked ≡ given_up) (sym e)
            (walk-dead (view_of m) x (λ (b : ℕ). live_weight m b ≡ 0) (goes x) (fails x) b (t b l h) n q held);
      }
