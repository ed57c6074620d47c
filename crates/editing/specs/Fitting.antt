-- Question 18: an edit that fits, and where its device stands. Assumes nothing.
use Rattle.std.specs.Prelude.{◌≡◌, refl, Bool, true, false, ◌&&◌, Option, Some, None, List, ℕ, ◌<◌, ◌≤◌, length, get_or}
use Rattle.std.proofs.Common.{sym, ap, ◌∙◌, arith, length-set}
use Rattle.std.proofs.Math.Path.{subst}
use borrow.Author.Tests.{le-leb, lt-leb}
use Rattle.definitions.specs.declared.Device.{Device}
use Rattle.definitions.specs.declared.Change.{Change}
use Rattle.definitions.specs.declared.Change.TheVariants.{Acceptance, Weight}
use Rattle.definitions.specs.Map.{Map, map_of}
use Rattle.definitions.specs.Load.{bucket_ranged, ranged, rising, has_device}
use Rattle.definitions.specs.Edit.{put}
use Rattle.definitions.specs.Writing.{map_text}
use Rattle.definitions.specs.Calls.{fits}
use Rattle.laws.specs.Lists.{every-at}
use Rattle.laws.specs.Counting.{at-number}
use Rattle.laws.specs.Loadable.{ranged-is, bucket-ranged}
use Rattle.text.specs.Records.{no_device, no_bucket, counts_of}
use Rattle.text.specs.Edit as texts
use Rattle.text.specs.Edit.{with_device, accepting, weighing, bearing_all, Edited}
use Rattle.edit_frame.specs.Found.{FoundIs}
use Rattle.edit_frame.specs.Sums.{Numbered}
use Rattle.hierarchy.specs.Tables.{Tabled}
use Rattle.compile.specs.Weighing.{bucket_weight}

-- the device at k is the edit's
unfoldable pub PlaceOf : Map → Option Change → ℕ → Type 0
PlaceOf m (Some (Acceptance d v)) k = (k < length m.devices) × ((get_or m.devices k no_device).number ≡ d)
PlaceOf m (Some (Weight d v)) k = (k < length m.devices) × ((get_or m.devices k no_device).number ≡ d)
PlaceOf m None k = ⊥

-- what is found where an edit is asked for
unfoldable pub Fitted : Map → Option Change → Option ℕ → Type 0
Fitted m c (Some k) = (fits m c ≡ true) × PlaceOf m c k
Fitted m c None = fits m c ≡ false

-- the number by which a device is found
abbrev number : Device → ℕ
number e = e.number

and_no : (b : Bool) → b && false ≡ false
and_no true = refl
and_no false = refl

module _ (m : Map) (c : Option Change) (d v : ℕ) where
  pub accepts-found : (f : Option ℕ) → c ≡ Some (Acceptance d v) → v ≤ 65536 → FoundIs m d f → Fitted m c f
  unfolding Fitted PlaceOf FoundIs fits has_device
  accepts-found (Some k) e h p = rw e (rw (at-number number no_device d m.devices k p.0 p.1, le-leb v 65536 h), p)
  accepts-found None e h p = rw (e, p)

  pub weighs-found : (f : Option ℕ) → c ≡ Some (Weight d v) → v ≤ 65535 → FoundIs m d f → Fitted m c f
  unfolding Fitted PlaceOf FoundIs fits has_device
  weighs-found (Some k) e h p = rw e (rw (at-number number no_device d m.devices k p.0 p.1, le-leb v 65535 h), p)
  weighs-found None e h p = rw (e, p)

  pub accepts-none : c ≡ Some (Acceptance d v) → 65536 < v → Fitted m c None
  unfolding Fitted fits
  accepts-none e h = rw (e, lt-leb v 65536 h) (and_no (has_device m d))

  pub weighs-none : c ≡ Some (Weight d v) → 65535 < v → Fitted m c None
  unfolding Fitted fits
  weighs-none e h = rw (e, lt-leb v 65535 h) (and_no (has_device m d))

  module _ (k : ℕ) (p : PlaceOf m c k) where
    pub accepts-at : c ≡ Some (Acceptance d v) → (k < length m.devices) × ((get_or m.devices k no_device).number ≡ d)
    unfolding PlaceOf
    accepts-at e = subst (λ (x : Option Change). PlaceOf m x k) e p

    pub weighs-at : c ≡ Some (Weight d v) → (k < length m.devices) × ((get_or m.devices k no_device).number ≡ d)
    unfolding PlaceOf
    weighs-at e = subst (λ (x : Option Change). PlaceOf m x k) e p

    -- the text with the value written
    pub accepts-put : (u : List ℕ) → c ≡ Some (Acceptance d v) → rising m ≡ true → Edited u (with_device k (accepting (get_or m.devices k no_device) v) m) → u ≡ map_text (put m c)
    accepts-put u e r E =
        E.text ∙ ap map_text (texts.put-acceptance m k d v r (accepts-at e).0 (accepts-at e).1) ∙ ap (λ (x : Option Change). map_text (put m x)) (sym e)

    -- behind a weight the weights of the buckets too
    pub weighs-put : (u t ws : List ℕ) → c ≡ Some (Weight d v) → rising m ≡ true → Edited t (with_device k (weighing (get_or m.devices k no_device) v) m)
        → Tabled ws 256 (bucket_weight (put m c)) → Edited u (bearing_all ws (map_of t)) → u ≡ map_text (put m c)
    weighs-put u t ws e r D W E =
        let w = subst (λ (x : Option Change). Tabled ws 256 (bucket_weight (put m x))) e W in
        E.text ∙ ap (λ (x : Map). map_text (bearing_all ws x)) D.holds
        ∙ ap map_text (texts.put-weight m k d v r (weighs-at e).0 (weighs-at e).1 ws (λ b q. w.at b.number)) ∙ ap (λ (x : Option Change). map_text (put m x)) (sym e)

-- what writing those weights asks of the text with the device's
module _ (m : Map) (k : ℕ) (d : Device) (g : ranged m ≡ true) where
  pub weighs-counts : counts_of (with_device k d m) ≡ counts_of m
  unfolding counts_of with_device
  weighs-counts = rw (length-set m.devices k d)

  pub weighs-numbered : (n : ℕ) (x : Map) → n ≡ 256 → x ≡ with_device k d m → Numbered n x
  unfolding with_device
  weighs-numbered n x p q =
      rw (p, q) (record { below = λ j l. omega (arith, (bucket-ranged _ (every-at bucket_ranged m.buckets j no_bucket (ranged-is m g).buckets l)).number) })

pub no-change-none : (m : Map) (c : Option Change) → c ≡ None → Fitted m c None
unfolding Fitted fits
no-change-none m c e = rw e

pub no-change-nowhere : (m : Map) (c : Option Change) (k : ℕ) → c ≡ None → PlaceOf m c k → ⊥
unfolding PlaceOf
no-change-nowhere m c k e p = subst (λ (x : Option Change). PlaceOf m x k) e p

-- what a search says where it found the device, and where it did not
pub fitted-at : (m : Map) (c : Option Change) (f : Option ℕ) (k : ℕ) → f ≡ Some k → Fitted m c f → (fits m c ≡ true) × PlaceOf m c k
unfolding Fitted
fitted-at m c f k e p = subst (Fitted m c) e p

pub fitted_none : (m : Map) (c : Option Change) (f : Option ℕ) → f ≡ None → Fitted m c f → fits m c ≡ false
unfolding Fitted
fitted_none m c f e p = subst (Fitted m c) e p
