-- Document 02, change 8: "afterwards want the old map again". A good return to a name gives back, byte for byte, the map and the table of the moment
-- of the last good store under it. Assumes nothing.
use Rattle.std.specs.Prelude.{◌≡◌, Bool, true, false, ℕ, zero, suc, eqb, Option, None, Some}
use Rattle.std.proofs.Math.Path.{refl, ap}
use Rattle.std.proofs.Common.{sym, ◌∙◌, eqb-true}
use mathlib.Core.List.{List, [], ◌∷◌, ◌++◌, map}
use Rattle.definitions.specs.declared.Change.{Change}
use Rattle.definitions.specs.declared.Change.TheVariants.{Acceptance, Weight}
use Rattle.definitions.specs.declared.Bucket.{Bucket}
use Rattle.definitions.specs.declared.Device.{Device}
use Rattle.definitions.specs.Lists.{every, some_of, over}
use Rattle.definitions.specs.Map.{Map, map_of, bucket_item}
use Rattle.definitions.specs.View.{children_of, bucket_type, device_weight, weight_of}
use Rattle.definitions.specs.Table.{table_of}
use Rattle.definitions.specs.Edit.{change_of, with_devices, with_sum, with_sums, put}
use Rattle.definitions.specs.Writing.{map_text}
use Rattle.definitions.specs.Load.{summed}
use Rattle.definitions.specs.States.{NamedState, devices_named, put_state}
use Rattle.definitions.specs.Calls.{EditAnswer, StoreAnswer, return_of}
use Rattle.laws.specs.Lists.{every-head, every-tail}
use Rattle.laws.specs.Counting.{lookup-keeps}
use Rattle.laws.specs.Loadable.{Loadable, same-weights}
use Rattle.text.specs.Agreement.{loaded-map}
use Rattle.history.specs.Calls.{Site, map_at, states_at, Call, editing, storing, returning, left, Run, none, then, where_good, map_after, states_after, put_all, stores, Stands, Kept}
use Rattle.history.proofs.Calls.{kept, stands-all}

-- ---- what no edit and no return alters

abbrev bare : Bucket → Bucket
bare b = record { number = b.number; ty = b.ty; kind = b.kind; weight = 0 }

-- a map without its drives and without the weights of its buckets
abbrev bare_of : Map → Map
bare_of m = record { groups = m.groups; devices = []; buckets = map bare m.buckets; links = m.links; steps = m.steps }

bare-sums : (n : Map) (bs : List Bucket) → map bare (map (with_sum n) bs) ≡ map bare bs
bare-sums n [] = refl
bare-sums n (b ∷ bs) = rw (bare-sums n bs)

bare-with : (m n : Map) → record { groups = m.groups; devices = []; buckets = map bare (map (with_sum n) m.buckets); links = m.links; steps = m.steps } ≡ bare_of m
bare-with m n = rw (bare-sums n m.buckets) refl

bare-put : (m : Map) (c : Option Change) → bare_of (put m c) ≡ bare_of m
unfolding put with_sums
bare-put m (Some (Acceptance d a)) = refl
bare-put m (Some (Weight d w)) = bare-with m _
bare-put m None = refl

bare-state : (m : Map) (ds : List Device) → bare_of (put_state m ds) ≡ bare_of m
unfolding put_state with_sums
bare-state m ds = bare-with m (with_devices m ds)

bare-good : (k : ℕ) (a b : Map) → bare_of a ≡ bare_of b → bare_of (where_good k a b) ≡ bare_of b
unfolding where_good
bare-good zero a b e = e
bare-good (suc k) a b e = refl

bare-after : (m : Map) (ss : List NamedState) (c : Call) → bare_of (map_after m ss c) ≡ bare_of m
unfolding map_after
bare-after m ss (editing edit space o) = bare-good o.number _ m (bare-put m (change_of edit))
bare-after m ss (storing name o) = refl
bare-after m ss (returning name space o) = bare-good o.number _ m (bare-state m (devices_named name ss))

bare-all : (m : Map) (ss : List NamedState) (cs : List Call) → bare_of (put_all m ss cs) ≡ bare_of m
unfolding put_all
bare-all m ss [] = refl
bare-all m ss (c ∷ cs) = bare-all (map_after m ss c) (states_after m ss c) cs ∙ bare-after m ss c

-- ---- a map is made of that and of its drives

module _ (m : Map) (ds : List Device) where
  abbrev k : Map
  k = with_devices m ds

  abbrev n : Map
  n = with_devices (bare_of m) ds

  same : (i : ℕ) → weight_of n i ≡ weight_of k i
  unfolding children_of bucket_type device_weight
  same = same-weights k n (λ b. refl)
      (λ b. lookup-keeps (λ (q : Bucket). q.number) (λ (q : Bucket). q.ty) bare (λ q. refl) (λ q. refl) b m.buckets) (λ d. refl)

  same-buckets : (bs : List Bucket) → map (with_sum n) (map bare bs) ≡ map (with_sum k) bs
  same-buckets [] = refl
  same-buckets (b ∷ bs) = rw (same (bucket_item b.number), same-buckets bs)

  sums-bare : with_sums n ≡ with_sums k
  unfolding with_sums
  sums-bare = ap (λ (bs : List Bucket). record { groups = m.groups; devices = ds; buckets = bs; links = m.links; steps = m.steps }) (same-buckets m.buckets)

sums-are : (m : Map) → summed m ≡ true → with_sums m ≡ m
unfolding summed with_sums
sums-are m e = ap (λ (bs : List Bucket). record { groups = m.groups; devices = m.devices; buckets = bs; links = m.links; steps = m.steps }) (go m.buckets e)
  where
    go : (bs : List Bucket) → every (λ (b : Bucket). eqb b.weight (weight_of m (bucket_item b.number))) bs ≡ true → map (with_sum m) bs ≡ bs
    go [] h = refl
    go (b ∷ bs) h =
        let p : Bucket → Bool = λ (q : Bucket). eqb q.weight (weight_of m (bucket_item q.number)) in
        let w : b.weight ≡ weight_of m (bucket_item b.number) = eqb-true _ _ (every-head p b bs h) in
        ap (λ (x : ℕ). record { number = b.number; ty = b.ty; kind = b.kind; weight = x } ∷ map (with_sum m) bs) (sym w)
        ∙ ap (λ (l : List Bucket). b ∷ l) (go bs (every-tail p b bs h))

-- a map with the drives of another that differs from it in no more than values is that other
same_map : (m n : Map) → Loadable n → bare_of m ≡ bare_of n → put_state m n.devices ≡ n
unfolding put_state
same_map m n L e =
    sym (sums-bare m n.devices) ∙ ap (λ (q : Map). with_sums (with_devices q n.devices)) e ∙ sums-bare n n.devices ∙ sums-are n L.summed

-- ---- the front of a list of calls is one

pub parted : {s s' : Site} (earlier later : List Call) → Run s (earlier ++ later) s' → (t : Site) × Run s earlier t × Run t later s'
parted {s} [] later r = (s, none, r)
parted (c ∷ cs) later (then d e r) = let (t, p, q) = parted cs later r in (t, then d e p, q)

-- ---- BACK TO THE MAP OF A CAMPAIGN

module _ (rest : List ℕ) {s t s' : Site} (S : Stands rest s) (earlier later : List Call) (name : ℕ) (o : StoreAnswer) (before : Run s earlier t)
    (r : Run s (earlier ++ (storing name o ∷ later)) s') (z : o.number ≡ 0) (last : some_of (stores name) later ≡ false) (space : List ℕ) (a : EditAnswer)
    (e : a ≡ return_of s'.frames s'.table s'.states name space) (good : a.number ≡ 0) where
  K : Kept rest s (earlier ++ (storing name o ∷ later)) s'
  K = kept rest S r

  T : Kept rest s earlier t
  T = kept rest S before

  A : Kept rest s' (returning name space a ∷ []) (left s' (returning name space a))
  A = kept rest (stands-all rest S r) (then (returning name space a) e none)

  bares : bare_of (map_at s') ≡ bare_of (map_at t)
  bares = ap bare_of K.map_is ∙ bare-all (map_at s) (states_at s) _ ∙ sym (ap bare_of T.map_is ∙ bare-all (map_at s) (states_at s) earlier)

  put_back : put_all (map_at s') (states_at s') (returning name space a ∷ []) ≡ put_state (map_at s') (devices_named name (states_at s'))
  unfolding put_all map_after where_good
  put_back = rw good refl

  pub same-map-again : map_of a.frames ≡ map_at t
  same-map-again =
      A.map_is ∙ put_back
      ∙ ap (put_state (map_at s')) (K.remembered.stood earlier later name o t refl before z last).1
      ∙ same_map (map_at s') (map_at t) (loaded-map t.frames T.loads) bares

  pub same-frames-again : a.frames ≡ t.frames
  same-frames-again = A.written ∙ ap map_text same-map-again ∙ sym T.written

  pub same-table-again : a.table ≡ t.table
  same-table-again = A.filled ∙ ap (λ (m : Map). over (table_of m) rest) same-map-again ∙ sym T.filled
