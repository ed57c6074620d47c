-- An edit in the text: the digits of one field of one record replaced. The text is then that of the map with that one device or bucket
-- replaced, and these are what the definitions' `put` gives.
use Rattle.std.specs.Prelude.{◌≡◌, Bool, true, cond, ◌&&◌, ltb, eqb, length, get_or, take, drop, set, Some}
use Rattle.std.proofs.Math.Path.{refl, ap}
use Rattle.std.proofs.Common.{sym, ◌∙◌, subst, arith, lit<, length-set, drop-drop, length-take-le, ltb-true, eq-eqb, ne_eqb}
use mathlib.Core.List.{List, [], ◌∷◌, ◌++◌, map, append_assoc, map-append, Memᴰ}
use Prim.Native.Nat.{ℕ, zero, suc, ◌+◌, ◌*◌, ◌^◌, ◌<◌, ◌≤◌}
use Rattle.std.proofs.Math.ListN.{length-append, length-map}
use Rattle.std.proofs.Math.Seq.{split_at}
use Rattle.std.proofs.lemmas.List.{set_split}
use borrow.Rule.Slice.PartMut.{put_mid}
use Rattle.definitions.specs.declared.Device.{Device}
use Rattle.definitions.specs.declared.Bucket.{Bucket}
use Rattle.definitions.specs.declared.Change.TheVariants.{Acceptance, Weight}
use Rattle.text.specs.declared.Shape.{Shape}
use Rattle.definitions.specs.Lists.{every, linked_from, linked, sum}
use Rattle.definitions.specs.Frames.{hex, bytes_of, Frame, layouts, layout, line_length, line_of, frames_in, text_of}
use Rattle.definitions.specs.Map.{Map, map_of, bucket_item}
use Rattle.definitions.specs.View.{weight_of}
use Rattle.definitions.specs.Edit.{with_weight, with_devices, with_sum, with_sums, put}
use Rattle.definitions.specs.Writing.{frame, device_frame, bucket_frame, link_frame, step_frame, size_of, later_frames, frames_of, map_text}
use Rattle.definitions.specs.Load.{link_below, rising}
use Rattle.laws.specs.Lists.{both, and_both, every-head, every-tail, every_append, linked-head, linked-tail, linked-rest, every-parts}
use Rattle.laws.specs.Members.{map-ext}
use Rattle.laws.specs.Loadable.{sums-leave-weights}
use Rattle.text.specs.Lines.{plain}
use Rattle.text.specs.Shape.{shape_of}
use Rattle.text.specs.Frames.{good_frame, length-line, line_bytes}
use Rattle.text.specs.Places.{splice, with, offset, digits_of, text-append, write-at, length-text, with-good}
use Rattle.text.specs.Map.{uniform}
use Rattle.text.specs.RoundTrip.{Fits, Framed, text-of-map, map-fits, map-of-text, framed}
use Rattle.text.specs.Rows.{device_start, weight_at, acceptance_at, sum_at}
use Rattle.text.specs.Records.{no_device, no_bucket, counts_of, shape-of-map}

-- device k replaced by d
unfoldable pub with_device : ℕ → Device → Map → Map
with_device k d m = with_devices m (set m.devices k d)

-- other buckets
abbrev pub with_buckets : Map → List Bucket → Map
with_buckets m bs = record { groups = m.groups; devices = m.devices; buckets = bs; links = m.links; steps = m.steps }

-- bucket k replaced by b
unfoldable pub with_bucket : ℕ → Bucket → Map → Map
with_bucket k b m = with_buckets m (set m.buckets k b)

-- a device with another acceptance
abbrev pub accepting : Device → ℕ → Device
accepting d v = record { number = d.number; weight = d.weight; acceptance = v }

-- a device with another weight
abbrev pub weighing : Device → ℕ → Device
weighing d v = record { number = d.number; weight = v; acceptance = d.acceptance }

-- a bucket with another weight
abbrev pub bearing : Bucket → ℕ → Bucket
bearing b v = record { number = b.number; ty = b.ty; kind = b.kind; weight = v }

-- two maps whose frames are the same but for one, f or f', whose line starts at p
record Apart (m m' : Map) (f f' : Frame) (p : ℕ) : Type 0 where
  before : List Frame
  after : List Frame
  is : frames_of m ≡ before ++ (f ∷ after)
  is' : frames_of m' ≡ before ++ (f' ∷ after)
  starts : length (text_of before) ≡ p

-- ---- such maps: record k of a section is another

-- the frames q of records xs, all of kind j, with others before and behind them
module _ {A : Type 0} (j : ℕ) (q : A → Frame) (kinds : (x : A) → (q x).kind ≡ j) (xs : List A) (d : A) (k : ℕ) (h : k < length xs) (pre post : List Frame) where
  abbrev front : List Frame
  front = pre ++ map q (take k xs)

  abbrev back : List Frame
  back = map q (drop (suc k) xs) ++ post

  parted : (ys : List A) (x : A) → ys ≡ take k xs ++ (x ∷ drop (suc k) xs) → pre ++ (map q ys ++ post) ≡ front ++ (q x ∷ back)
  parted ys x e =
      ap (λ (l : List Frame). pre ++ (l ++ post)) (ap (map q) e ∙ map-append q (take k xs) (x ∷ drop (suc k) xs))
      ∙ ap (λ (l : List Frame). pre ++ l) (append_assoc (map q (take k xs)) (q x ∷ map q (drop (suc k) xs)) post)
      ∙ sym (append_assoc pre (map q (take k xs)) (q x ∷ back))

  front_length : every good_frame (pre ++ (map q xs ++ post)) ≡ true → length (text_of front) ≡ length (text_of pre) + k * (line_length j + 1)
  front_length g =
      let e = parted xs (get_or xs k d) (split_at xs k d h) in
      let f : every good_frame front ≡ true = (every-parts good_frame front (q (get_or xs k d) ∷ back) (rw e at g)).0 in
      let n : length (map q (take k xs)) ≡ k = length-map (take k xs) q ∙ length-take-le k xs (omega arith) in
      ap length (text-append pre (map q (take k xs))) ∙ length-append (text_of pre) (text_of (map q (take k xs)))
      ∙ ap (λ (c : ℕ). length (text_of pre) + c)
      (length-text j (map q (take k xs)) (every-parts good_frame pre (map q (take k xs)) f).1 (uniform j q (take k xs) kinds) ∙ ap (λ (c : ℕ). c * (line_length j + 1)) n)

  apart : (m m' : Map) (p : ℕ) (x : A) → Fits m ≡ true → frames_of m ≡ pre ++ (map q xs ++ post) → frames_of m' ≡ pre ++ (map q (set xs k x) ++ post)
      → length (text_of pre) ≡ p → Apart m m' (q (get_or xs k d)) (q x) (p + k * (line_length j + 1))
  apart m m' p x g e e' n =
      record {
        before = front;
        after = back;
        is = e ∙ parted xs (get_or xs k d) (split_at xs k d h);
        is' = e' ∙ parted (set xs k x) x (set_split xs k x h);
        starts = front_length (rw e at g) ∙ ap (λ (c : ℕ). c + k * (line_length j + 1)) n;
      }

module _ (m : Map) (k : ℕ) (g : Fits m ≡ true) where
  abbrev first : Frame
  first = frame 0 (m.groups ∷ [])

  first_good : good_frame first ≡ true
  unfolding frames_of
  first_good = every-head good_frame first (map device_frame m.devices ++ later_frames m) g

  first-length : length (text_of (first ∷ [])) ≡ line_bytes 0
  unfolding bytes_of layouts sum
  first-length = length-append (line_of first) (10 ∷ []) ∙ omega (arith, length-line first first_good)

  -- device k
  device-apart : (d : Device) → k < length m.devices → Apart m (with_device k d m) (device_frame (get_or m.devices k no_device)) (device_frame d) (device_start k)
  unfolding frames_of with_device layouts sum
  device-apart d h =
      apart 1 device_frame (λ x. refl) m.devices no_device k h (first ∷ []) (later_frames m) m (with_device k d m) (line_bytes 0) d g refl
      (rw (length-set m.devices k d)) first-length

  devices-length : length (text_of (first ∷ map device_frame m.devices)) ≡ device_start (length m.devices)
  unfolding frames_of bytes_of layouts sum
  devices-length =
      let ds = map device_frame m.devices in
      let a = length-line first first_good in
      let b = length-text 1 ds (every-parts good_frame ds (later_frames m) (every-tail good_frame first (ds ++ later_frames m) g)).0 (uniform 1 device_frame m.devices (λ x. refl)) in
      length-append (line_of first) (10 ∷ text_of ds) ∙ omega (arith, a, b, length-map m.devices device_frame)

  -- bucket k
  bucket-apart : (b : Bucket) → k < length m.buckets
      → Apart m (with_bucket k b m) (bucket_frame (get_or m.buckets k no_bucket)) (bucket_frame b) (device_start (length m.devices) + k * line_bytes 2)
  unfolding frames_of with_bucket layouts sum
  bucket-apart b h =
      let rest = map link_frame m.links ++ (map step_frame m.steps ++ (frame 5 (size_of m ∷ []) ∷ [])) in
      apart 2 bucket_frame (λ x. refl) m.buckets no_bucket k h (first ∷ map device_frame m.devices) rest m (with_bucket k b m) (device_start (length m.devices)) b g refl
      (rw (length-set m.buckets k b)) devices-length

-- ---- one field of that frame is another

-- good frames, in parts
parts-good : (xs ys : List Frame) (f : Frame) → every good_frame (xs ++ (f ∷ ys)) ≡ true
    → (every good_frame xs ≡ true) × (good_frame f ≡ true) × (every good_frame ys ≡ true)
parts-good xs ys f e =
    let a = every-parts good_frame xs (f ∷ ys) e in
    (a.0, every-head good_frame f ys a.1, every-tail good_frame f ys a.1)

good-parts : (xs ys : List Frame) (f : Frame) → every good_frame xs ≡ true → good_frame f ≡ true → every good_frame ys ≡ true → every good_frame (xs ++ (f ∷ ys)) ≡ true
unfolding every
good-parts xs ys f a b c = rw (every_append good_frame xs (f ∷ ys)) (and_both a (and_both b c))

-- u is the text of the map m, and m the map of u
pub record Edited (u : List ℕ) (m : Map) : Type 0 where
  pub text : u ≡ map_text m
  pub holds : map_of u ≡ m
  pub framed : Framed u

-- a text is that of its map
pub unedited : (t : List ℕ) → Framed t → Edited t (map_of t)
unedited t h = record { text = sym (text-of-map t h); holds = refl; framed = h }

-- a text of a map with the same counts has the shape that the text had
pub edited-shape : (t u : List ℕ) (s : Shape) (m : Map) → Framed t → s ≡ shape_of (frames_in t) → Edited u m → counts_of m ≡ counts_of (map_of t) → s ≡ shape_of (frames_in u)
edited-shape t u s m h e E q = e ∙ shape-of-map t h ∙ sym q ∙ sym (ap counts_of E.holds) ∙ sym (shape-of-map u E.framed)

module _ {m m' : Map} {f f' : Frame} {p : ℕ} (A : Apart m m' f f' p) (i v : ℕ) (g : Fits m ≡ true) (l : i < length (layout f.kind)) (s : v < 16 ^ digits_of f.kind i)
    (e : with f i v ≡ f') where
  parts : (every good_frame A.before ≡ true) × (good_frame f ≡ true) × (every good_frame A.after ≡ true)
  parts = parts-good A.before A.after f (rw A.is at g)

  good' : good_frame f' ≡ true
  good' = rw (← e) (with-good f i v parts.1 s)

  with-text : splice (p + offset f.kind i) (digits_of f.kind i) (hex (digits_of f.kind i) v) (map_text m) ≡ map_text m'
  with-text = rw (A.is, A.is', ← e) (write-at A.before A.after f i p v parts.1 l A.starts)

  with-fits : Fits m' ≡ true
  with-fits = rw A.is' (good-parts A.before A.after f' parts.0 good' parts.2)

  -- the two lines are equally long
  with-length : length (map_text m') ≡ length (map_text m)
  unfolding with bytes_of
  with-length = rw (A.is, A.is') (length_at f' good' ∙ rw kind-stays (sym (length_at f parts.1)))
    where
      kind-stays : f'.kind ≡ f.kind
      kind-stays = ap (λ (x : Frame). x.kind) (sym e)

      length_at : (x : Frame) → good_frame x ≡ true → length (text_of (A.before ++ (x ∷ A.after))) ≡ p + (line_length x.kind + 1 + length (text_of A.after))
      length_at x q =
          ap length (text-append A.before (x ∷ A.after)) ∙ length-append (text_of A.before) (text_of (x ∷ A.after))
          ∙ rw (A.starts, length-append (line_of x) (10 ∷ text_of A.after)) (omega (arith, length-line x q))

-- the digits of that field replaced in a text
edited : (t : List ℕ) (h : Framed t) {m' : Map} {f f' : Frame} {p : ℕ} → Apart (map_of t) m' f f' p → (i v : ℕ) → i < length (layout f.kind) → v < 16 ^ digits_of f.kind i
    → with f i v ≡ f' → Edited (splice (p + offset f.kind i) (digits_of f.kind i) (hex (digits_of f.kind i) v) t) m'
edited t h {m'} {f} {f'} {p} A i v l s e =
    let m = map_of t in
    let g = map-fits t h in
    let b : splice (p + offset f.kind i) (digits_of f.kind i) (hex (digits_of f.kind i) v) t ≡ map_text m' =
    subst (λ (u : List ℕ). splice (p + offset f.kind i) (digits_of f.kind i) (hex (digits_of f.kind i) v) u ≡ map_text m') (text-of-map t h) (with-text A i v g l s e) in
    let g' = with-fits A i v g l s e in
    rw b
    (record {
      text = refl;
      holds = map-of-text m' g';
      framed = framed m' g' (omega (arith, with-length A i v g l s e, ap length (text-of-map t h), (plain t h.sized).most));
    })

module _ (t : List ℕ) (k : ℕ) (h : Framed t) where
  -- the acceptance of device k, its field 2
  pub edited-acceptance : k < length (map_of t).devices → (v : ℕ) → v < 16 ^ 8
      → Edited (splice (device_start k + acceptance_at) 8 (hex 8 v) t) (with_device k (accepting (get_or (map_of t).devices k no_device) v) (map_of t))
  unfolding with layouts sum
  edited-acceptance l v s = edited t h (device-apart (map_of t) k (map-fits t h) (accepting (get_or (map_of t).devices k no_device) v) l) 2 v (lit< tt) s refl

  -- its weight, field 1
  pub edited-weight : k < length (map_of t).devices → (v : ℕ) → v < 16 ^ 8
      → Edited (splice (device_start k + weight_at) 8 (hex 8 v) t) (with_device k (weighing (get_or (map_of t).devices k no_device) v) (map_of t))
  unfolding with layouts sum
  edited-weight l v s = edited t h (device-apart (map_of t) k (map-fits t h) (weighing (get_or (map_of t).devices k no_device) v) l) 1 v (lit< tt) s refl

  -- the weight of bucket k, its field 3
  pub edited-sum : k < length (map_of t).buckets → (v : ℕ) → v < 16 ^ 8
      → Edited (splice (device_start (length (map_of t).devices) + k * line_bytes 2 + sum_at) 8 (hex 8 v) t) (with_bucket k (bearing (get_or (map_of t).buckets k no_bucket) v) (map_of t))
  unfolding with layouts sum
  edited-sum l v s = edited t h (bucket-apart (map_of t) k (map-fits t h) (bearing (get_or (map_of t).buckets k no_bucket) v) l) 3 v (lit< tt) s refl

-- ---- devices by number

-- the order of devices
abbrev pub device_below : Device → Device → Bool
device_below d e = ltb d.number e.number

-- question 6 of the devices
pub rising-devices : (m : Map) → rising m ≡ true → linked device_below m.devices ≡ true
unfolding rising
rising-devices m e =
    let c : Bucket → Bucket → Bool = λ (b c : Bucket). ltb b.number c.number in
    (both (linked device_below m.devices) (linked c m.buckets)
    (both (linked device_below m.devices && linked c m.buckets) (linked link_below m.links) e).0).0

-- a change g of the devices with number d, where the numbers rise
module _ (d : ℕ) (g : Device → Device) where
  abbrev changed : Device → Device
  changed e = cond (eqb e.number d) (g e) e

  -- none behind one from d on
  none-behind : (x : Device) (xs : List Device) → linked_from device_below x xs ≡ true → d ≤ x.number → map changed xs ≡ xs
  none-behind x [] e h = refl
  none-behind x (y ∷ ys) e h =
      let l : x.number < y.number = ltb-true _ _ (linked-head device_below x y ys e) in
      rw (ne_eqb y.number d (λ p. omega (arith, p)), none-behind y ys (linked-tail device_below x y ys e) (omega arith))

  first_below : (x : Device) (xs : List Device) (k : ℕ) → linked_from device_below x xs ≡ true → k < length xs → x.number < (get_or xs k no_device).number
  first_below x [] k e h = absurd (omega arith)
  first_below x (y ∷ ys) zero e h = ltb-true _ _ (linked-head device_below x y ys e)
  first_below x (y ∷ ys) (suc k) e h =
      let l : x.number < y.number = ltb-true _ _ (linked-head device_below x y ys e) in
      omega (arith, first_below y ys k (linked-tail device_below x y ys e) (omega arith))

  -- one device changes, the one with the number
  pub one-changes : (xs : List Device) (k : ℕ) → linked device_below xs ≡ true → k < length xs → (get_or xs k no_device).number ≡ d
      → set xs k (g (get_or xs k no_device)) ≡ map changed xs
  unfolding linked
  one-changes [] k e h n = absurd (omega arith)
  one-changes (x ∷ xs) zero e h n = rw (eq-eqb x.number d n, none-behind x xs e (omega (arith, n)))
  one-changes (x ∷ xs) (suc k) e h n =
      let l = first_below x xs k e (omega arith) in
      rw (ne_eqb x.number d (λ p. omega (arith, p, n, l)), one-changes xs k (linked-rest device_below x xs e) (omega arith) n)

-- a bucket with the weight that a list has of its number, and each bucket so
abbrev pub borne_by : List ℕ → Bucket → Bucket
borne_by ws b = bearing b (get_or ws b.number 0)

unfoldable pub bearing_all : List ℕ → Map → Map
bearing_all ws m = with_buckets m (map (borne_by ws) m.buckets)

-- device k replaced is the definitions' edit of the device with that number
module _ (m : Map) (k d v : ℕ) (r : rising m ≡ true) (l : k < length m.devices) (n : (get_or m.devices k no_device).number ≡ d) where
  -- an acceptance
  pub put-acceptance : with_device k (accepting (get_or m.devices k no_device) v) m ≡ put m (Some (Acceptance d v))
  unfolding with_device put
  put-acceptance = rw (one-changes d (λ (e : Device). accepting e v) m.devices k (rising-devices m r) l n)

  -- a weight, with the sums of all buckets written: the list has them
  pub put-weight : (ws : List ℕ) → ((b : Bucket) → Memᴰ b m.buckets → get_or ws b.number 0 ≡ weight_of (put m (Some (Weight d v))) (bucket_item b.number))
      → bearing_all ws (with_device k (weighing (get_or m.devices k no_device) v) m) ≡ put m (Some (Weight d v))
  unfolding bearing_all with_device put with_sums
  put-weight ws w =
      let n' = with_devices m (map (with_weight d v) m.devices) in
      rw (one-changes d (λ (e : Device). weighing e v) m.devices k (rising-devices m r) l n)
      (ap (with_buckets n')
      (map-ext (borne_by ws) (with_sum n') m.buckets
      (λ b q. ap (bearing b) (w b q ∙ sums-leave-weights n' (bucket_item b.number)))))

-- what a part that comes back makes of the whole
pub put-splice : (a k n v : ℕ) (xs ys : List ℕ) → k ≡ 8 → n ≡ 8 → ys ≡ hex n v → put_mid a k xs ys ≡ splice a 8 (hex 8 v) xs
unfolding splice
put-splice a k n v xs ys p q e = rw (e, p, q, drop-drop 8 a xs)
