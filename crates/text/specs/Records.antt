-- The places of the map's records in a text that questions 1 to 4 take: the fields of row k at its offset, and room for its line, which is of digits.
use Rattle.std.specs.Prelude.{◌≡◌, true, List, map, ℕ, ◌+◌, ◌-◌, ◌*◌, ◌<◌, ◌≤◌, length, get_or, drop}
use Rattle.std.proofs.Math.Path.{refl}
use Rattle.std.proofs.Common.{sym, subst, arith, lit<}
use Rattle.std.proofs.lemmas.List.{length-map}
use Rattle.std.proofs.Math.ListN.{get_or-map}
use Rattle.definitions.specs.declared.Device.{Device}
use Rattle.definitions.specs.declared.Bucket.{Bucket}
use Rattle.definitions.specs.declared.Link.{Link}
use Rattle.definitions.specs.declared.Step.{Step}
use Rattle.text.specs.declared.Shape.{Shape}
use Rattle.definitions.specs.Lists.{sum}
use Rattle.definitions.specs.Frames.{is_digit, value, Frame, layouts, layout, line_length, frames_in, section, field, no_frame}
use Rattle.definitions.specs.Map.{Map, device_in, bucket_in, link_in, step_in, map_in, map_of}
use Rattle.text.specs.Frames.{good-frames, line_bytes}
use Rattle.text.specs.Shape.{shape_of}
use Rattle.text.specs.Places.{offset, digits_of}
use Rattle.text.specs.Map.{Ordered, in_order}
use Rattle.text.specs.Rows.{base, row, row_field, row_room, row-digits, device_start, weight_at, acceptance_at, sum_at, buckets_start, links_start, steps_start, base-devices, base-buckets, base-links, base-steps}
use Rattle.text.specs.RoundTrip.{Framed, text-of-frames}

-- no device
abbrev pub no_device : Device
no_device = record { number = 0; weight = 0; acceptance = 0 }

-- no bucket
abbrev pub no_bucket : Bucket
no_bucket = record { number = 0; ty = 0; kind = 0; weight = 0 }

-- no link
abbrev pub no_link : Link
no_link = record { bucket = 0; child = 0 }

-- no step
abbrev pub no_step : Step
no_step = record { step = 0; count = 0; ty = 0; bucket = 0 }

-- the n bytes from p on are digits
abbrev pub DigitsAt : List ℕ → ℕ → ℕ → Type 0
DigitsAt t p n = (i : ℕ) → i < n → is_digit (get_or t (p + i) 0) ≡ true

-- the line of a frame f of kind j starts at p
pub record FrameAt (t : List ℕ) (j p : ℕ) (f : Frame) : Type 0 where
  pub read : (i : ℕ) → i < length (layout j) → value (digits_of j i) (drop (p + offset j i) t) ≡ field i f
  pub room : p + (line_length j + 1) ≤ length t
  pub digits : DigitsAt t p (line_length j)

-- the line of device d starts at p
pub record DeviceAt (t : List ℕ) (p : ℕ) (d : Device) : Type 0 where
  pub number : value 4 (drop (p + 2) t) ≡ d.number
  pub weight : value 8 (drop (p + weight_at) t) ≡ d.weight
  pub acceptance : value 8 (drop (p + acceptance_at) t) ≡ d.acceptance
  pub room : p + line_bytes 1 ≤ length t
  pub digits : DigitsAt t p (line_bytes 1 - 1)

-- the line of bucket b starts at p
pub record BucketAt (t : List ℕ) (p : ℕ) (b : Bucket) : Type 0 where
  pub number : value 4 (drop (p + 2) t) ≡ b.number
  pub ty : value 2 (drop (p + 6) t) ≡ b.ty
  pub kind : value 2 (drop (p + 8) t) ≡ b.kind
  pub weight : value 8 (drop (p + sum_at) t) ≡ b.weight
  pub room : p + line_bytes 2 ≤ length t
  pub digits : DigitsAt t p (line_bytes 2 - 1)

-- the line of link l starts at p
pub record LinkAt (t : List ℕ) (p : ℕ) (l : Link) : Type 0 where
  pub bucket : value 4 (drop (p + 2) t) ≡ l.bucket
  pub child : value 8 (drop (p + 6) t) ≡ l.child
  pub room : p + line_bytes 3 ≤ length t
  pub digits : DigitsAt t p (line_bytes 3 - 1)

-- the line of step s starts at p
pub record StepAt (t : List ℕ) (p : ℕ) (s : Step) : Type 0 where
  pub step : value 2 (drop (p + 2) t) ≡ s.step
  pub count : value 2 (drop (p + 4) t) ≡ s.count
  pub ty : value 2 (drop (p + 6) t) ≡ s.ty
  pub bucket : value 4 (drop (p + 8) t) ≡ s.bucket
  pub room : p + line_bytes 4 ≤ length t
  pub digits : DigitsAt t p (line_bytes 4 - 1)

module _ (t : List ℕ) (h : Framed t) where
  -- its frames are in order
  in-order-of : Ordered (frames_in t)
  in-order-of = in_order (frames_in t) h.ordered

  -- row k of section j, which starts at b
  pub frame_at : (j b k : ℕ) → j < 6 → base j (frames_in t) ≡ b → k < length (section j (frames_in t))
      → FrameAt t j (b + k * (line_length j + 1)) (get_or (section j (frames_in t)) k no_frame)
  frame_at j b k n e l =
      let fs = frames_in t in
      let r = row fs j k (good-frames t h.formed) in-order-of.sorted n l in
      subst (λ (u : List ℕ). FrameAt u j (b + k * (line_length j + 1)) (get_or (section j fs) k no_frame)) (text-of-frames t h)
      (rw (← e) (record { read = row_field fs j k r; room = row_room fs j k r; digits = row-digits fs j k r }))

  -- the same of the list that the map makes of section j
  pub record-at : {A : Type 0} (j b k : ℕ) (g : Frame → A) (P : A → Type 0) → j < 6 → base j (frames_in t) ≡ b
      → k < length (map g (section j (frames_in t))) → ((f : Frame) → FrameAt t j (b + k * (line_length j + 1)) f → P (g f))
      → P (get_or (map g (section j (frames_in t))) k (g no_frame))
  record-at j b k g P n e l q =
      let s = section j (frames_in t) in
      rw (get_or-map g s k no_frame) (q (get_or s k no_frame) (frame_at j b k n e (omega (arith, l, length-map s g))))

  -- the count of groups
  pub groups-at : (value 8 (drop 2 t) ≡ (map_of t).groups) × (line_bytes 0 ≤ length t) × DigitsAt t 0 (line_bytes 0 - 1)
  unfolding map_in layouts sum base
  groups-at =
      let r = frame_at 0 0 0 (lit< tt) refl (omega (arith, in-order-of.one-first)) in
      (r.read 0 (lit< tt), r.room, r.digits)

  -- device k
  pub device-at : (k : ℕ) → k < length (map_of t).devices → DeviceAt t (device_start k) (get_or (map_of t).devices k no_device)
  unfolding map_in layouts sum
  device-at k l =
      record-at 1 (line_bytes 0) k device_in (DeviceAt t (device_start k)) (lit< tt) (base-devices (frames_in t) in-order-of) l
      (λ f r. record { number = r.read 0 (lit< tt); weight = r.read 1 (lit< tt); acceptance = r.read 2 (lit< tt); room = r.room; digits = r.digits })

  module _ (s : Shape) (e : s ≡ shape_of (frames_in t)) where
    -- bucket k
    pub bucket-at : (k : ℕ) → k < length (map_of t).buckets
        → BucketAt t (buckets_start s + k * line_bytes 2) (get_or (map_of t).buckets k no_bucket)
    unfolding map_in layouts sum
    bucket-at k l =
        record-at 2 (buckets_start s) k bucket_in (BucketAt t (buckets_start s + k * line_bytes 2)) (lit< tt) (base-buckets (frames_in t) s e in-order-of) l
        (λ f r. record { number = r.read 0 (lit< tt); ty = r.read 1 (lit< tt); kind = r.read 2 (lit< tt); weight = r.read 3 (lit< tt); room = r.room; digits = r.digits })

    -- link k
    pub link_at : (k : ℕ) → k < length (map_of t).links
        → LinkAt t (links_start s + k * line_bytes 3) (get_or (map_of t).links k no_link)
    unfolding map_in layouts sum
    link_at k l =
        record-at 3 (links_start s) k link_in (LinkAt t (links_start s + k * line_bytes 3)) (lit< tt) (base-links (frames_in t) s e in-order-of) l
        (λ f r. record { bucket = r.read 0 (lit< tt); child = r.read 1 (lit< tt); room = r.room; digits = r.digits })

    -- step k
    pub step-at : (k : ℕ) → k < length (map_of t).steps
        → StepAt t (steps_start s + k * line_bytes 4) (get_or (map_of t).steps k no_step)
    unfolding map_in layouts sum
    step-at k l =
        record-at 4 (steps_start s) k step_in (StepAt t (steps_start s + k * line_bytes 4)) (lit< tt) (base-steps (frames_in t) s e in-order-of) l
        (λ f r. record { step = r.read 0 (lit< tt); count = r.read 1 (lit< tt); ty = r.read 2 (lit< tt); bucket = r.read 3 (lit< tt); room = r.room; digits = r.digits })

-- the shape's counts are the lengths of the map's lists
module _ (t : List ℕ) (s : Shape) (e : s ≡ shape_of (frames_in t)) where
  -- of devices
  pub shape-devices : s.devices ≡ length (map_of t).devices
  unfolding shape_of map_in
  shape-devices = rw e (sym (length-map (section 1 (frames_in t)) device_in))

  -- of buckets
  pub shape-buckets : s.buckets ≡ length (map_of t).buckets
  unfolding shape_of map_in
  shape-buckets = rw e (sym (length-map (section 2 (frames_in t)) bucket_in))

  -- of links
  pub shape-links : s.links ≡ length (map_of t).links
  unfolding shape_of map_in
  shape-links = rw e (sym (length-map (section 3 (frames_in t)) link_in))

  -- of steps
  pub shape-steps : s.steps ≡ length (map_of t).steps
  unfolding shape_of map_in
  shape-steps = rw e (sym (length-map (section 4 (frames_in t)) step_in))

-- the shape by the map alone
unfoldable pub counts_of : Map → Shape
counts_of m =
    record { groups = 1; devices = length m.devices; buckets = length m.buckets; links = length m.links; steps = length m.steps; ends = 1 }

pub shape-of-map : (t : List ℕ) → Framed t → shape_of (frames_in t) ≡ counts_of (map_of t)
unfolding shape_of counts_of
shape-of-map t h =
    let s = shape_of (frames_in t) in
    let o = in_order (frames_in t) h.ordered in
    rw (o.one-first, o.one_last, shape-devices t s refl, shape-buckets t s refl, shape-links t s refl, shape-steps t s refl)
