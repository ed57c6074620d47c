-- Document 01, "Writing, days, the daemon": a map's frames, a day's group, and the bytes of a list of places.
use Rattle.std.specs.Prelude.{List, [], ◌∷◌, ◌++◌, map, ℕ, ◌+◌, ◌/◌, ◌%◌, length}
use Rattle.definitions.specs.declared.Device.{Device}
use Rattle.definitions.specs.declared.Bucket.{Bucket}
use Rattle.definitions.specs.declared.Link.{Link}
use Rattle.definitions.specs.declared.Step.{Step}
use Rattle.definitions.specs.Lists.{joined}
use Rattle.definitions.specs.Hash.{hash2}
use Rattle.definitions.specs.Frames.{Frame, text_of}
use Rattle.definitions.specs.Map.{Map}
use Rattle.definitions.specs.View.{view_of}

-- ---- writing

abbrev pub frame : ℕ → List ℕ → Frame
frame k vs = record { kind = k; fields = vs }

abbrev pub device_frame : Device → Frame
device_frame d = frame 1 (d.number ∷ d.weight ∷ d.acceptance ∷ [])

abbrev pub bucket_frame : Bucket → Frame
bucket_frame b = frame 2 (b.number ∷ b.ty ∷ b.kind ∷ b.weight ∷ [])

abbrev pub link_frame : Link → Frame
link_frame l = frame 3 (l.bucket ∷ l.child ∷ [])

abbrev pub step_frame : Step → Frame
step_frame s = frame 4 (s.step ∷ s.count ∷ s.ty ∷ s.bucket ∷ [])

-- "`05` number of frames before it"
abbrev pub size_of : Map → ℕ
size_of m = 1 + (length m.devices + (length m.buckets + (length m.links + length m.steps)))

-- the frames behind the devices'
abbrev pub later_frames : Map → List Frame
later_frames m =
    map bucket_frame m.buckets ++ (map link_frame m.links ++ (map step_frame m.steps ++ (frame 5 (size_of m ∷ []) ∷ [])))

-- "Writing gives the frames in the order above."
unfoldable pub frames_of : Map → List Frame
frames_of m = frame 0 (m.groups ∷ []) ∷ (map device_frame m.devices ++ later_frames m)

-- the map's bytes
abbrev pub map_text : Map → List ℕ
map_text m = text_of (frames_of m)

-- ---- days

-- "A day's group is hash of two (show, day) mod G"
unfoldable pub day_group : Map → ℕ → ℕ → ℕ
day_group m show day = hash2 (view_of m).seed show day % m.groups

-- ---- the daemon

-- "each place becomes two bytes, high byte first"
unfoldable pub two_bytes : List ℕ → List ℕ
two_bytes ps = joined (map (λ (p : ℕ). p / 256 ∷ p % 256 ∷ []) ps)
