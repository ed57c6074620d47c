-- Document 01, "The map's frames": the map as a record, the numbers of items, and what the steps do.
use Rattle.std.specs.Prelude.{Bool, cond, List, map, ℕ, ◌+◌, ◌-◌, leb, eqb}
use Rattle.definitions.specs.declared.Device.{Device}
use Rattle.definitions.specs.declared.Bucket.{Bucket}
use Rattle.definitions.specs.declared.Link.{Link}
use Rattle.definitions.specs.declared.Step.{Step}
use Rattle.definitions.specs.declared.Mode.TheVariants.{FirstN, Independent, Through}
use Rattle.definitions.specs.declared.Action.{Action}
use Rattle.definitions.specs.declared.Action.TheVariants.{Take, Select, Emit, Idle}
use Rattle.definitions.specs.Frames.{Frame, section, field, first_field, frames_in}

pub record Map : Type 0 where
  pub groups : ℕ
  pub devices : List Device
  pub buckets : List Bucket
  pub links : List Link
  pub steps : List Step

abbrev pub device_in : Frame → Device
device_in f = record { number = field 0 f; weight = field 1 f; acceptance = field 2 f }

abbrev pub bucket_in : Frame → Bucket
bucket_in f = record { number = field 0 f; ty = field 1 f; kind = field 2 f; weight = field 3 f }

abbrev pub link_in : Frame → Link
link_in f = record { bucket = field 0 f; child = field 1 f }

abbrev pub step_in : Frame → Step
step_in f = record { step = field 0 f; count = field 1 f; ty = field 2 f; bucket = field 3 f }

-- the map that frames hold
unfoldable pub map_in : List Frame → Map
map_in fs =
    record {
      groups = first_field 0 fs;
      devices = map device_in (section 1 fs);
      buckets = map bucket_in (section 2 fs);
      links = map link_in (section 3 fs);
      steps = map step_in (section 4 fs);
    }

-- the map that a text holds
abbrev pub map_of : List ℕ → Map
map_of bs = map_in (frames_in bs)

-- "A device's item number is its own number. A bucket's is 65,536 plus its number."
abbrev pub bucket_item : ℕ → ℕ
bucket_item b = 65536 + b

abbrev pub is_bucket : ℕ → Bool
is_bucket i = leb 65536 i

abbrev pub bucket_number : ℕ → ℕ
bucket_number i = i - 65536

-- "Step 1 take uses the bucket. Step 2 (select first-n) and step 3 (select independent) use n .. and type .. . Step 4 is emit."
-- "Add step 5, select through. It takes n items of a type t from 1 to 254, independent mode, and puts out a device beneath each."
unfoldable pub action_of : Step → Action
action_of s =
    cond (eqb s.step 1) (Take s.bucket)
    (cond (eqb s.step 2) (Select FirstN s.count s.ty)
    (cond (eqb s.step 3) (Select Independent s.count s.ty)
    (cond (eqb s.step 4) Emit
    (cond (eqb s.step 5) (Select Through s.count s.ty) Idle))))

unfoldable pub actions_of : Map → List Action
actions_of m = map action_of m.steps
