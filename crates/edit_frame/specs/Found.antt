-- A search for a device by its number, and the laws of its loop.
use Rattle.std.specs.Prelude.{◌≡◌, Bool, false, Option, Some, None, List, ℕ, ◌+◌, ◌<◌, ◌≤◌, length, get_or, drop}
use Rattle.std.proofs.Common.{add-one, drop_of_length-le, drop-cons}
use Rattle.definitions.specs.Lists.{some_of}
use Rattle.definitions.specs.Map.{Map}
use Rattle.definitions.specs.Load.{has_device}
use Rattle.text.specs.Records.{no_device}

-- what a search for device d in the map m found: the device at k has the number, or no device has it
unfoldable pub FoundIs : Map → ℕ → Option ℕ → Type 0
FoundIs m d (Some k) = (k < length m.devices) × ((get_or m.devices k no_device).number ≡ d)
FoundIs m d None = has_device m d ≡ false

-- a loop that looks at each from the front: one that does not pass
pub some_next : {A : Type 0} (f : A → Bool) (xs : List A) (i : ℕ) (d : A) → i < length xs → f (get_or xs i d) ≡ false
    → some_of f (drop (i + 1) xs) ≡ some_of f (drop i xs)
unfolding some_of
some_next f xs i d h e = rw (add-one i, drop-cons xs i d h, e)

-- and its end
pub some_end : {A : Type 0} (f : A → Bool) (xs : List A) (i : ℕ) → length xs ≤ i → some_of f (drop i xs) ≡ false
unfolding some_of
some_end f xs i h = rw (drop_of_length-le xs {i = i} h)
