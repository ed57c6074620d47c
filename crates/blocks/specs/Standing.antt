-- Where a rule stands between its steps. Assumes nothing.
use Rattle.std.specs.Prelude.{◌≡◌, false, List, ℕ, ◌+◌, ◌<◌, ◌≤◌, length, get_or}
use Rattle.std.proofs.Common.{arith}
use Rattle.std.proofs.Math.Numerals.{add-one}
use borrow.Author.Tests.{le-leb, lt-leb}
use Rattle.definitions.specs.declared.Action.TheVariants.{Idle}
use Rattle.definitions.specs.declared.Standing.{Standing}
use Rattle.definitions.specs.Map.{Map, actions_of}
use Rattle.definitions.specs.View.{bucket_type}
use Rattle.definitions.specs.Load.{stand, standing, is_outside, in_blocks}

-- the types of the buckets, by their numbers
abbrev pub TypesOf : Map → List ℕ → Type 0
TypesOf m types = (b : ℕ) → b < 256 → get_or types b 0 ≡ bucket_type m b

module _ (m : Map) where
  -- one step more
  pub standing-next : (k : ℕ) (st : Standing) → st ≡ standing m k → stand m st (get_or (actions_of m) k Idle) ≡ standing m (k + 1)
  unfolding standing
  standing-next k st e = rw (e, add-one k)

  -- too few steps, too many, and neither
  pub steps-none : length m.steps ≡ 0 → in_blocks m ≡ false
  unfolding in_blocks
  steps-none e = rw e

  pub steps-many : 16 < length m.steps → in_blocks m ≡ false
  unfolding in_blocks
  steps-many h = rw (le-leb 1 (length m.steps) (omega arith), lt-leb (length m.steps) 16 h)

  pub steps-some : 1 ≤ length m.steps → length m.steps ≤ 16 → in_blocks m ≡ is_outside (standing m (length m.steps))
  unfolding in_blocks
  steps-some l h = rw (le-leb 1 (length m.steps) l, le-leb (length m.steps) 16 h)
