-- Document 02, change 3, "Drives that take everything": what an acceptance of 65,536 or 0 says without a hash. Assumes nothing.
use Rattle.std.specs.Prelude.{◌≡◌, Bool, true, false, ℕ, ◌%◌, ◌≤◌}
use Rattle.std.proofs.Common.{arith, lt-ltb, le-ltb}
use Rattle.definitions.specs.Hash.{hash2}
use Rattle.definitions.specs.Walk.{accepts}

-- the number alone answers b: 65,536 (load takes no higher one) that a device passes, 0 that it does not
abbrev pub Says : ℕ → Bool → Type 0
Says a true = 65536 ≤ a
Says a false = a ≡ 0

-- "for every group and device the answer is the hash test's"
pub number-says : (seed x d a : ℕ) (b : Bool) → Says a b → accepts (hash2 seed x d) a ≡ b
unfolding accepts
number-says seed x d a true l = lt-ltb (hash2 seed x d % 65536) a (omega (arith, l))
number-says seed x d a false e = le-ltb (hash2 seed x d % 65536) a (omega (arith, e))
