-- `frames::lines::all_allowed` meets its contract. The loop's invariant: the answer so far, joined with the one for the bytes from `i` on, is the
-- answer for all. Assumes nothing.
use mathlib.Core.Path.{◌≡◌, sym, ◌∙◌}
use mathlib.Core.Bool.{Bool, ◌&&◌, and_assoc, and-true}
use mathlib.Core.List.{List}
use Prim.Native.Nat.{ℕ, ◌+◌, ◌<◌}
use native.Mathlib.Omega.{arith}
use native.Mathlib.Numerals.{add-one}
use lib.ListN.{length, get_or, drop}
use lib.Seq.{drop-cons}
use Rattle.definitions.specs.Lists.{every}
use Rattle.definitions.specs.Load.{allowed}
use Rattle.laws.specs.Lists.{every-end}
use Rattle.frames.proofs.lines.all_allowed.Goals as goal

-- one more byte joined to the answer so far
joined : (a : Bool) (t : List ℕ) (i : ℕ) → i < length t → a && allowed (get_or t i 0) && every allowed (drop (i + 1) t) ≡ a && every allowed (drop i t)
unfolding every
joined a t i h = rw (add-one i, drop-cons t i 0 h) (and_assoc a _ _)

pub loop-b-preserved : goal.loop-b-preserved
loop-b-preserved c = rw c.is_allowed-all.ensures (joined c.loop-b.all c.args.t.now c.loop-b.b-index (omega arith) ∙ c.loop-b.invariant)

pub returns : goal.returns
returns c = sym (and-true _) ∙ rw (sym (every-end allowed c.args.t.now c.loop-b.b-index (omega arith))) c.loop-b.invariant
