-- `compile::trees::add_up` meets its contract. The invariant: the first i words have those before them added, and the sum is theirs.
-- Assumes nothing.
use mathlib.Core.Path.{refl}
use native.Mathlib.Omega.{arith}
use Rattle.definitions.specs.Lists.{sum}
use Rattle.compile.specs.Trees.{summed-none, summed-next, summed-fits, summed-more, summed-all}
use Rattle.compile.proofs.trees.add_up.Goals as goal

pub loop-i-init : goal.loop-i-init
unfolding sum
loop-i-init c = (refl, summed-none c.args.a c.args.words.now)

pub bounds-words-a : goal.bounds-words-a
bounds-words-a c = omega (arith, c.loop-i.invariant.1.long, c.requires.0)

pub overflow_add-sum-in-loop-i : goal.overflow_add-sum-in-loop-i
overflow_add-sum-in-loop-i c =
    let a = c.args in
    let i = c.loop-i.invariant in
    record { fits = omega (arith, summed-fits a.a c.loop-i.i a.words.now c.loop-i.words i.1 c.loop-i.sum a.n i.0 (omega arith) c.requires.1) }

pub loop-i-preserved : goal.loop-i-preserved
loop-i-preserved c =
    let a = c.args in
    let i = c.loop-i.invariant in
    let e = summed-next a.a c.loop-i.i a.words.now c.loop-i.words i.1 c.loop-i.sum i.0 in
    (e, summed-more a.a c.loop-i.i a.words.now c.loop-i.words i.1 _ (omega (arith, c.requires.0)) e)

pub shape_of-words : goal.shape_of-words
shape_of-words c = c.loop-i.invariant.1.long

pub returns : goal.returns
returns c =
    let a = c.args in
    summed-all a.a c.loop-i.i a.words.now c.loop-i.words c.loop-i.invariant.1 a.n (omega arith)
