-- `compile::trees::words_of` meets its contract. The invariant: the words of the first b buckets are laid. Assumes nothing.
use mathlib.Core.Path.{◌≡◌, sym, subst}
use mathlib.Core.List.{List}
use Prim.Native.Nat.{ℕ, ◌+◌}
use native.Mathlib.Omega.{arith}
use lib.ListN.{length}
use borrow.Author.Rules.{rules}
use Rattle.compile.specs.Trees.{LaidTo, laid_none, part-fits, laid_kept, laid-summed, laid-all}
use Rattle.compile.proofs.trees.words_of.Goals as goal
use Rattle.compile.proofs.trees.words_of.Goals.{then-plan-b-eq-TREE, else-plan-b-eq-TREE}

pub loop-b-init : goal.loop-b-init
loop-b-init c = let n : length c.args.words ≡ 1280 = search rules in laid_none c.args.plan.now c.args.words n

pub overflow_cast-a : goal.overflow_cast-a
overflow_cast-a c = omega (arith, (part-fits c.args.plan.now c.args.words c.requires c.loop-b.words c.loop-b.b c.loop-b.invariant (omega arith)).0)

pub overflow_cast-n : goal.overflow_cast-n
overflow_cast-n c = omega (arith, (part-fits c.args.plan.now c.args.words c.requires c.loop-b.words c.loop-b.b c.loop-b.invariant (omega arith)).0)

pub slice_bounds-add_up-end : goal.slice_bounds-add_up-end
slice_bounds-add_up-end c = sym c.loop-b.invariant.size

pub add_up-requires : goal.add_up-requires
add_up-requires c = rw c.plan.view_is (part-fits c.args.plan.now c.args.words c.requires c.loop-b.words c.loop-b.b c.loop-b.invariant (omega arith))

pub loop-b-preserved : goal.loop-b-preserved
loop-b-preserved c =
    let plan = c.args.plan.now in
    let i = c.loop-b.invariant in
    let laid = LaidTo plan c.args.words in
    elim c.if-plan-b-eq-TREE.branch [
      | then-plan-b-eq-TREE w ↦ subst (λ (us : List ℕ). laid us (c.loop-b.b + 1)) (sym w.words-is)
          (laid-summed plan c.args.words c.requires c.loop-b.words c.loop-b.b i c.loop-b-test.true (rw c.plan.view_is at w.if-plan-b-eq-TREE.true) _ (rw c.plan.view_is at w.add_up.ensures))
      | else-plan-b-eq-TREE w ↦ subst (λ (us : List ℕ). laid us (c.loop-b.b + 1)) (sym w.words-is)
          (laid_kept plan c.args.words c.requires c.loop-b.words c.loop-b.b i c.loop-b-test.true (rw c.plan.view_is at w.if-plan-b-eq-TREE.false))
    ]

pub returns : goal.returns
returns c =
    laid-all c.args.plan.now c.args.words c.requires c.loop-b.words c.loop-b.b (omega arith) c.loop-b.invariant
