-- How long the lists of a run become: a select puts out at most its count for each entry, and the list is at most what the blocks emit.
-- Assumes nothing.
use Rattle.std.specs.Prelude.{Bool, true, false, cond, List, [], ◌∷◌, ◌++◌, length, get_or}
use Prim.Native.Nat.{ℕ, zero, suc, ◌+◌, ◌*◌, ◌≤◌}
use native.Mathlib.Omega.{arith}
use Rattle.std.proofs.Common.{mul-le-mul_right, le_trans}
use Rattle.std.proofs.Math.ListN.{length-append}
use Rattle.definitions.specs.declared.Mode.{Mode}
use Rattle.definitions.specs.declared.Action.{Action}
use Rattle.definitions.specs.declared.Action.TheVariants.{Take, Select, Emit, Idle}
use Rattle.definitions.specs.View.{View}
use Rattle.definitions.specs.Walk.{hole}
use Rattle.blocks.specs.Products.{product_after, added_by, product_to, emitted_to}
use Rattle.placement.specs.Bare.{Bare, left_out, put_behind, bare_with, ranked_under, bare_rank, bare_ranks, bare_to, bare_select, BareRun, bare_selected, bare_act, bare_run_to}

one_more : (mode : Mode) (e : ℕ) (is : List ℕ) (i : ℕ) → length (put_behind mode e is i) ≤ length is + 1
unfolding put_behind
one_more mode e is i = go (left_out mode e)
  where
    go : (b : Bool) → length (cond b is (is ++ (i ∷ []))) ≤ length is + 1
    go true = omega arith
    go false = omega (arith, length-append is (i ∷ []))

module _ (v : View) (x : ℕ) (mode : Mode) (n t : ℕ) (before : List ℕ) where
  ranks-most : (a : ℕ) (s : Bare) (k : ℕ) → length (bare_ranks v x mode n t before a s k).bare.entries ≤ length s.entries + k
  unfolding bare_ranks bare_rank bare_with
  ranks-most a s zero = omega arith
  ranks-most a s (suc k) =
      let q = bare_ranks v x mode n t before a s k in
      let r = ranked_under v x mode n t a (suc k) (before ++ q.bare.items) q.f in
      omega (arith, one_more mode r.entry q.bare.entries r.entry, ranks-most a s k)

  to-most : (ws : List ℕ) (k : ℕ) → length (bare_to v x mode n t before ws k).entries ≤ k * n
  unfolding bare_to
  to-most ws zero = omega arith
  to-most ws (suc k) = omega (arith, ranks-most (get_or ws k hole) (bare_to v x mode n t before ws k) n, to-most ws k)

  select-most : (ws : List ℕ) → length (bare_select v x mode n t before ws).entries ≤ length ws * n
  unfolding bare_select
  select-most ws = to-most ws (length ws)

module _ (v : View) (x : ℕ) where
  act-most : (s : BareRun) (a : Action) (p e : ℕ) → length s.working ≤ p → length s.list ≤ e
      → (length (bare_act v x s a).working ≤ product_after p a) × (length (bare_act v x s a).list ≤ e + added_by p a)
  unfolding bare_act bare_selected product_after added_by
  act-most s (Take b) p e h g = (omega arith, omega arith)
  act-most s (Select mode n t) p e h g = (le_trans (select-most v x mode n t s.list s.working) (mul-le-mul_right n h), omega arith)
  act-most s Emit p e h g = (h, omega (arith, length-append s.list s.working))
  act-most s Idle p e h g = (h, omega arith)

  -- the working list is at most the product of the counts in its block, and the list at most what was emitted
  pub run-most : (actions : List Action) (k : ℕ)
      → (length (bare_run_to v x actions k).working ≤ product_to actions k) × (length (bare_run_to v x actions k).list ≤ emitted_to actions k)
  unfolding bare_run_to product_to emitted_to
  run-most actions zero = (omega arith, omega arith)
  run-most actions (suc k) =
      let r = run-most actions k in
      act-most (bare_run_to v x actions k) (get_or actions k Idle) (product_to actions k) (emitted_to actions k) r.0 r.1
