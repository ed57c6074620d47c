-- Document 02, "One drive, one place", against document 01, by which a select holds what it puts out itself and nothing else: up to the first
-- emit and with it every run is document 01's. So are all lists of a rule of one block, and in any list the places of the first block.
-- Assumes nothing.
use Rattle.std.specs.Prelude.{◌≡◌, length, take, replicate}
use Rattle.std.proofs.Math.Path.{refl, sym, ap}
use Rattle.std.proofs.Common.{◌∙◌, zero-add, suc-add, arith}
use mathlib.Core.List.{List, [], ◌++◌, append-nil, append_assoc}
use Prim.Native.Nat.{ℕ, zero, suc, ◌+◌, ◌-◌, ◌<◌, ◌≤◌}
use Rattle.std.proofs.Math.ListN.{get_or}
use Rattle.std.proofs.Math.Seq.{take-append_seam}
use Rattle.definitions.specs.declared.Action.{Action}
use Rattle.definitions.specs.declared.Action.TheVariants.{Take, Select, Emit, Idle}
use Rattle.definitions.specs.Map.{Map, actions_of}
use Rattle.definitions.specs.View.{View, view_of}
use Rattle.definitions.specs.Select.{Place, entries_of, nowhere, select_of}
use Rattle.definitions.specs.Rule.{Run, taken, selected, act, run_to, width_of, padded, Placed, placed_by, placed_of}

-- a step as document 01 has it, blocks apart: nothing is held as a select begins
unfoldable pub act_apart : View → ℕ → Run → Action → Run
act_apart v x s (Take b) = record { working = taken b; list = s.list; tries = s.tries }
act_apart v x s (Select mode n t) = selected s (select_of v x mode n t [] s.working)
act_apart v x s Emit = act v x s Emit
act_apart v x s Idle = s

-- the first k steps
unfoldable pub run_apart : View → ℕ → List Action → ℕ → Run
run_apart v x actions zero = run_to v x actions zero
run_apart v x actions (suc k) = act_apart v x (run_apart v x actions k) (get_or actions k Idle)

module _ (v : View) (x : ℕ) (actions : List Action) where
  -- no emit among the first k steps
  abbrev Unemitted : ℕ → Type 0
  Unemitted k = (j : ℕ) → j < k → get_or actions j Idle ≡ Emit → ⊥

  -- nothing was emitted then
  list-none : (k : ℕ) → Unemitted k → (run_to v x actions k).list ≡ []
  unfolding run_to act selected
  list-none zero f = refl
  list-none (suc k) f = go (get_or actions k Idle) refl (list-none k (λ j h. f j (omega arith)))
    where
      go : (a : Action) → get_or actions k Idle ≡ a → (run_to v x actions k).list ≡ [] → (act v x (run_to v x actions k) a).list ≡ []
      go (Take b) e h = h
      go (Select mode n t) e h = h
      go Emit e h = absurd (f k (omega arith) e)
      go Idle e h = h

  -- where no step before the last of the first k emits, the run is that of the blocks apart
  pub first_block : (k : ℕ) → ((j : ℕ) → suc j < k → get_or actions j Idle ≡ Emit → ⊥) → run_to v x actions k ≡ run_apart v x actions k
  unfolding run_to run_apart act act_apart entries_of
  first_block zero f = refl
  first_block (suc k) f =
      go (get_or actions k Idle) (list-none k (λ j h. f j (omega arith)))
      ∙ ap (λ (s : Run). act_apart v x s (get_or actions k Idle)) (first_block k (λ j h. f j (omega arith)))
    where
      s : Run
      s = run_to v x actions k

      go : (a : Action) → s.list ≡ [] → act v x s a ≡ act_apart v x s a
      go (Take b) h = refl
      go (Select mode n t) h = ap (λ (ps : List Place). selected s (select_of v x mode n t (entries_of ps) s.working)) h
      go Emit h = refl
      go Idle h = refl

-- ---- later steps only append

-- of a run by whatever steps, each of which only appends: what was emitted stays at the front
module _ (run : ℕ → Run) (appends : (k : ℕ) → (more : List Place) × ((run (suc k)).list ≡ (run k).list ++ more)) where
  grows : (k j : ℕ) → (more : List Place) × ((run (j + k)).list ≡ (run k).list ++ more)
  grows k zero = ([], ap (λ (n : ℕ). (run n).list) (zero-add k) ∙ sym (append-nil (run k).list))
  grows k (suc j) =
      let (rest, e) = grows k j in
      let (more, q) = appends (j + k) in (
        rest ++ more,
        ap (λ (n : ℕ). (run n).list) (suc-add j k)
            ∙ q
            ∙ ap (λ (l : List Place). l ++ more) e
            ∙ append_assoc (run k).list rest more,
      )

module _ (v : View) (x : ℕ) (actions : List Action) where
  -- a step appends some places, or none
  pub list-more : (k : ℕ) → (more : List Place) × ((run_to v x actions (suc k)).list ≡ (run_to v x actions k).list ++ more)
  unfolding run_to act selected
  list-more k = go (run_to v x actions k) (get_or actions k Idle)
    where
      go : (s : Run) (a : Action) → (more : List Place) × ((act v x s a).list ≡ s.list ++ more)
      go s (Take b) = ([], sym (append-nil s.list))
      go s (Select mode n t) = ([], sym (append-nil s.list))
      go s Emit = (s.working, refl)
      go s Idle = ([], sym (append-nil s.list))

  -- so what the first k steps have emitted stands at the front of what j steps more have
  pub list-grows : (k j : ℕ) → (more : List Place) × ((run_to v x actions (j + k)).list ≡ (run_to v x actions k).list ++ more)
  list-grows = grows (run_to v x actions) list-more

  -- so it does where the blocks are apart
  apart-grows : (k j : ℕ) → (more : List Place) × ((run_apart v x actions (j + k)).list ≡ (run_apart v x actions k).list ++ more)
  unfolding run_apart act_apart act selected
  apart-grows = grows (run_apart v x actions) (λ k. go (run_apart v x actions k) (get_or actions k Idle))
    where
      go : (s : Run) (a : Action) → (more : List Place) × ((act_apart v x s a).list ≡ s.list ++ more)
      go s (Take b) = ([], sym (append-nil s.list))
      go s (Select mode n t) = ([], sym (append-nil s.list))
      go s Emit = (s.working, refl)
      go s Idle = ([], sym (append-nil s.list))

-- ---- lists

-- a group's list and tries as document 01 has them
unfoldable pub placed_apart : Map → ℕ → Placed
placed_apart m x = placed_by (width_of m) (run_apart (view_of m) x (actions_of m) (length (actions_of m)))

-- in a rule of one block, of which nothing follows the emit, every group's list and tries are document 01's
pub one_block : (m : Map) → ((j : ℕ) → get_or (actions_of m) j Idle ≡ Emit → length (actions_of m) ≤ suc j) → (x : ℕ) → placed_of m x ≡ placed_apart m x
unfolding placed_of placed_apart
one_block m f x =
    ap (placed_by (width_of m)) (first_block (view_of m) x (actions_of m) (length (actions_of m)) (λ j h e. omega (arith, f j e)))

-- in every rule the places of the first block, all that the list has once step k has emitted for the first time, are document 01's
pub first-places : (m : Map) (x k : ℕ) → k < length (actions_of m) → ((j : ℕ) → j < k → get_or (actions_of m) j Idle ≡ Emit → ⊥)
    → let n = length (run_to (view_of m) x (actions_of m) (suc k)).list in take n (placed_of m x).places ≡ take n (placed_apart m x).places
unfolding placed_of placed_apart placed_by padded
first-places m x k h f =
    let v = view_of m in
    let actions = actions_of m in
    let block = (run_to v x actions (suc k)).list in
    let all : (length actions - suc k) + suc k ≡ length actions = omega arith in
    let (more, e) = list-grows v x actions (suc k) (length actions - suc k) in
    let (more', e') = apart-grows v x actions (suc k) (length actions - suc k) in
    let same : run_to v x actions (suc k) ≡ run_apart v x actions (suc k) = first_block v x actions (suc k) (λ j g. f j (omega arith)) in
    front block more _ (ap (λ (n : ℕ). (run_to v x actions n).list) (sym all) ∙ e)
    ∙ sym (front block more' _ (ap (λ (n : ℕ). (run_apart v x actions n).list) (sym all) ∙ e' ∙ ap (λ (s : Run). s.list ++ more') (sym same)))
  where
    -- what a list begins with is its front, unused places added or not
    front : (ps more all : List Place) → all ≡ ps ++ more → take (length ps) (all ++ replicate (width_of m - length all) nowhere) ≡ ps
    front ps more all e =
        let holes = replicate (width_of m - length all) nowhere in
        ap (λ (l : List Place). take (length ps) (l ++ holes)) e
        ∙ ap (take (length ps)) (append_assoc ps more holes)
        ∙ take-append_seam ps (more ++ holes)
