-- An instance of demand 3 on trees: four drives in one, one drive of weight 0 in the other, and a place in each. The first edit has a move of
-- cause 02 whose paths fork: the winner is not the edited drive, but on its side. The second has one of cause 02 where only the new run finds
-- a child. All of it is computed from the definitions.
use mathlib.Core.Path.{◌≡◌, refl, ap, subst}
use mathlib.Core.Bool.{true}
use mathlib.Core.List.{List, [], ◌∷◌, ◌++◌, map}
use Prim.Native.Nat.{ℕ}
use lib.ListN.{replicate}
use Rattle.definitions.specs.Frames.{hex}
use Rattle.definitions.specs.Map.{map_of}
use Rattle.definitions.specs.Edit.{change_of, put, moves_of}
use Rattle.definitions.specs.Load.{load_number}
use Rattle.definitions.specs.Calls.{EditAnswer, independent, fill_of, edit_of}
use Rattle.definitions.specs.Open.{computing}
use Rattle.samples.specs.Samples.{line}
use Rattle.history.specs.Calls.{MovesTraced, Kept}
use Rattle.demands.proofs.Contracts.{EditCall, edits, call_of}
use Rattle.demands.proofs.Demand3.{Start, CallRun, empty, demand-3}
use Rattle.demands.proofs.Instance.{lent_table, lent_space, move, Lending, site, load_call, fill_call, edit_call, starts, answers, first, after}

-- one group; drives 0 to 3 in tree 0, drive 4 in tree 1; one drive from each. The edits change the lines of drives 0 and 4 and
-- the weights of their trees
abbrev pub map_with : List ℕ → List ℕ → ℕ → ℕ → List ℕ
map_with drive-0 drive-4 tree-0 tree-1 =
    line 10 0x0000000001
    ++ drive-0
    ++ line 22 0x0100010000000300010000
    ++ line 22 0x0100020000000200010000
    ++ line 22 0x0100030000000300010000
    ++ drive-4
    ++ (hex 10 0x0200000102 ++ line 8 tree-0)
    ++ (hex 10 0x0200010102 ++ line 8 tree-1)
    ++ line 14 0x03000000000000
    ++ line 14 0x03000000000001
    ++ line 14 0x03000000000002
    ++ line 14 0x03000000000003
    ++ line 14 0x03000100000004
    ++ line 12 0x040100000000
    ++ line 12 0x040301000000
    ++ line 12 0x040400000000
    ++ line 12 0x040100000001
    ++ line 12 0x040301000000
    ++ line 12 0x040400000000
    ++ line 6 0x050013

-- drive 0 at weight 4, then at weight 7; drive 4 at weight 0, then at weight 1
abbrev pub T : List ℕ
T = map_with (line 22 0x0100000000000400010000) (line 22 0x0100040000000000010000) 12 0

abbrev pub U : List ℕ
U = map_with (line 22 0x0100000000000700010000) (line 22 0x0100040000000000010000) 15 0

abbrev pub W : List ℕ
W = map_with (line 22 0x0100000000000700010000) (line 22 0x0100040000000100010000) 15 1

abbrev pub T-table : List ℕ
T-table = 0x0002 ∷ 0xffff ∷ 7 ∷ []

abbrev pub U-table : List ℕ
U-table = 0x0001 ∷ 0xffff ∷ 7 ∷ []

abbrev pub W-table : List ℕ
W-table = 0x0001 ∷ 0x0004 ∷ 7 ∷ []

-- "22000000000007": the paths of place 1 fork at the root, and the new one turns left, where drive 0 is, and comes to drive 1, cause 02
abbrev pub T-edit : List ℕ
T-edit = hex 14 0x22000000000007

abbrev pub T-moves : List ℕ
T-moves = line 22 0x1300000000010002000102

-- "22000400000001": tree 1 weighs nothing no longer, and its one child is drawn, cause 02
abbrev pub U-edit : List ℕ
U-edit = hex 14 0x22000400000001

abbrev pub U-moves : List ℕ
U-moves = line 22 0x130000000002ffff000402

pub T-loads : load_number T ≡ 0
unfolding computing
T-loads = refl

pub T-independent : independent (map_of T) ≡ true
unfolding computing
T-independent = refl

pub T-fills : fill_of T lent_table ≡ record { number = 0; places = 2; table = T-table }
unfolding computing
T-fills = refl

pub T-edited : edit_of T T-table T-edit lent_space ≡ record { number = 0; moves = 1; frames = U; table = U-table; space = T-moves ++ replicate 23 7 }
unfolding computing
T-edited = refl

pub U-edited : edit_of U U-table U-edit lent_space ≡ record { number = 0; moves = 1; frames = W; table = W-table; space = U-moves ++ replicate 23 7 }
unfolding computing
U-edited = refl

pub T-moved : moves_of (map_of T) (put (map_of T) (change_of T-edit)) ≡ move 1 2 1 2 ∷ []
unfolding computing
T-moved = refl

pub U-moved : moves_of (map_of U) (put (map_of U) (change_of U-edit)) ≡ move 2 0xffff 4 2 ∷ []
unfolding computing
U-moved = refl

module _ (k : Lending) where
  abbrev pub T-calls : List EditCall
  T-calls = edit_call k T T-table T-edit lent_space ∷ edit_call k U U-table U-edit lent_space ∷ []

  pub T-start : Start (load_call k T) (fill_call k T lent_table) (site T T-table) lent_table
  T-start = starts k T-loads T-fills

  pub T-run : CallRun (site T T-table) (map edits T-calls) (site W W-table)
  T-run = answers k T-edited (answers k U-edited empty)

  pub T-kept : Kept lent_table (site T T-table) (map call_of (map edits T-calls)) (site W W-table)
  T-kept = demand-3 (load_call k T) (fill_call k T lent_table) (map edits T-calls) (site T T-table) lent_table (site W W-table) T-start T-independent T-run

  -- so the moves of the two edits are all, and each is traced
  pub T-traced : MovesTraced (map_of T) (change_of T-edit) (move 1 2 1 2 ∷ [])
  T-traced = subst (MovesTraced (map_of T) (change_of T-edit)) T-moved ((first T-kept.each).own.traced (ap (λ (o : EditAnswer). o.number) T-edited))

  pub U-traced : MovesTraced (map_of U) (change_of U-edit) (move 2 0xffff 4 2 ∷ [])
  U-traced =
      subst (MovesTraced (map_of U) (change_of U-edit)) U-moved ((first (after T-edited T-kept.each)).own.traced (ap (λ (o : EditAnswer). o.number) U-edited))
