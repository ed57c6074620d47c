-- An instance of demand 3 on a rule of two blocks over common drives: one drive of cabinet 1, and then one drive in each of two cabinets. The
-- 03s of both edits lead from the second block, where an inner walk meets a drive that is emitted in one run only, to the first, and there to
-- causes 02 and 01. All of it is computed from the definitions.
use mathlib.Core.Path.{◌≡◌, refl, ap, subst}
use mathlib.Core.Bool.{true}
use mathlib.Core.List.{List, [], ◌∷◌, ◌++◌, map}
use Prim.Native.Nat.{ℕ}
use Rattle.definitions.specs.Frames.{hex}
use Rattle.definitions.specs.Map.{map_of}
use Rattle.definitions.specs.Edit.{change_of, put, moves_of}
use Rattle.definitions.specs.Load.{load_number}
use Rattle.definitions.specs.Calls.{EditAnswer, independent, fill_of, edit_of}
use Rattle.definitions.specs.Open.{computing}
use Rattle.samples.specs.Samples.{line}
use Rattle.history.specs.Calls.{MovesTraced, Kept}
use Rattle.demands.proofs.Contracts.{EditCall, edits, call_of}
use Rattle.demands.proofs.Demand3.{Start, CallRun, empty, demand-3}
use Rattle.demands.proofs.Instance.{lent_table, lent_space, move, Lending, site, load_call, fill_call, edit_call, starts, answers, first, after}

-- one group; drives 0, 1 and 2 in cabinet 1, drives 3 and 4 in cabinet 2; a drive of cabinet 1, and through 2 cabinets. The edits change the line
-- of drive 0 and the weights of what is above it
abbrev pub map_with : List ℕ → ℕ → ℕ → List ℕ
map_with drive-0 root cabinet-1 =
    line 10 0x0000000001
    ++ drive-0
    ++ line 22 0x0100010000000200010000
    ++ line 22 0x0100020000000100010000
    ++ line 22 0x0100030000000500010000
    ++ line 22 0x0100040000000700010000
    ++ (hex 10 0x0200000201 ++ line 8 root)
    ++ (hex 10 0x0200010101 ++ line 8 cabinet-1)
    ++ line 18 0x02000201010000000c
    ++ line 14 0x03000000010001
    ++ line 14 0x03000000010002
    ++ line 14 0x03000100000000
    ++ line 14 0x03000100000001
    ++ line 14 0x03000100000002
    ++ line 14 0x03000200000003
    ++ line 14 0x03000200000004
    ++ line 12 0x040100000001
    ++ line 12 0x040301000000
    ++ line 12 0x040400000000
    ++ line 12 0x040100000000
    ++ line 12 0x040502010000
    ++ line 12 0x040400000000
    ++ line 6 0x050016

-- drive 0 at weight 1, at weight 5, and then at acceptance 0
abbrev pub P : List ℕ
P = map_with (line 22 0x0100000000000100010000) 16 4

abbrev pub Q : List ℕ
Q = map_with (line 22 0x0100000000000500010000) 20 8

abbrev pub R : List ℕ
R = map_with (line 22 0x0100000000000500000000) 20 8

abbrev pub P-table : List ℕ
P-table = 0x0002 ∷ 0x0003 ∷ 0x0000 ∷ []

abbrev pub Q-table : List ℕ
Q-table = 0x0000 ∷ 0x0003 ∷ 0x0001 ∷ []

abbrev pub R-table : List ℕ
R-table = 0x0001 ∷ 0x0003 ∷ 0x0002 ∷ []

-- "22000000000005": drive 0 now wins the draw of place 1, cause 02; the inner walk of place 3 draws it as before, and now it is held, cause 03
abbrev pub P-edit : List ℕ
P-edit = hex 14 0x22000000000005

abbrev pub P-moves : List ℕ
P-moves = line 22 0x1300000000010002000002 ++ line 22 0x1300000000030000000103

-- "21000000000000": drive 0 no longer passes for place 1, cause 01; for place 3 it was held and now does not pass, cause 03
abbrev pub Q-edit : List ℕ
Q-edit = hex 14 0x21000000000000

abbrev pub Q-moves : List ℕ
Q-moves = line 22 0x1300000000010000000101 ++ line 22 0x1300000000030001000203

pub P-loads : load_number P ≡ 0
unfolding computing
P-loads = refl

pub P-independent : independent (map_of P) ≡ true
unfolding computing
P-independent = refl

pub P-fills : fill_of P lent_table ≡ record { number = 0; places = 3; table = P-table }
unfolding computing
P-fills = refl

pub P-edited : edit_of P P-table P-edit lent_space ≡ record { number = 0; moves = 2; frames = Q; table = Q-table; space = P-moves }
unfolding computing
P-edited = refl

pub Q-edited : edit_of Q Q-table Q-edit lent_space ≡ record { number = 0; moves = 2; frames = R; table = R-table; space = Q-moves }
unfolding computing
Q-edited = refl

pub P-moved : moves_of (map_of P) (put (map_of P) (change_of P-edit)) ≡ move 1 2 0 2 ∷ move 3 0 1 3 ∷ []
unfolding computing
P-moved = refl

pub Q-moved : moves_of (map_of Q) (put (map_of Q) (change_of Q-edit)) ≡ move 1 0 1 1 ∷ move 3 1 2 3 ∷ []
unfolding computing
Q-moved = refl

module _ (k : Lending) where
  abbrev pub P-calls : List EditCall
  P-calls = edit_call k P P-table P-edit lent_space ∷ edit_call k Q Q-table Q-edit lent_space ∷ []

  pub P-start : Start (load_call k P) (fill_call k P lent_table) (site P P-table) lent_table
  P-start = starts k P-loads P-fills

  pub P-run : CallRun (site P P-table) (map edits P-calls) (site R R-table)
  P-run = answers k P-edited (answers k Q-edited empty)

  pub P-kept : Kept lent_table (site P P-table) (map call_of (map edits P-calls)) (site R R-table)
  P-kept = demand-3 (load_call k P) (fill_call k P lent_table) (map edits P-calls) (site P P-table) lent_table (site R R-table) P-start P-independent P-run

  -- so the moves of the two edits are all, and each is traced
  pub P-traced : MovesTraced (map_of P) (change_of P-edit) (move 1 2 0 2 ∷ move 3 0 1 3 ∷ [])
  P-traced =
      subst (MovesTraced (map_of P) (change_of P-edit)) P-moved ((first P-kept.each).own.traced (ap (λ (o : EditAnswer). o.number) P-edited))

  pub Q-traced : MovesTraced (map_of Q) (change_of Q-edit) (move 1 0 1 1 ∷ move 3 1 2 3 ∷ [])
  Q-traced =
      subst (MovesTraced (map_of Q) (change_of Q-edit)) Q-moved ((first (after P-edited P-kept.each)).own.traced (ap (λ (o : EditAnswer). o.number) Q-edited))
