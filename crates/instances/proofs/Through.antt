-- An instance of demand 3 on a rule with a select through: two cabinets of two drives, one drive in each. The moves of the first edit have
-- causes 02 and 03, the 03 on a cabinet; that of the second has cause 01, in an inner walk. All of it is computed from the definitions.
use mathlib.Core.Path.{◌≡◌, refl, ap, subst}
use mathlib.Core.Bool.{true}
use mathlib.Core.List.{List, [], ◌∷◌, ◌++◌, map}
use Prim.Native.Nat.{ℕ}
use lib.ListN.{replicate}
use Rattle.definitions.specs.Frames.{hex}
use Rattle.definitions.specs.Map.{map_of}
use Rattle.definitions.specs.Edit.{change_of, put, moves_of}
use Rattle.definitions.specs.Load.{load_number}
use Rattle.definitions.specs.Calls.{EditAnswer, independent, fill_of, edit_of}
use Rattle.definitions.specs.Open.{computing}
use Rattle.samples.specs.Samples.{line}
use Rattle.history.specs.Calls.{MovesTraced, Kept}
use Rattle.demands.proofs.Contracts.{EditCall, edits, call_of}
use Rattle.demands.proofs.Demand3.{Start, CallRun, empty, demand-3}
use Rattle.demands.proofs.Instance.{lent_table, lent_space, move, Lending, site, load_call, fill_call, edit_call, starts, answers, first, after}

-- one group; drives 0 and 1 in cabinet 1, drives 2 and 3 in cabinet 2; through 2 cabinets. The edits change the line of drive 2
-- and the weights of what is above it
abbrev pub map_with : List ℕ → ℕ → ℕ → List ℕ
map_with drive-2 root cabinet-2 =
    line 10 0x0000000001
    ++ line 22 0x0100000000000600010000
    ++ line 22 0x0100010000000100010000
    ++ drive-2
    ++ line 22 0x0100030000000400010000
    ++ (hex 10 0x0200000201 ++ line 8 root)
    ++ line 18 0x020001010100000007
    ++ (hex 10 0x0200020101 ++ line 8 cabinet-2)
    ++ line 14 0x03000000010001
    ++ line 14 0x03000000010002
    ++ line 14 0x03000100000000
    ++ line 14 0x03000100000001
    ++ line 14 0x03000200000002
    ++ line 14 0x03000200000003
    ++ line 12 0x040100000000
    ++ line 12 0x040502010000
    ++ line 12 0x040400000000
    ++ line 6 0x050011

-- drive 2 at weight 4, at weight 8, and then at acceptance 0
abbrev pub D : List ℕ
D = map_with (line 22 0x0100020000000400010000) 15 8

abbrev pub E : List ℕ
E = map_with (line 22 0x0100020000000800010000) 19 12

abbrev pub F : List ℕ
F = map_with (line 22 0x0100020000000800000000) 19 12

abbrev pub D-table : List ℕ
D-table = 0x0000 ∷ 0x0003 ∷ 7 ∷ []

abbrev pub E-table : List ℕ
E-table = 0x0002 ∷ 0x0000 ∷ 7 ∷ []

abbrev pub F-table : List ℕ
F-table = 0x0003 ∷ 0x0000 ∷ 7 ∷ []

-- "22000200000008": cabinet 2, which holds drive 2, now wins the draw of place 1, cause 02; place 2 draws it as before, and now it is held,
-- cause 03
abbrev pub D-edit : List ℕ
D-edit = hex 14 0x22000200000008

abbrev pub D-moves : List ℕ
D-moves = line 22 0x1300000000010000000202 ++ line 22 0x1300000000020003000003

-- "21000200000000": drive 2 no longer passes in the inner walk of place 1, which goes on to drive 3, cause 01
abbrev pub E-edit : List ℕ
E-edit = hex 14 0x21000200000000

abbrev pub E-moves : List ℕ
E-moves = line 22 0x1300000000010002000301

pub D-loads : load_number D ≡ 0
unfolding computing
D-loads = refl

pub D-independent : independent (map_of D) ≡ true
unfolding computing
D-independent = refl

pub D-fills : fill_of D lent_table ≡ record { number = 0; places = 2; table = D-table }
unfolding computing
D-fills = refl

pub D-edited : edit_of D D-table D-edit lent_space ≡ record { number = 0; moves = 2; frames = E; table = E-table; space = D-moves }
unfolding computing
D-edited = refl

pub E-edited : edit_of E E-table E-edit lent_space ≡ record { number = 0; moves = 1; frames = F; table = F-table; space = E-moves ++ replicate 23 7 }
unfolding computing
E-edited = refl

pub D-moved : moves_of (map_of D) (put (map_of D) (change_of D-edit)) ≡ move 1 0 2 2 ∷ move 2 3 0 3 ∷ []
unfolding computing
D-moved = refl

pub E-moved : moves_of (map_of E) (put (map_of E) (change_of E-edit)) ≡ move 1 2 3 1 ∷ []
unfolding computing
E-moved = refl

module _ (k : Lending) where
  abbrev pub D-calls : List EditCall
  D-calls = edit_call k D D-table D-edit lent_space ∷ edit_call k E E-table E-edit lent_space ∷ []

  pub D-start : Start (load_call k D) (fill_call k D lent_table) (site D D-table) lent_table
  D-start = starts k D-loads D-fills

  pub D-run : CallRun (site D D-table) (map edits D-calls) (site F F-table)
  D-run = answers k D-edited (answers k E-edited empty)

  pub D-kept : Kept lent_table (site D D-table) (map call_of (map edits D-calls)) (site F F-table)
  D-kept = demand-3 (load_call k D) (fill_call k D lent_table) (map edits D-calls) (site D D-table) lent_table (site F F-table) D-start D-independent D-run

  -- so the moves of the two edits are all, and each is traced
  pub D-traced : MovesTraced (map_of D) (change_of D-edit) (move 1 0 2 2 ∷ move 2 3 0 3 ∷ [])
  D-traced =
      subst (MovesTraced (map_of D) (change_of D-edit)) D-moved ((first D-kept.each).own.traced (ap (λ (o : EditAnswer). o.number) D-edited))

  pub E-traced : MovesTraced (map_of E) (change_of E-edit) (move 1 2 3 1 ∷ [])
  E-traced =
      subst (MovesTraced (map_of E) (change_of E-edit)) E-moved ((first (after D-edited D-kept.each)).own.traced (ap (λ (o : EditAnswer). o.number) E-edited))
