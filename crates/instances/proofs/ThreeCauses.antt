-- An instance of demand 3 in which one list of edits has moves with each of the three causes, and a refused edit between two good ones. All
-- of it is computed from the definitions.
use mathlib.Core.Path.{◌≡◌, refl, ap, subst}
use mathlib.Core.Bool.{true}
use mathlib.Core.List.{List, [], ◌∷◌, ◌++◌, map}
use Prim.Native.Nat.{ℕ}
use Rattle.definitions.specs.Frames.{hex}
use Rattle.definitions.specs.Map.{map_of}
use Rattle.definitions.specs.Edit.{change_of, put, moves_of}
use Rattle.definitions.specs.Load.{load_number}
use Rattle.definitions.specs.Calls.{EditAnswer, independent, fill_of, edit_of}
use Rattle.definitions.specs.Open.{computing}
use Rattle.samples.specs.Samples.{line}
use Rattle.history.specs.Calls.{MovesTraced, Kept}
use Rattle.demands.proofs.Contracts.{EditCall, edits, call_of}
use Rattle.demands.proofs.Demand3.{Start, CallRun, empty, demand-3}
use Rattle.demands.proofs.Instance.{lent_table, lent_space, move, Lending, site, load_call, fill_call, edit_call, starts, answers, first, after}

-- one group, three drives in one bucket, two places; the edits change the line of drive 1 and the weight of the bucket
abbrev pub map_with : List ℕ → ℕ → List ℕ
map_with drive-1 weight =
    line 10 0x0000000001
    ++ line 22 0x0100000000000300010000
    ++ drive-1
    ++ line 22 0x0100020000000200010000
    ++ (hex 10 0x0200000101 ++ line 8 weight)
    ++ line 14 0x03000000000000
    ++ line 14 0x03000000000001
    ++ line 14 0x03000000000002
    ++ line 12 0x040100000000
    ++ line 12 0x040302000000
    ++ line 12 0x040400000000
    ++ line 6 0x05000b

-- drive 1 at weight 2, at weight 6, and then at acceptance 0
abbrev pub A : List ℕ
A = map_with (line 22 0x0100010000000200010000) 7

abbrev pub B : List ℕ
B = map_with (line 22 0x0100010000000600010000) 11

abbrev pub C : List ℕ
C = map_with (line 22 0x0100010000000600000000) 11

-- the tables of the three maps
abbrev pub A-table : List ℕ
A-table = 0x0002 ∷ 0x0001 ∷ 7 ∷ []

abbrev pub B-table : List ℕ
B-table = 0x0001 ∷ 0x0000 ∷ 7 ∷ []

abbrev pub C-table : List ℕ
C-table = 0x0000 ∷ 0x0002 ∷ 7 ∷ []

-- "22000100000006": drive 1 now wins the draw of place 1, cause 02; place 2 draws it as before, and now it is held, cause 03
abbrev pub A-edit : List ℕ
A-edit = hex 14 0x22000100000006

abbrev pub A-moves : List ℕ
A-moves = line 22 0x1300000000010002000102 ++ line 22 0x1300000000020001000003

-- "22000300000001": there is no drive 3
abbrev pub absent : List ℕ
absent = hex 14 0x22000300000001

-- "21000100000000": drive 1 no longer passes at place 1, cause 01; at place 2 it was held, and now is not accepted: "Where 01 and 03 both
-- apply, 03."
abbrev pub B-edit : List ℕ
B-edit = hex 14 0x21000100000000

abbrev pub B-moves : List ℕ
B-moves = line 22 0x1300000000010001000001 ++ line 22 0x1300000000020000000203

pub A-loads : load_number A ≡ 0
unfolding computing
A-loads = refl

pub A-independent : independent (map_of A) ≡ true
unfolding computing
A-independent = refl

pub A-fills : fill_of A lent_table ≡ record { number = 0; places = 2; table = A-table }
unfolding computing
A-fills = refl

pub A-edited : edit_of A A-table A-edit lent_space ≡ record { number = 0; moves = 2; frames = B; table = B-table; space = A-moves }
unfolding computing
A-edited = refl

pub B-refused : edit_of B B-table absent lent_space ≡ record { number = 18; moves = 0; frames = B; table = B-table; space = lent_space }
unfolding computing
B-refused = refl

pub B-edited : edit_of B B-table B-edit lent_space ≡ record { number = 0; moves = 2; frames = C; table = C-table; space = B-moves }
unfolding computing
B-edited = refl

pub A-moved : moves_of (map_of A) (put (map_of A) (change_of A-edit)) ≡ move 1 2 1 2 ∷ move 2 1 0 3 ∷ []
unfolding computing
A-moved = refl

pub B-moved : moves_of (map_of B) (put (map_of B) (change_of B-edit)) ≡ move 1 1 0 1 ∷ move 2 0 2 3 ∷ []
unfolding computing
B-moved = refl

module _ (k : Lending) where
  abbrev pub A-calls : List EditCall
  A-calls = edit_call k A A-table A-edit lent_space ∷ edit_call k B B-table absent lent_space ∷ edit_call k B B-table B-edit lent_space ∷ []

  pub A-start : Start (load_call k A) (fill_call k A lent_table) (site A A-table) lent_table
  A-start = starts k A-loads A-fills

  pub A-run : CallRun (site A A-table) (map edits A-calls) (site C C-table)
  A-run = answers k A-edited (answers k B-refused (answers k B-edited empty))

  pub A-kept : Kept lent_table (site A A-table) (map call_of (map edits A-calls)) (site C C-table)
  A-kept = demand-3 (load_call k A) (fill_call k A lent_table) (map edits A-calls) (site A A-table) lent_table (site C C-table) A-start A-independent A-run

  -- so the moves of the two good edits, which have causes 02 and 03, and 01 and 03, are all, and each is traced
  pub A-traced : MovesTraced (map_of A) (change_of A-edit) (move 1 2 1 2 ∷ move 2 1 0 3 ∷ [])
  A-traced =
      subst (MovesTraced (map_of A) (change_of A-edit)) A-moved ((first A-kept.each).own.traced (ap (λ (o : EditAnswer). o.number) A-edited))

  pub B-traced : MovesTraced (map_of B) (change_of B-edit) (move 1 1 0 1 ∷ move 2 0 2 3 ∷ [])
  B-traced =
      subst (MovesTraced (map_of B) (change_of B-edit)) B-moved
      ((first (after B-refused (after A-edited A-kept.each))).own.traced (ap (λ (o : EditAnswer). o.number) B-edited))
