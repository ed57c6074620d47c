-- Document 01, "Samples": map M with one edit is an instance of demand 3, and M with a first-n select one of what stands beside it. All
-- of it is computed from the definitions.
use mathlib.Core.Path.{◌≡◌, refl}
use mathlib.Core.Bool.{true, false}
use mathlib.Core.List.{List, [], ◌∷◌, ◌++◌, map}
use Prim.Native.Nat.{ℕ}
use Rattle.definitions.specs.Frames.{hex}
use Rattle.definitions.specs.Map.{map_of}
use Rattle.definitions.specs.Load.{load_number}
use Rattle.definitions.specs.Calls.{independent, fill_of, edit_of}
use Rattle.definitions.specs.Open.{computing}
use Rattle.samples.specs.Samples.{M, line}
use Rattle.history.specs.Calls.{Kept}
use Rattle.history.specs.FirstN.{Unaltered}
use Rattle.demands.proofs.Contracts.{EditCall, edits, call_of, edit_answered}
use Rattle.demands.proofs.Demand3.{Start, CallRun, empty, demand-3, first-n-refused}
use Rattle.demands.proofs.Instance.{lent_space, Lending, site, load_call, fill_call, edit_call, starts, answers}

-- a table of four places, as it is lent
abbrev pub lent_table : List ℕ
lent_table = 7 ∷ 7 ∷ 7 ∷ 7 ∷ []

-- "11000000000000ffff", "11000000010000ffff": the table that fill leaves
abbrev pub M-table : List ℕ
M-table = 0x0000 ∷ 0xffff ∷ 0x0000 ∷ 0xffff ∷ []

-- "21000000000000"
abbrev pub M-edit : List ℕ
M-edit = hex 14 0x21000000000000

-- "1300000000010000ffff01", "1300000001010000ffff01": the moves
abbrev pub M-moves : List ℕ
M-moves = line 22 0x1300000000010000ffff01 ++ line 22 0x1300000001010000ffff01

-- M with acceptance 0, and its table
abbrev pub M' : List ℕ
M' =
    line 10 0x0000000002
    ++ line 22 0x0100000000000100000000
    ++ line 18 0x020000010100000001
    ++ line 14 0x03000000000000
    ++ line 12 0x040100000000
    ++ line 12 0x040302000000
    ++ line 12 0x040400000000
    ++ line 6 0x050007

abbrev pub M'-table : List ℕ
M'-table = 0xffff ∷ 0xffff ∷ 0xffff ∷ 0xffff ∷ []

pub M-loads : load_number M ≡ 0
unfolding computing
M-loads = refl

pub M-independent : independent (map_of M) ≡ true
unfolding computing
M-independent = refl

pub M-fills : fill_of M lent_table ≡ record { number = 0; places = 4; table = M-table }
unfolding computing
M-fills = refl

pub M-edited : edit_of M M-table M-edit lent_space ≡ record { number = 0; moves = 2; frames = M'; table = M'-table; space = M-moves }
unfolding computing
M-edited = refl

-- but for its moves; so that what rests on the rest does not rest on them
M-left : edit_of M M-table M-edit lent_space
    ≡ record { number = 0; moves = 2; frames = M'; table = M'-table; space = (edit_of M M-table M-edit lent_space).space }
unfolding computing
M-left = refl

-- M with a first-n select; its table is that of M
abbrev pub F : List ℕ
F =
    line 10 0x0000000002
    ++ line 22 0x0100000000000100010000
    ++ line 18 0x020000010100000001
    ++ line 14 0x03000000000000
    ++ line 12 0x040100000000
    ++ line 12 0x040202000000
    ++ line 12 0x040400000000
    ++ line 6 0x050007

pub F-loads : load_number F ≡ 0
unfolding computing
F-loads = refl

pub F-first-n : independent (map_of F) ≡ false
unfolding computing
F-first-n = refl

pub F-fills : fill_of F lent_table ≡ record { number = 0; places = 4; table = M-table }
unfolding computing
F-fills = refl

pub F-edited : edit_of F M-table M-edit lent_space ≡ record { number = 17; moves = 0; frames = F; table = M-table; space = lent_space }
unfolding computing
F-edited = refl

module _ (k : Lending) where
  -- the calls of M: load, fill, and edit
  abbrev pub M-call : EditCall
  M-call = edit_call k M M-table M-edit lent_space

  pub M-start : Start (load_call k M) (fill_call k M lent_table) (site M M-table) lent_table
  M-start = starts k M-loads M-fills

  -- number 0, two moves, their bytes, and four holes
  pub M-answered : edit_answered M-call ≡ record { number = 0; moves = 2; frames = M'; table = M'-table; space = M-moves }
  unfolding computing
  M-answered = refl

  pub M-run : CallRun (site M M-table) (map edits (M-call ∷ [])) (site M' M'-table)
  M-run = answers k M-left empty

  pub M-kept : Kept lent_table (site M M-table) (map call_of (map edits (M-call ∷ []))) (site M' M'-table)
  M-kept = demand-3 (load_call k M) (fill_call k M lent_table) (map edits (M-call ∷ [])) (site M M-table) lent_table (site M' M'-table) M-start M-independent M-run

  -- and those of M with a first-n select
  abbrev pub F-call : EditCall
  F-call = edit_call k F M-table M-edit lent_space

  pub F-start : Start (load_call k F) (fill_call k F lent_table) (site F M-table) lent_table
  F-start = starts k F-loads F-fills

  pub F-run : CallRun (site F M-table) (map edits (F-call ∷ [])) (site F M-table)
  F-run = answers k F-edited empty

  pub F-unaltered : Unaltered (site F M-table) (map call_of (map edits (F-call ∷ []))) (site F M-table)
  F-unaltered = first-n-refused (load_call k F) (fill_call k F lent_table) (map edits (F-call ∷ [])) (site F M-table) lent_table (site F M-table) F-start F-first-n F-run
