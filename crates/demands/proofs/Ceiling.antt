-- Document 02, change 7, "How much will a dead drive move?", over the contracts of load, fill, edit and ceiling: at any point of a list of calls
-- from the map and the table as load and fill leave them.
use Rattle.std.specs.Prelude.{Some}
use mathlib.Core.Path.{◌≡◌, ap, ◌∙◌}
use mathlib.Core.Bool.{true}
use mathlib.Core.List.{List}
use Prim.Native.Nat.{ℕ, ◌≤◌}
use Rattle.definitions.specs.declared.Change.TheVariants.{Acceptance}
use Rattle.definitions.specs.Map.{map_of}
use Rattle.definitions.specs.View.{acceptance_of}
use Rattle.definitions.specs.Edit.{change_of, put, moves_of}
use Rattle.definitions.specs.Calls.{independent, ceiling_of}
use Rattle.history.specs.Step.{Standing}
use Rattle.history.specs.Ceiling.{Within, lowering, raising}
use Rattle.history.specs.Calls.{Site, map_at}
use Rattle.history.proofs.Calls.{stands-all}
use Rattle.demands.proofs.Contracts.{LoadCall, FillCall, EditCall, edit_frames, edit_table, edit_frame, edit_space, edit_answered, AnyCall, CeilingCall, ceiling_frames, ceiling_table, ceiling_device, ceiling_answered}
use Rattle.demands.proofs.Demand3.{Start, CallRun, start-stands, edit-answers, runs}

-- what ceiling's contract says of a call
ceiling-answers : (k : CeilingCall) (frames table : List ℕ) (d : ℕ) → ceiling_frames k ≡ frames → ceiling_table k ≡ table → ceiling_device k ≡ d
    → ceiling_answered k ≡ ceiling_of frames table d
ceiling-answers k frames table d p q r =
    let o : ceiling_answered k ≡ ceiling_of (ceiling_frames k) (ceiling_table k) (ceiling_device k) = k.holds in
    o
    ∙ ap (λ (x : List ℕ). ceiling_of x (ceiling_table k) (ceiling_device k)) p
    ∙ ap (λ (x : List ℕ). ceiling_of frames x (ceiling_device k)) q
    ∙ ap (ceiling_of frames table) r

-- the calls cs were made, and left frames and table; c is the next call of edit, of the acceptance of device d, and it is good
module _ (l : LoadCall) (f : FillCall) (cs : List AnyCall) (c : EditCall) (s₀ : Site) (rest : List ℕ) (s₁ : Site) (d a : ℕ)
    (s : Start l f s₀ rest) (i : independent (map_at s₀) ≡ true) (r : CallRun s₀ cs s₁)
    (p : edit_frames c ≡ s₁.frames) (q : edit_table c ≡ s₁.table) (e : change_of (edit_frame c) ≡ Some (Acceptance d a)) (z : (edit_answered c).number ≡ 0) where
  abbrev frames : List ℕ
  frames = s₁.frames

  abbrev table : List ℕ
  table = s₁.table

  standing : Standing rest frames table
  standing = (stands-all rest (start-stands l f s₀ rest s i) (runs r)).site

  -- LOWERING: the ceiling was told of that device with the map and the table that edit was lent. The moves that edit wrote are of groups whose
  -- row of that table holds the device, and their number is at most W times that of those rows, which the ceiling told.
  pub lowering-moves : (k : CeilingCall) → ceiling_frames k ≡ frames → ceiling_table k ≡ table → ceiling_device k ≡ d → a ≤ acceptance_of (map_of frames) d
      → Within d (map_of frames) table (moves_of (map_of frames) (put (map_of frames) (Some (Acceptance d a)))) (edit_space c) (edit_answered c) (ceiling_answered k)
  lowering-moves k u v w h =
      rw (ceiling-answers k frames table d u v w) (lowering rest frames table (edit_frame c) (edit_space c) (edit_answered c) standing (edit-answers c frames table p q) z d a e h)

  -- RAISING: the same of the map and the table that edit left
  pub raising-moves : (k : CeilingCall) → ceiling_frames k ≡ (edit_answered c).frames → ceiling_table k ≡ (edit_answered c).table → ceiling_device k ≡ d
      → acceptance_of (map_of frames) d ≤ a
      → Within d (map_of (edit_answered c).frames) (edit_answered c).table (moves_of (map_of frames) (put (map_of frames) (Some (Acceptance d a)))) (edit_space c) (edit_answered c) (ceiling_answered k)
  raising-moves k u v w h =
      rw (ceiling-answers k (edit_answered c).frames (edit_answered c).table d u v w)
      (raising rest frames table (edit_frame c) (edit_space c) (edit_answered c) standing (edit-answers c frames table p q) z d a e h)
