-- An instance of change 7 over the calls, on the map where the ceiling is reached: drive 0 dies and comes back, and both edits move as many places as
-- the ceiling told. All of it is computed from the definitions.
use Rattle.std.specs.Prelude.{Some}
use mathlib.Core.Path.{◌≡◌, refl, sym, ap, ◌∙◌, subst}
use mathlib.Core.Bool.{true}
use mathlib.Core.List.{List, [], ◌∷◌}
use Prim.Native.Nat.{ℕ}
use native.Mathlib.Omega.{arith}
use lib.ListN.{replicate}
use Rattle.definitions.specs.declared.Change.TheVariants.{Acceptance}
use Rattle.definitions.specs.Map.{map_of}
use Rattle.definitions.specs.View.{acceptance_of}
use Rattle.definitions.specs.Edit.{change_of, put, moves_of}
use Rattle.definitions.specs.Load.{load_number}
use Rattle.definitions.specs.Calls.{EditAnswer, CeilingAnswer, independent, fill_of}
use Rattle.definitions.specs.Open.{computing}
use Rattle.sample_ceiling.specs.Reached.{alive, dead, alive-table, dead-table, dies, returns, space, died, returned, ceiling-alive}
use Rattle.history.specs.Ceiling.{Within}
use Rattle.demands.proofs.Contracts.{EditCall, edits, edit_answered, CeilingCall, ceiling_answered}
use Rattle.demands.proofs.Demand3.{Start, empty}
use Rattle.demands.proofs.Ceiling.{lowering-moves, raising-moves}
use Rattle.demands.proofs.Instance.{Lending, site, load_call, fill_call, edit_call, ceiling_call, starts, answers}

-- the table as fill is lent it
abbrev pub lent_table : List ℕ
lent_table = replicate 4 7

pub alive-loads : load_number alive ≡ 0
unfolding computing
alive-loads = refl

pub alive-independent : independent (map_of alive) ≡ true
unfolding computing
alive-independent = refl

pub alive-fills : fill_of alive lent_table ≡ record { number = 0; places = 4; table = alive-table }
unfolding computing
alive-fills = refl

pub dies-is : change_of dies ≡ Some (Acceptance 0 0)
unfolding computing
dies-is = refl

pub returns_is : change_of returns ≡ Some (Acceptance 0 65536)
unfolding computing
returns_is = refl

pub dead-acceptance : acceptance_of (map_of dead) 0 ≡ 0
unfolding computing
dead-acceptance = refl

module _ (k : Lending) where
  pub start : Start (load_call k alive) (fill_call k alive lent_table) (site alive alive-table) lent_table
  start = starts k alive-loads alive-fills

  -- the call for the ceiling, before the drive dies and after it is back
  abbrev pub asked : CeilingCall
  asked = ceiling_call k alive alive-table 0

  abbrev pub dying : EditCall
  dying = edit_call k alive alive-table dies space

  abbrev pub returning : EditCall
  returning = edit_call k dead dead-table returns space

  -- the moves of the first edit are within what was told, 2, and are as many
  pub dying-within : Within 0 (map_of alive) alive-table (moves_of (map_of alive) (put (map_of alive) (Some (Acceptance 0 0)))) space (edit_answered dying) (ceiling_answered asked)
  dying-within =
      lowering-moves (load_call k alive) (fill_call k alive lent_table) [] dying (site alive alive-table) lent_table (site alive alive-table) 0 0 start alive-independent empty refl refl dies-is
      (ap (λ (o : EditAnswer). o.number) died) asked refl refl refl (omega arith)

  pub dying-reaches : (edit_answered dying).moves ≡ (ceiling_answered asked).moves
  dying-reaches = ap (λ (o : EditAnswer). o.moves) died ∙ sym (ap (λ (o : CeilingAnswer). o.moves) ceiling-alive)

  -- and those of the second, behind the first, within what is told with the map and the table that it leaves
  pub returning-within : Within 0 (map_of alive) alive-table (moves_of (map_of dead) (put (map_of dead) (Some (Acceptance 0 65536)))) space (edit_answered returning) (ceiling_answered asked)
  returning-within =
      subst (λ (o : EditAnswer). Within 0 (map_of o.frames) o.table (moves_of (map_of dead) (put (map_of dead) (Some (Acceptance 0 65536)))) space (edit_answered returning) (ceiling_answered asked)) returned
      (raising-moves (load_call k alive) (fill_call k alive lent_table) (edits dying ∷ []) returning (site alive alive-table) lent_table (site dead dead-table) 0 65536 start alive-independent
      (answers k died empty) refl refl returns_is (ap (λ (o : EditAnswer). o.number) returned) asked (sym (ap (λ (o : EditAnswer). o.frames) returned))
      (sym (ap (λ (o : EditAnswer). o.table) returned)) refl (omega (arith, dead-acceptance)))

  pub returning-reaches : (edit_answered returning).moves ≡ (ceiling_answered asked).moves
  returning-reaches = ap (λ (o : EditAnswer). o.moves) returned ∙ sym (ap (λ (o : CeilingAnswer). o.moves) ceiling-alive)
