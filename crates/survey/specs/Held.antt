-- The ceiling's law by the code's own places: where every move is of a group that holds a device, the rows without it have no moves. Assumes
-- nothing.
use Rattle.std.specs.Prelude.{◌≡◌, true, false, ℕ, ◌<◌}
use Rattle.std.proofs.Common.{sym, ◌∙◌, subst}
use Rattle.std.proofs.Math.Path.{ap}
use Rattle.std.proofs.Math.Bool.{false≢true}
use mathlib.Core.List.{List, [], Memᴰ}
use Rattle.definitions.specs.declared.Move.{Move}
use Rattle.definitions.specs.Lists.{has}
use Rattle.definitions.specs.Map.{Map}
use Rattle.definitions.specs.Select.{Place, entries_of}
use Rattle.definitions.specs.Rule.{placed_of}
use Rattle.definitions.specs.Table.{row_in}
use Rattle.definitions.specs.Edit.{moves_of}
use Rattle.definitions.specs.Ceiling.{holds}
use Rattle.tracing.specs.Moves.{row_move_lem}
use Rattle.ceiling.specs.Ceiling.{none}
use Rattle.hierarchy.specs.declared.Rule.{Rule}
use Rattle.survey.specs.declared.looks.Reach.TheVariants.{Before, After}
use Rattle.survey.specs.Places.{places_at, moves_at, Within}
use Rattle.survey.specs.Surveyed.{moves-among}
use Rattle.survey.specs.Between.{Between, Gives, gives, gives', moves-are}

module _ {plan old new : List ℕ} {rule : Rule} {groups w : ℕ} (m m' : Map) (B : Between plan old new rule groups w m m') (d : ℕ) where
  -- every move is of a group whose list on map h holds the device
  abbrev AllHeld : Map → Type 0
  AllHeld h = (v : Move) → Memᴰ v (moves_of m m') → holds d (placed_of h v.group) ≡ true

  not-held : (h : Map) (f : ℕ → List Place) → Gives h f → AllHeld h → (g : ℕ) → g < groups → has d (entries_of (f g)) ≡ false → moves_at plan old new rule w g ≡ []
  unfolding holds row_in
  not-held h f is held g l e =
      none (moves_at plan old new rule w g) (λ v i.
      let (j, k, q, o) = row_move_lem g (places_at plan old rule w g) (places_at plan new rule w g) w v i in
      let t = held v (subst (Memᴰ v) (moves-are m m' B) (moves-among w _ _ groups g v l i)) in
      false≢true (sym e ∙ ap (λ (ps : List Place). has d (entries_of ps)) (is g) ∙ ap (λ (x : ℕ). holds d (placed_of h x)) (sym (ap (λ (y : Move). y.group) q)) ∙ t))

  pub held-before : AllHeld m → (g : ℕ) → g < groups → Within (Before d) plan old new rule w g
  held-before = not-held m (places_at plan old rule w) (gives m m' B)

  pub held_after : AllHeld m' → (g : ℕ) → g < groups → Within (After d) plan old new rule w g
  held_after = not-held m' (places_at plan new rule w) (gives' m m' B)
