-- `survey::looks::together` meets its contract. Assumes nothing.
use Rattle.std.specs.Prelude.{◌≡◌, refl, Bool, true, false, List, ℕ, IfSome}
use Rattle.std.specs.Bool.{then_some}
use Rattle.std.proofs.Common.{rules, replicate}
use Rattle.survey.specs.Places.{row-taken}
use Rattle.survey.proofs.looks.together.Goals as goal

some_of : (P : List ℕ → Type 0) (b : Bool) (row : List ℕ) → (b ≡ true → P row) → IfSome (then_some b row) P
some_of P true row f = f refl
some_of P false row f = tt

pub returns : goal.returns
returns c =
    let a = c.args in
    rw c.then_some.ensures
    (some_of _ c.place_both.result _ (λ e.
    let (o, n) = c.place_both.ensures e in (
      row-taken a.plan.now a.old.now a.rule a.w a.x _ (replicate 32 0) c.requires.0.3 (search rules) o,
      row-taken a.plan.now a.new.now a.rule a.w a.x _ (replicate 32 0) c.requires.0.3 (search rules) n,
    )))
