-- `report::edits::is_edit` meets its contract. Assumes nothing.
use Rattle.std.specs.Prelude.{◌≡◌, refl, Option, None, Some}
use Rattle.std.specs.Option.{is_some}
use Rattle.std.proofs.Common.{◌∙◌}
use Rattle.definitions.specs.declared.Change.{Change}
use Rattle.report.specs.Edits.{is_edit}
use Rattle.report.proofs.edits.is_edit.Goals as goal

-- what a frame asks for
some-edit : (c : Option Change) → is_some c ≡ is_edit c
unfolding is_edit
some-edit (Some e) = refl
some-edit None = refl

pub returns : goal.returns
returns c = c.is_some.ensures ∙ some-edit _
