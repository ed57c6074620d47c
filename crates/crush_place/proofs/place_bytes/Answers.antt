-- `crush_place::place_bytes` meets its contract: the list, and then its bytes. Assumes nothing.
use Rattle.std.proofs.Common.{List, ℕ, ap, ◌∙◌}
use Rattle.definitions.specs.Lists.{over}
use Rattle.definitions.specs.Writing.{two_bytes}
use Rattle.crush_place.proofs.place_bytes.Goals as goal

pub returns : goal.returns
returns c = (
  c.put_bytes.ensures ∙ ap (λ (l : List ℕ). over (two_bytes l) c.args.out.now) c.place_into-tries.ensures.0,
  c.place_into-tries.ensures.1,
)
