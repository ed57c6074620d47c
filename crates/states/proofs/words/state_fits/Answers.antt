-- `states::words::state_fits` meets its contract. Assumes nothing.
use mathlib.Core.Path.{sym, ◌∙◌}
use lib.ListN.{length}
use Rattle.states.specs.Words.{name-stop, name-fits}
use Rattle.states.proofs.words.state_fits.Goals as goal

pub returns-then-s-a-gt65535 : goal.returns-then-s-a-gt65535
returns-then-s-a-gt65535 c = sym (name-stop c.args.own.now c.args.s.now (length c.args.own.now) c.args.a c.if-s-a-gt65535.true)

pub returns : goal.returns
returns c = c.drives_fit.ensures ∙ name-fits c.args.own.now c.args.s.now (length c.args.own.now) c.args.a c.if-s-a-gt65535.false
