-- `tree::top` meets its contract. Assumes nothing.
use Rattle.tree.specs.Walking.{root-label}
use Rattle.tree.proofs.top.Goals as goal

pub returns : goal.returns
returns c = let e = c.next_power_of_two.ensures in root-label c.args.n c.next_power_of_two.result e.power e.lower_bound e.upper_bound
