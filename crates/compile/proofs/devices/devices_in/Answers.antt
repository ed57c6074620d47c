-- `compile::devices::devices_in` meets its contract. Assumes nothing.
use Rattle.std.proofs.Common.{sym, drop, rules}
use Rattle.definitions.specs.States.{drives_in}
use Rattle.keeping.specs.States.{drives-count}
use Rattle.compile.proofs.devices.devices_in.Goals as goal

pub tabled-requires-clause-ranged : goal.tabled-requires-clause-ranged
tabled-requires-clause-ranged c =
    let vs = drop c.args.a c.args.states.now in
    (drives_in c.args.n vs, (sym (drives-count c.args.n vs), λ k h d p. search rules), c.requires.states_value)

pub returns : goal.returns
returns c m e =
    let vs = drop c.args.a c.args.states.now in
    c.tabled.ensures (drives_in c.args.n vs) (sym (drives-count c.args.n vs), λ k h d p. search rules) c.requires.states_value m e
