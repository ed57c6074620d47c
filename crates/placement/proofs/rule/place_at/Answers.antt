-- `placement::rule::place_at` meets its contract. Assumes nothing.
use mathlib.Core.Path.{sym}
use lib.ListN.{get_or-eq_default}
use Rattle.definitions.specs.Walk.{hole}
use Rattle.laws.specs.Members.{each_at}
use Rattle.placement.specs.Entries.{same_at}
use Rattle.placement.specs.Working.{Small}
use Rattle.placement.proofs.rule.place_at.Goals as goal

pub overflow_cast-result : goal.overflow_cast-result
overflow_cast-result c =
    record { fits = each_at Small c.args.list.now c.args.i 0 c.requires c.if-i-list.true }

pub returns-then-i-list : goal.returns-then-i-list
returns-then-i-list c = same_at c.args.list.now c.args.i 0 hole c.if-i-list.true

pub returns : goal.returns
returns c = sym (get_or-eq_default c.args.list.now hole c.if-i-list.false)
