-- `placement::select::select` meets its contract: what is true of the select that the definition makes is true of this one. Assumes nothing.
use Rattle.std.proofs.Common.{◌≡◌, sym, subst, take}
use borrow.Author.Rules.{rules}
use Rattle.definitions.specs.Load.{reaches}
use Rattle.laws.specs.Members.{Each}
use Rattle.hierarchy.specs.Arrays.{view_in}
use Rattle.placement.specs.Bare.{Bare, bare_select}
use Rattle.placement.specs.Chosen.{bare_in}
use Rattle.placement.specs.Working.{Entry, select-entries}
use Rattle.placement.proofs.select.select.Goals as goal

pub returns-clause-entries : goal.returns-clause-entries
returns-clause-entries c =
    let a = c.args in
    let s = a.wanted in
    let w = take a.len a.working in
    let q : bare_in c.in-Ok.d ≡ bare_select (view_in a.plan.now a.values.now) a.x s.mode s.n s.t a.before.now w = search rules in
    subst (λ (b : Bare). Each (Entry a.plan.now (reaches s.mode s.t)) b.entries) (sym q)
    (select-entries (rw c.plan.view_is at c.plan.invariant) a.values.now a.x s.mode s.n s.t a.before.now w)
