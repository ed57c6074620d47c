-- By store's own contract. Assumes nothing.
use Rattle.std.proofs.Common.{refl, ap, []}
use Rattle.definitions.specs.Calls.{StoreAnswer}
use Rattle.report.specs.Says.{or-refused, or-done, says_none}
use Rattle.report.proofs.edits.make_store.Goals as goal

pub returns-then-number-ne0 : goal.returns-then-number-ne0
returns-then-number-ne0 c =
    let e = c.store-number.ensures in (
      ap (λ (a : StoreAnswer). a.states) e,
      λ table space. rw (← ap (λ (a : StoreAnswer). a.number) e, or-refused _ [] c.if-number-ne0.true) (record { text-is = refl; within = tt }),
    )

pub returns : goal.returns
returns c =
    let e = c.store-number.ensures in (
      ap (λ (a : StoreAnswer). a.states) e,
      λ table space. rw (← ap (λ (a : StoreAnswer). a.number) e, or-done _ [] c.if-number-ne0.false) (says_none table space),
    )
