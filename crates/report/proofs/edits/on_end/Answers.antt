-- A line of no bytes is none. Assumes nothing.
use Rattle.std.proofs.Common.{◌≡◌, length, refl, sym, ◌∙◌, arith, eqb-true, eq-eqb, take_all}
use Rattle.std.proofs.lemmas.Bool.{false≢true}
use Rattle.report.specs.Says.{says_none}
use Rattle.report.specs.Edits.{site_of}
use Rattle.report.specs.Kept.{most_kept, keeps-none, keeps-empty, end_none, end-some}
use Rattle.report.proofs.edits.on_end.Goals as goal

pub returns-then-is_empty : goal.returns-then-is_empty
returns-then-is_empty c =
    let a = c.args in
    let here = site_of a.map.now a.table.now a.states.now in
    let none : length c.bytes-bytes.result.now ≡ 0 = eqb-true _ 0 (sym c.is_empty.ensures ∙ c.if-is_empty.true) in (
      omega arith,
      λ xs k. rw (end_none a.p here xs a.space.now (keeps-none _ xs (c.bytes-bytes.ensures.value ∙ k) none))
          (record { site-is = refl; says = says_none a.table.now a.space.now }),
    )

pub returns : goal.returns
returns c =
    let a = c.args in
    let l = c.bytes-bytes in
    let here = site_of a.map.now a.table.now a.states.now in (
      (c.answer.ensures l.result.now (sym (take_all most_kept l.result.now l.ensures.most))).says.within,
      λ xs k.
          let kept = l.ensures.value ∙ k in
          rw (end-some a.p here xs a.space.now (λ e. false≢true (sym c.if-is_empty.false ∙ c.is_empty.ensures ∙ eq-eqb _ 0 (keeps-empty _ xs kept e)))) (c.answer.ensures xs kept),
    )
