-- The byte 10 ends the line, another is one more. Assumes nothing.
use Rattle.std.proofs.Common.{take, refl, sym, ap, ◌∙◌, arith, take_all}
use Rattle.report.specs.Says.{says_none}
use Rattle.report.specs.Edits.{site_of}
use Rattle.report.specs.Kept.{most_kept, keeps-more, byte-other, byte-10, line-none}
use Rattle.report.proofs.edits.on_byte.Goals as goal

pub returns-then-b-ne10 : goal.returns-then-b-ne10
returns-then-b-ne10 c =
    let a = c.args in
    let here = site_of a.map.now a.table.now a.states.now in (
      omega arith,
      λ xs k. rw (byte-other a.p here xs a.b a.space.now c.if-b-ne10.true) (record {
        answers = record { site-is = refl; says = says_none a.table.now a.space.now };
        line = rw c.extend.ensures (keeps-more _ xs _ k);
      }),
    )

pub returns : goal.returns
returns c =
    let a = c.args in
    let here = site_of a.map.now a.table.now a.states.now in
    let e = c.answer-said.ensures in (
      (e c.bytes.result.now (sym (take_all most_kept c.bytes.result.now c.bytes.ensures.most))).says.within,
      λ xs k. rw (byte-10 a.p here xs a.b a.space.now c.if-b-ne10.false) (record {
        answers = e xs (c.bytes.ensures.value ∙ k);
        line = c.clear.ensures ∙ ap (take most_kept) (sym (line-none a.p here xs a.space.now));
      }),
    )
