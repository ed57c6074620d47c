-- `causes::held_by` meets its contract: the items stand behind what the run has emitted. Assumes nothing.
use Rattle.std.proofs.Common.{◌≡◌, sym, ap, ap₂, ◌∙◌, List, ◌++◌, ℕ, ◌+◌, ◌≤◌, length, take, take-take, length-take-le, arith}
use borrow.Author.Rules.{rules}
use Rattle.std.proofs.Math.Seq.{take-append-add}
use Rattle.std.proofs.lemmas.Slice.{take-put_mid}
use Rattle.placement.specs.Chosen.{held-list}
use Rattle.causes.proofs.held_by.Goals as goal

-- the first of what is held, from the whole
held_first : (before held items : List ℕ) (a m k : ℕ) → length before ≡ a → k ≤ m → take (a + m) held ≡ before ++ items → take (a + k) held ≡ before ++ take k items
held_first before held items a m k l h e = sym (take-take (a + k) (a + m) held (omega arith)) ∙ ap (take (a + k)) e ∙ rw (← l) (take-append-add before items k)

pub returns : goal.returns
returns c k h =
    let p = c.args.from in
    let e = p.emitted in
    let w : length p.list ≡ 32 = search rules in
    let l : e ≤ length p.list = omega (arith, w, c.requires) in
    let f = c.held_from-held in
    let lf : length f.result ≡ 48 = search rules in
    let same : c.copy_from_slice.new.self ≡ c.args.to.items = c.copy_from_slice.ensures.after in
    let li : length c.args.to.items ≡ 16 = search rules in
    held_first (take e p.list) _ c.args.to.items e 16 k (length-take-le e p.list l) h
    (take-put_mid e _ f.result c.copy_from_slice.new.self (e + 16) (omega (arith, ap length same, li)) (omega (arith, lf, c.requires))
    ∙ ap₂ ◌++◌ (held-list p.list e f.result l f.ensures) same)
