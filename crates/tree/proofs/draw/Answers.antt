-- `tree::draw` meets its contract. Assumes nothing.
use Rattle.std.proofs.Common.{◌≡◌, sym, ◌∙◌, arith, rules}
use Rattle.hierarchy.specs.Sums.{total_in}
use Rattle.tree.specs.Walking.{some-weigh, draw-none, draw-inside, draw-won}
use Rattle.tree.proofs.draw.Goals as goal

pub returns-then-total-eq0 : goal.returns-then-total-eq0
returns-then-total-eq0 c =
    let a = c.args in
    let q = a.q in
    let e : c.unwrap_or-total.result ≡ total_in c.args.sums.now = search rules in
    draw-none q.seed q.x q.r q.item a.sums.now a.items.now c.requires.1 (sym e ∙ c.if-total-eq0.true)

pub leaf-k-requires : goal.leaf-k-requires
leaf-k-requires c =
    let e : c.unwrap_or-total.result ≡ total_in c.args.sums.now = search rules in
    (some-weigh c.args.sums.now (λ z. c.if-total-eq0.false (e ∙ z)), omega arith, e)

pub offset_bounds-items-k : goal.offset_bounds-items-k
offset_bounds-items-k c =
    let a = c.args in
    let q = a.q in
    let e : c.unwrap_or-total.result ≡ total_in c.args.sums.now = search rules in
    omega (
      arith,
      draw-inside q.seed q.x q.r q.item a.sums.now a.items.now c.requires.1 (λ z. c.if-total-eq0.false (e ∙ z)) c.leaf-k.result c.leaf-k.ensures,
    )

pub bounds-items-k : goal.bounds-items-k
bounds-items-k c =
    let a = c.args in
    let q = a.q in
    let e : c.unwrap_or-total.result ≡ total_in c.args.sums.now = search rules in
    draw-inside q.seed q.x q.r q.item a.sums.now a.items.now c.requires.1 (λ z. c.if-total-eq0.false (e ∙ z)) c.leaf-k.result c.leaf-k.ensures

pub returns : goal.returns
returns c =
    let a = c.args in
    let q = a.q in
    let e : c.unwrap_or-total.result ≡ total_in c.args.sums.now = search rules in
    draw-won q.seed q.x q.r q.item a.sums.now a.items.now c.requires.1 (λ z. c.if-total-eq0.false (e ∙ z)) c.leaf-k.result c.leaf-k.ensures
