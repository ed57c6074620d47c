-- `blocks::standing::in_blocks` meets its contract. The invariant: where the rule stands after k steps. Assumes nothing.
use Rattle.std.proofs.Common.{◌≡◌, sym, ap, ◌∙◌, ◌<◌, refl, ⊎_elim, length, arith}
use Rattle.definitions.specs.Map.{map_of}
use Rattle.definitions.specs.Load.{stand, standing, is_outside}
use Rattle.blocks.specs.Actions.{action-ranged}
use Rattle.blocks.specs.Standing.{standing-next, steps-none, steps-many, steps-some}
use Rattle.blocks.proofs.standing.in_blocks.Goals as goal

pub returns-then-n-eq0 : goal.returns-then-n-eq0
returns-then-n-eq0 c =
    let m = map_of c.args.t.now in
    ⊎_elim (λ e. sym (steps-none m (omega (arith, e, c.count-n.ensures)))) (λ e. sym (steps-many m (omega (arith, e, c.count-n.ensures)))) c.then-n-eq0.either

pub loop-k-init : goal.loop-k-init
unfolding standing
loop-k-init c = refl

pub stand-st-requires : goal.stand-st-requires
stand-st-requires c =
    let inside : c.loop-k.k < length (map_of c.args.t.now).steps = omega (arith, c.count-n.ensures) in
    (c.requires.types_len.0, action-ranged (map_of c.args.t.now) c.loop-k.k _ c.requires.ranged inside c.action.ensures)

pub loop-k-preserved : goal.loop-k-preserved
loop-k-preserved c =
    let m = map_of c.args.t.now in
    c.stand-st.ensures m c.requires.types_len.1 ∙ ap (stand m c.loop-k.st) c.action.ensures ∙ standing-next m c.loop-k.k c.loop-k.st c.loop-k.invariant

pub returns : goal.returns
returns c =
    let m = map_of c.args.t.now in
    let e : c.loop-k.k ≡ length m.steps = omega (arith, c.count-n.ensures) in
    c.is_outside.ensures ∙ ap is_outside (c.loop-k.invariant ∙ ap (standing m) e) ∙ sym (steps-some m (omega (arith, c.count-n.ensures)) (omega (arith, c.count-n.ensures)))
