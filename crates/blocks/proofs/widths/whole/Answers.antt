-- `blocks::widths::whole` meets its contract. The invariant: from here the actions that are left come to the whole, and each so far added 33 at most.
-- Assumes nothing.
use Rattle.std.proofs.Common.{sym, ap, ◌∙◌, ◌<◌, length, get_or, arith}
use Rattle.definitions.specs.declared.Action.TheVariants.{Idle}
use Rattle.definitions.specs.Map.{map_of, actions_of}
use Rattle.laws.specs.Blocks.{length-actions}
use Rattle.blocks.specs.declared.widths.Tally.{Tally}
use Rattle.blocks.specs.Actions.{action-ranged}
use Rattle.blocks.specs.Widths.{widened, widened-next, widened-end, widened_small, whole_is}
use Rattle.blocks.proofs.widths.whole.Goals as goal

pub widened-w-requires : goal.widened-w-requires
widened-w-requires c =
    let inside : c.loop-k.k < length (map_of c.args.t.now).steps = omega (arith, c.count-k-end.ensures) in
    (omega (arith, c.requires.t_len_bound), action-ranged (map_of c.args.t.now) c.loop-k.k _ c.requires.ranged inside c.action.ensures)

pub loop-k-preserved : goal.loop-k-preserved
loop-k-preserved c =
    let m = map_of c.args.t.now in
    rw (c.widened-w.ensures ∙ ap (widened c.loop-k.w) c.action.ensures) (
      omega (arith, widened_small c.loop-k.w (get_or (actions_of m) c.loop-k.k Idle)),
      widened-next c.loop-k.w (actions_of m) c.loop-k.k (omega (arith, c.count-k-end.ensures, length-actions m)) ∙ c.loop-k.invariant.1,
    )

pub returns : goal.returns
returns c =
    let m = map_of c.args.t.now in
    let e = widened-end c.loop-k.w (actions_of m) c.loop-k.k (omega (arith, c.count-k-end.ensures, length-actions m)) in
    whole_is m c.loop-k.w.whole c.requires.ranged (ap (λ (w : Tally). w.whole) (sym c.loop-k.invariant.1 ∙ e))
