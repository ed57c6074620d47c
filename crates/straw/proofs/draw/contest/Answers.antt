-- `straw::draw::contest` meets its contract. The invariant: neither the guard nor a child so far comes before the leader. Assumes nothing.
use Rattle.std.specs.Prelude.{Some}
use Rattle.std.proofs.Common.{◌≡◌, ℕ, ◌+◌, refl, sym, ◌∙◌, subst, arith, length, get_or}
use Rattle.definitions.specs.Straw.{cost, drawn_of}
use Rattle.straw.specs.Guard.{Ahead, key_at, hashed-key, guard-first, ahead-spared, ahead-guard, ahead-won, ahead-lost, ahead-all}
use Rattle.straw.proofs.draw.contest.Goals as goal
use Rattle.straw.proofs.draw.contest.Goals.{then-i-g+then-not-spared+then-wins, then-i-g+then-not-spared+else-wins, else-i-g, else-i-g-via-then-i-g+else-not-spared, else-i-g-via-else-i-g}

pub loop-i-init : goal.loop-i-init
loop-i-init c seed x r f =
    let a = c.args in
    rw (c.key-least.ensures, hashed-key seed x r a.items.now a.weights.now a.hashes.now a.g c.cost-c.result f (omega arith) c.cost-c.ensures.0)
    (guard-first seed x r a.items.now a.weights.now a.g (omega arith) (omega arith))

pub loop-i-preserved : goal.loop-i-preserved
loop-i-preserved c seed x r f =
    let a = c.args in
    let l = c.loop-i in
    let items = a.items.now in
    let ws = a.weights.now in
    let led = l.invariant seed x r f in
    let guards = hashed-key seed x r items ws a.hashes.now a.g c.cost-c.result f (omega arith) c.cost-c.ensures.0 in
    let here = hashed-key seed x r items ws a.hashes.now l.i (cost (get_or a.hashes.now l.i 0 + 1)) f (omega arith) refl in
    elim c.if-i-g.branch [
      | then-i-g+then-not-spared+then-wins w ↦
          let e : w.own_key-own.result ≡ key_at seed x r items ws l.i = w.own_key-own.ensures ∙ here in
          rw (w.item-is, w.least-is, e) (ahead-won seed x r items ws a.g l.i l.item l.least (omega arith) (w.spared.ensures.1 w.if-not-spared.true) (rw (← e) (sym w.wins.ensures ∙ w.if-wins.true)) led)
      | then-i-g+then-not-spared+else-wins w ↦
          let e : w.own_key-own.result ≡ key_at seed x r items ws l.i = w.own_key-own.ensures ∙ here in
          rw (w.item-is, w.least-is) (ahead-lost seed x r items ws a.g l.i l.item l.least (rw (← e) (sym w.wins.ensures ∙ w.if-wins.false)) led)
      | else-i-g w ↦
          rw (w.item-is, w.least-is)
          (elim w.else-i-g.branch [
            | else-i-g-via-then-i-g+else-not-spared v ↦
                ahead-spared seed x r items ws a.g l.i (Some (l.item, l.least))
                (λ z. rw (← guards, ← here) (v.spared.ensures.0 v.if-not-spared.false z)) led
            | else-i-g-via-else-i-g v ↦ ahead-guard seed x r items ws a.g l.i (Some (l.item, l.least)) v.if-i-g.false led
          ])
    ]

pub returns : goal.returns
unfolding drawn_of
returns c seed x r f =
    let a = c.args in
    let l = c.loop-i in
    let e : l.i ≡ length a.items.now = omega arith in
    ahead-all seed x r a.items.now a.weights.now a.g (Some (l.item, l.least))
    (subst (λ (n : ℕ). Ahead seed x r a.items.now a.weights.now a.g n (Some (l.item, l.least))) e (l.invariant seed x r f))
