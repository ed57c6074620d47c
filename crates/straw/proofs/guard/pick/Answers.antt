-- `straw::guard::pick` meets its contract. The invariant: a child of weight above 0, or none so far, and then k is 0 and t is 1. Assumes nothing.
use Rattle.std.proofs.Common.{◌≡◌, ℕ, ◌+◌, List, Option, None, Some, arith, length, get_or, subst, below_more}
use Rattle.std.specs.Option.{MatchOption}
use Rattle.straw.specs.Guard.{Found, Absent}
use Rattle.straw.proofs.guard.pick.Goals as goal
use Rattle.straw.proofs.guard.pick.Goals.{then-likelier, else-likelier}

-- no child of weight above 0 so far, and none here
still : (place : Option ℕ) (t k i : ℕ) (ws : List ℕ) (R : ℕ → Type 0) → (k ≡ 0 → t ≡ 1 → get_or ws i 0 ≡ 0)
    → MatchOption place ((t ≡ 1) × (k ≡ 0) × Absent ws i) R → MatchOption place ((t ≡ 1) × (k ≡ 0) × Absent ws (i + 1)) R
still None t k i ws R f (a, b, h) = (a, b, below_more _ _ h (f b a))
still (Some p) t k i ws R f h = h

all : (place : Option ℕ) (t k i n : ℕ) (ws : List ℕ) (R : ℕ → Type 0) → i ≡ n → MatchOption place ((t ≡ 1) × (k ≡ 0) × Absent ws i) R → MatchOption place (Absent ws n) R
all None t k i n ws R e (a, b, h) = subst (Absent ws) e h
all (Some p) t k i n ws R e h = h

pub loop-i-preserved : goal.loop-i-preserved
loop-i-preserved c =
    let l = c.loop-i in
    let ws = c.args.weights.now in
    elim c.if-likelier.branch [
      | then-likelier w ↦ rw w.place-is (omega arith, c.likelier.ensures.0 w.if-likelier.true)
      | else-likelier w ↦ rw (w.place-is, w.t-is, w.k-is) (still l.place l.t l.k l.i ws (Found ws) (λ e z. c.likelier.ensures.1 w.if-likelier.false e (omega (arith, z))) l.invariant)
    ]

pub returns : goal.returns
returns c =
    let ws = c.args.weights.now in
    let e : c.loop-i.i ≡ length ws = omega arith in
    all c.loop-i.place c.loop-i.t c.loop-i.k c.loop-i.i (length ws) ws (Found ws) e c.loop-i.invariant
