-- `placement::select::select_by` meets its contract. The invariants: the first i entries of the working list are worked on, and under the next
-- the ranks 1 to r are made. Assumes nothing.
use Rattle.std.proofs.Common.{◌≡◌, refl, sym, ap, ◌∙◌, subst, List, ℕ, ◌+◌, ◌*◌, ◌<◌, ◌≤◌, length, take, get_or, get_or-take, length-take-le, arith}
use borrow.Author.Rules.{rules}
use Rattle.std.proofs.Math.Nat.{mul-le-mul_right, le-mul_of_pos_right}
use Rattle.laws.specs.Members.{Each, each_at}
use Rattle.placement.specs.Working.{Workable}
use Rattle.placement.specs.Bare.{bare_ranks, bare_to}
use Rattle.placement.specs.Chosen.{UnderBounds}
use Rattle.placement.specs.Made.{kept_none, kept-nothing, kept-place, kept-entry, is-nothing, is-place, is-entry, is_all}
use Rattle.placement.proofs.select.select_by.Given.{Over}
use Rattle.placement.proofs.select.select_by.Goals as goal
use Rattle.placement.proofs.select.select_by.Goals.{Start, At-loop-r, In_ok-k, then-not-leaves_out, else-not-leaves_out}

-- the working list is within its array
within : (g : Over) (c : Start g) → c.args.len ≤ length c.args.working
within g c =
    let w : length c.args.working ≡ 16 = search rules in
    omega (arith, w, le-mul_of_pos_right c.args.len c.requires.le_n.0, c.requires.le_n.2)

-- there is room for one rank more
room : (g : Over) (c : At-loop-r g) → c.loop-r.r < c.args.wanted.n → c.loop-i.i * c.args.wanted.n + (c.loop-r.r + 1) ≤ 16
room g c h = omega (arith, mul-le-mul_right c.args.wanted.n c.loop-i-test.true, h, c.requires.le_n.2)

-- and for a place
free : (g : Over) (c : At-loop-r g) → c.loop-r.r < c.args.wanted.n → c.loop-r.m < 16
free g c k = omega (arith, c.loop-r.invariant.0.counts.0, room g c k)

-- the entry at hand is a bucket or a hole
workable_at : (working : List ℕ) (len i : ℕ) → Each Workable (take len working) → len ≤ length working → i < len → Workable (get_or working i 0)
workable_at working len i w h l =
    subst Workable (get_or-take len working i 0 l) (each_at Workable (take len working) i 0 w (omega (arith, length-take-le len working h, l)))

-- what a rank ends in is counted
ended : (g : Over) (c : In_ok-k g) → Workable (get_or c.args.working c.loop-i.i 0) → c.loop-i.i * c.args.wanted.n + (c.loop-r.r + 1) ≤ 16
    → UnderBounds c.loop-r.f c.in_ok-k.k
ended g c w room' =
    c.requires.bounds _ _ _ _ _ w (omega (arith, room')) (omega (arith, c.loop-r.invariant.0.counts.2, room')) c.in_ok-k.ensures

pub loop-i-init : goal.loop-i-init
unfolding bare_ranks bare_to
loop-i-init g c =
    let h = c.held_from-held in
    let l : length h.result ≡ 48 = search rules in
    (kept_none _ _ _ _ _ h.ensures (refl, refl, l), λ v x e. refl)

pub rank-requires : goal.rank-requires
rank-requires g c =
    let at = goal.at.rank-requires g c in
    let room' = room g at.At-loop-r c.loop-r-test.true in
    c.requires.ranks _ _ _ _ (workable_at c.args.working c.args.len c.loop-i.i c.requires.le_n.3 (within g at.Start) c.loop-i-test.true)
    (omega (arith, room')) (omega (arith, c.loop-r.invariant.0.counts.2, room'))

pub tries_in-tries-requires : goal.tries_in-tries-requires
tries_in-tries-requires g c =
    let at = goal.at.tries_in-tries-requires g c in
    let b = ended g c (workable_at c.args.working c.args.len c.loop-i.i c.requires.le_n.3 (within g at.Start) c.loop-i-test.true)
    (room g at.At-loop-r c.loop-r-test.true) in
    (b.0, b.2)

pub overflow_add-tries : goal.overflow_add-tries
overflow_add-tries g c =
    let at = goal.at.overflow_add-tries g c in
    let room' = room g at.At-loop-r c.loop-r-test.true in
    let b = ended g at.In_ok-k (workable_at c.args.working c.args.len c.loop-i.i c.requires.le_n.3 (within g at.Start) c.loop-i-test.true) room' in
    omega (arith, c.loop-r.invariant.0.counts.1, c.tries_in-tries.ensures, b.3, room')

pub loop-r-preserved : goal.loop-r-preserved
loop-r-preserved g c =
    let at = goal.at.loop-r-preserved g c in
    let l = c.loop-r in
    let so = l.invariant.0 in
    let k = c.in_ok-k.k in
    let t = c.tries_in-tries in
    let u = ended g at.In_ok-k (workable_at c.args.working c.args.len c.loop-i.i c.requires.le_n.3 (within g at.Start) c.loop-i-test.true)
    (room g at.At-loop-r c.loop-r-test.true) in
    let f = free g at.At-loop-r c.loop-r-test.true in
    elim c.if-not-leaves_out.branch [
      | then-not-leaves_out w ↦
          let q = sym c.leaves_out.ensures ∙ w.if-not-leaves_out.true in
          rw (w.held-is, w.items-is, w.entries-is, w.m-is) (
            kept-place so k t.result u t.ensures c.requires.before_len_bound f,
            λ v x e. is-place v x c.args.wanted _ _ _ _ _ l.held _ _ (l.invariant.1 v x e) so k t.result (e _ _ _ _ _ c.in_ok-k.ensures) t.ensures q f,
          )
      | else-not-leaves_out w ↦
          let q = sym c.leaves_out.ensures ∙ w.if-not-leaves_out.false in
          rw (w.held-is, w.items-is, w.entries-is, w.m-is) (
            kept-nothing so k t.result u t.ensures,
            λ v x e. is-nothing v x c.args.wanted _ _ _ _ _ l.held _ _ (l.invariant.1 v x e) so k t.result (e _ _ _ _ _ c.in_ok-k.ensures) t.ensures q,
          )
    ]

pub loop-i-preserved : goal.loop-i-preserved
loop-i-preserved g c =
    let l = c.loop-r in
    let k = within g (goal.at.loop-i-preserved g c).Start in
    let e : l.r ≡ c.args.wanted.n = omega arith in
    (kept-entry l.invariant.0 e, λ v x q. is-entry _ _ _ _ _ _ _ _ l.held _ _ (l.invariant.1 v x q) c.loop-i-test.true k e)

pub returns : goal.returns
returns g c =
    let l = c.loop-i in
    let h = l.invariant.0 in
    let k = within g (goal.at.returns g c).Start in
    let a = c.args in
    let e : l.i ≡ a.len = omega arith in
    let m : l.i * a.wanted.n ≡ a.len * a.wanted.n = ap (λ (k : ℕ). k * a.wanted.n) e in
    (omega (arith, m, h.counts.0), omega (arith, m, h.counts.1, c.requires.le_n.2), λ v x q. is_all _ _ _ _ _ _ _ _ _ (l.invariant.1 v x q) e k)
