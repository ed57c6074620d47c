-- One read more: what the bytes before it led to, and then its own. Assumes nothing.
use Rattle.std.proofs.Common.{List, ℕ, [], ◌++◌, take, subst, append-nil}
use Rattle.std.specs.Io.KnownBytes.{Consumes}
use Rattle.std.proofs.KnownBytes.{Consumes-trans, Consumes-nil}
use Rattle.report.specs.Edits.{site_of, session}
use Rattle.report.specs.Kept.{Keeps}
use Rattle.report.specs.Reads.{led-none, led-more}
use Rattle.console.specs.Leaving.{Came}
use Rattle.console.proofs.Outcomes.{on_err}
use Rattle.console.proofs.take_input.Goals as goal

pub loop-init : goal.loop-init
loop-init g c =
    let a = c.args in
    λ xs k. ([], Consumes-nil _, led-none a.p _ (site_of a.map.now a.table.now a.states.now) a.space.now xs k)

pub loop-preserved : goal.loop-preserved
loop-preserved g c =
    let a = c.args in
    let l = c.loop in
    let r = c.take_bytes in
    let new = take c.in_ok-n.n c.read_some.new.buffer in
    λ xs k.
    let u = l.invariant xs k in (
      u.0 ++ new,
      Consumes-trans _ _ _ u.0 new u.1 c.in_ok-n.ensures.bytes,
      led-more a.p a.space.now l.space l.auto.space (session (site_of a.map.now a.table.now a.states.now) xs) u.0 new l.line r.new.line
          (site_of l.map l.table l.states) (site_of r.new.map r.new.table r.new.states) u.2 (c.in_ok-take_bytes.ensures.led _ u.2.line),
    )

pub returns-in_err-n-clause-err : goal.returns-in_err-n-clause-err
returns-in_err-n-clause-err g c =
    let a = c.args in
    let l = c.loop in
    let here = site_of a.map.now a.table.now a.states.now in
    let came : (xs : List ℕ) → Keeps a.line.now xs → (bs : List ℕ) × Came a.p a.space.now (session here xs) bs (site_of l.map l.table l.states) =
    λ xs k. let u = l.invariant xs k in (u.0, (l.line, u.2)) in
    on_err _ came

pub returns-in_err-take_bytes-clause-err : goal.returns-in_err-take_bytes-clause-err
returns-in_err-take_bytes-clause-err g c =
    let a = c.args in
    let l = c.loop in
    let r = c.take_bytes in
    let here = site_of a.map.now a.table.now a.states.now in
    let next = site_of r.new.map r.new.table r.new.states in
    let came : (xs : List ℕ) → Keeps a.line.now xs → (bs : List ℕ) × Came a.p a.space.now (session here xs) bs next =
    λ xs k.
    let u = l.invariant xs k in
    let left = c.in_err-take_bytes.ensures.err _ u.2.line in
    let new = take left.0 (take c.in_ok-n.n c.read_some.new.buffer) in (
      u.0 ++ new,
      (left.1.0, led-more a.p a.space.now l.space l.auto.space (session here xs) u.0 new l.line left.1.0 (site_of l.map l.table l.states) next u.2 left.1.1),
    ) in
    on_err _ came

pub returns-then-n-eq0-clause-led : goal.returns-then-n-eq0-clause-led
returns-then-n-eq0-clause-led g c = λ xs k.
    let u = c.loop.invariant xs k in
    let known = g.R.Read.remaining c.read_some.new.stdin in
    let nothing : Consumes (g.R.Read.remaining c.loop.stdin) known [] =
    subst (λ (n : ℕ). Consumes (g.R.Read.remaining c.loop.stdin) known (take n c.read_some.new.buffer)) c.if-n-eq0.true c.in_ok-n.ensures.bytes in
    let all : Consumes (g.R.Read.remaining c.args.stdin.now) known u.0 =
    subst (λ (bs : List ℕ). Consumes (g.R.Read.remaining c.args.stdin.now) known bs) (append-nil u.0) (Consumes-trans _ _ _ u.0 [] u.1 nothing) in
    (u.0, all, u.2)
