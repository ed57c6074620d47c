-- One turn more: what the bytes before it led to, and then its own. Assumes nothing.
use Rattle.std.proofs.Common.{◌≡◌, List, ℕ, [], ◌++◌, length, take, refl, sym, subst, ◌∙◌, eqb-true}
use Rattle.report.specs.Edits.{site_of, session, bytes_of}
use Rattle.report.specs.Kept.{Keeps}
use Rattle.report.specs.Reads.{Led, stands-led, led-none, led-more}
use Rattle.console.specs.Leaving.{Came}
use Rattle.console.proofs.Outcomes.{on_err}
use Rattle.console.proofs.Rest.{front, on, over}
use Rattle.console.proofs.take_bytes.Goals as goal

pub loop-rest-init : goal.loop-rest-init
loop-rest-init g c =
    let a = c.args in
    ([], refl, led-none a.p _ (site_of a.map.now a.table.now a.states.now) a.space.now)

pub loop-rest-preserved : goal.loop-rest-preserved
loop-rest-preserved g c =
    let a = c.args in
    let l = c.loop-rest in
    let rest = l.rest.now in
    let r = c.on_bytes-run in
    let before = l.invariant in
    let n = r.result.used in (
      before.0 ++ take n rest,
      on before.0 rest a.read.now before.1 n r.ensures.2,
      λ xs k.
          let led = before.2 xs k in
          let next = site_of r.new.map r.new.table r.new.states in
          led-more a.p a.space.now l.space l.auto.space (session (site_of a.map.now a.table.now a.states.now) xs) before.0 (take n rest) l.line r.new.line
          (site_of l.map l.table l.states) next led (stands-led r.result.said r.new.line next r.new.space _ (r.ensures.3 _ led.line)),
    )

pub returns-in_err-print_said-clause-err : goal.returns-in_err-print_said-clause-err
returns-in_err-print_said-clause-err g c =
    let a = c.args in
    let l = c.loop-rest in
    let rest = l.rest.now in
    let r = c.on_bytes-run in
    let before = l.invariant in
    let n = r.result.used in
    let here = site_of a.map.now a.table.now a.states.now in
    let next = site_of r.new.map r.new.table r.new.states in
    let done = before.0 ++ take n rest in
    let came : (xs : List ℕ) → Keeps a.line.now xs → (m : ℕ) × Came a.p a.space.now (session here xs) (take m a.read.now) next =
    λ xs k.
    let led = before.2 xs k in (
      length done,
      subst (λ (ys : List ℕ). Came a.p a.space.now (session here xs) ys next) (sym (front done _ a.read.now (on before.0 rest a.read.now before.1 n r.ensures.2))) (
        r.new.line,
        led-more a.p a.space.now l.space l.auto.space (session here xs) before.0 (take n rest) l.line r.new.line (site_of l.map l.table l.states) next led
            (stands-led r.result.said r.new.line next r.new.space _ (r.ensures.3 _ led.line)),
      ),
    ) in
    on_err _ came

pub returns-clause-led : goal.returns-clause-led
returns-clause-led g c = λ xs k.
    let a = c.args in
    let l = c.loop-rest in
    let before = l.invariant in
    let none : length l.rest.now ≡ 0 = eqb-true _ 0 (sym c.is_empty.ensures ∙ c.loop-rest-test.false) in
    subst (λ (ys : List ℕ). Led l.line (site_of l.map l.table l.states) (bytes_of a.p a.space.now (session (site_of a.map.now a.table.now a.states.now) xs) ys))
    (over before.0 l.rest.now a.read.now before.1 none) (before.2 xs k)
