-- One write more: what it took of the rest stands behind what was written. Assumes nothing.
use Rattle.std.proofs.Common.{List, ℕ, ◌++◌, length, take, sym, subst}
use Rattle.std.specs.Io.KnownBytes.{Appends}
use Rattle.std.proofs.KnownBytes.{Appends-trans, Appends-kept}
use Rattle.console.proofs.Outcomes.{on_err}
use Rattle.console.proofs.Rest.{front, on}
use Rattle.console.proofs.system.print.Goals as goal

pub returns-in_err-n-clause-err : goal.returns-in_err-n-clause-err
returns-in_err-n-clause-err g c =
    let before = c.loop-rest.invariant in
    let bytes = c.args.bytes.now in
    let old = g.W.Write.contents c.args.stdout.now in
    let new = g.W.Write.contents c.write_some.new.stdout in
    let written : (n : ℕ) × Appends old new (take n bytes) = (
      length before.0,
      subst (λ (ys : List ℕ). Appends old new ys) (sym (front before.0 c.loop-rest.rest.now bytes before.1))
          (Appends-kept old (g.W.Write.contents c.loop-rest.stdout) new before.0 before.2 c.in_err-n.ensures.err),
    ) in
    on_err _ written

pub returns-then-n-eq0-clause-err : goal.returns-then-n-eq0-clause-err
returns-then-n-eq0-clause-err g c =
    let before = c.loop-rest.invariant in
    let bytes = c.args.bytes.now in
    let old = g.W.Write.contents c.args.stdout.now in
    let new = g.W.Write.contents c.write_some.new.stdout in
    let done = before.0 ++ take c.in_ok-n.n c.loop-rest.rest.now in (
      length done,
      subst (λ (ys : List ℕ). Appends old new ys) (sym (front done _ bytes (on before.0 c.loop-rest.rest.now bytes before.1 c.in_ok-n.n c.in_ok-n.ensures.within)))
          (Appends-trans _ _ _ _ _ before.2 c.in_ok-n.ensures.bytes),
    )

pub loop-rest-preserved : goal.loop-rest-preserved
loop-rest-preserved g c =
    let rest = c.loop-rest.rest.now in
    let before = c.loop-rest.invariant in
    let n = c.in_ok-n.n in (
      before.0 ++ take n rest,
      on before.0 rest c.args.bytes.now before.1 n c.in_ok-n.ensures.within,
      Appends-trans _ _ _ _ _ before.2 c.in_ok-n.ensures.bytes,
    )
