-- One row more behind those that are printed. Assumes nothing.
use Rattle.std.proofs.Common.{List, ℕ, ◌++◌, ◌*◌, take, drop, subst, sym, ap, ◌∙◌}
use native.Mathlib.Nat.{add-sub_cancel_left}
use Rattle.std.specs.Io.KnownBytes.{Appends}
use Rattle.std.proofs.KnownBytes.{Appends-nil, Appends-trans}
use Rattle.protocol.specs.Lines.{row_line, row_lines}
use Rattle.console.proofs.Row.{rows-more}
use Rattle.console.proofs.print_by_line.Goals as goal

pub loop-g-init : goal.loop-g-init
unfolding row_lines
loop-g-init g c = Appends-nil _

pub loop-g-preserved : goal.loop-g-preserved
loop-g-preserved g c =
    let a = c.args in
    let l = c.loop-g in
    let t = a.table.now in
    let before = row_lines l.g 0 a.w t in
    subst (λ (ys : List ℕ). Appends (g.W.Write.contents a.stdout.now) (g.W.Write.contents c.print_row.new.stdout) ys)
    (ap (λ (k : ℕ). before ++ row_line l.g (take k (drop (l.g * a.w) t))) (add-sub_cancel_left (l.g * a.w) a.w) ∙ sym (rows-more l.g a.w t))
    (Appends-trans _ _ _ _ _ l.invariant c.in_ok-print_row.ensures)
