-- One row more behind those that are printed. Assumes nothing.
use Rattle.std.specs.Prelude.{◌≡◌, List, ◌++◌, ℕ, zero, suc, ◌+◌, ◌*◌, take, drop}
use Rattle.std.proofs.Common.{refl, sym, ap, ◌∙◌, append-nil, append_assoc, add-one, zero-mul, arith, drop-drop}
use Rattle.std.proofs.Math.Nat.{suc-mul}
use Rattle.protocol.specs.Lines.{row_line, row_lines}

-- of the group g + n, which stands behind a places
next : (n g w a : ℕ) (t : List ℕ) → a ≡ n * w → row_lines (suc n) g w t ≡ row_lines n g w t ++ row_line (g + n) (take w (drop a t))
unfolding row_lines
next zero g w a t e =
    append-nil (row_line g (take w t)) ∙ ap (λ (k : ℕ). row_line k (take w t)) (omega arith)
    ∙ ap (λ (k : ℕ). row_line (g + 0) (take w (drop k t))) (sym (e ∙ zero-mul w))
next (suc n) g w a t e =
    let own = row_line g (take w t) in
    let behind = row_lines n (suc g) w (drop w t) in
    ap (λ (l : List ℕ). own ++ l)
    (next n (suc g) w (n * w) (drop w t) refl
    ∙ ap (λ (l : List ℕ). behind ++ row_line (suc g + n) (take w l)) (drop-drop (n * w) w t)
    ∙ ap (λ (k : ℕ). behind ++ row_line (suc g + n) (take w (drop k t))) (omega (arith, e, suc-mul n w))
    ∙ ap (λ (k : ℕ). behind ++ row_line k (take w (drop a t))) (omega arith))
    ∙ sym (append_assoc own behind _)

pub rows-more : (n w : ℕ) (t : List ℕ) → row_lines (n + 1) 0 w t ≡ row_lines n 0 w t ++ row_line n (take w (drop (n * w) t))
rows-more n w t = ap (λ (k : ℕ). row_lines k 0 w t) (add-one n) ∙ next n 0 w (n * w) t refl ∙ ap (λ (k : ℕ). row_lines n 0 w t ++ row_line k (take w (drop (n * w) t))) (omega arith)
