-- A list of which the first bytes are done and the rest is left. Assumes nothing.
use Rattle.std.proofs.Common.{◌≡◌, List, ℕ, [], ◌∷◌, ◌++◌, ◌-◌, ◌≤◌, length, take, drop, sym, ap, ◌∙◌, append-nil, append_assoc, arith, length-drop, take_all}
use Rattle.std.proofs.Math.Seq.{take-append_seam}
use Rattle.std.proofs.lemmas.List.{take-append-drop}

module _ (done rest all : List ℕ) (e : done ++ rest ≡ all) where
  pub front : take (length done) all ≡ done
  front = rw (← e) (take-append_seam done rest)

  -- n more are done
  pub on : (n : ℕ) → n ≤ length rest → (done ++ take n rest) ++ take (length rest - n) (drop n rest) ≡ all
  on n h =
      append_assoc done (take n rest) (take (length rest - n) (drop n rest))
      ∙ ap (λ (ys : List ℕ). done ++ (take n rest ++ ys)) (take_all (length rest - n) (drop n rest) (omega (arith, length-drop n rest)))
      ∙ ap (λ (ys : List ℕ). done ++ ys) (take-append-drop n rest) ∙ e

-- none is left
pub over : (done rest all : List ℕ) → done ++ rest ≡ all → length rest ≡ 0 → done ≡ all
over done [] all e z = sym (append-nil done) ∙ e
over done (x ∷ rest) all e z = absurd (omega (arith, z))
