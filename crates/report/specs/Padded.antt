-- The bytes that are kept of a line at the front of their space, and zeros behind them: the bytes alone tell the space. Assumes nothing.
use Rattle.std.specs.Prelude.{◌≡◌, List, ℕ, ◌++◌, ◌+◌, ◌-◌, ◌≤◌, length, take, drop, replicate}
use Rattle.std.proofs.Common.{sym, ap, ◌∙◌, arith, length-take-le, drop-drop}
use Rattle.std.proofs.lemmas.List.{take-append-drop, drop-replicate}

-- behind the first n of the 15 are zeros
pub record Padded (n : ℕ) (space : List ℕ) : Type 0 where
  pub few : n ≤ 15
  pub long : length space ≡ 15
  pub zeros : drop n space ≡ replicate (15 - n) 0

module _ (n : ℕ) (space : List ℕ) (p : Padded n space) where
  pub counted : length (take n space) ≡ n
  counted = length-take-le n space (omega (arith, p.few, p.long))

  pub padded : take n space ++ replicate (15 - length (take n space)) 0 ≡ space
  padded =
      ap (λ (k : ℕ). take n space ++ replicate (15 - k) 0) counted ∙ ap (λ (l : List ℕ). take n space ++ l) (sym p.zeros) ∙ take-append-drop n space

  -- zeros behind k more
  pub zeros-more : (k : ℕ) → n + k ≤ 15 → drop (n + k) space ≡ replicate (15 - (n + k)) 0
  zeros-more k h =
      sym (drop-drop k n space) ∙ ap (drop k) p.zeros ∙ drop-replicate k (15 - n) 0 ∙ ap (λ (j : ℕ). replicate j 0) (omega (arith, h))
