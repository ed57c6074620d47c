-- Document 01, "Hash": the table form of `mix` is the nine steps written out, and what a loop over the table needs. Assumes nothing.
use Rattle.std.specs.Prelude.{◌≡◌, refl, ℕ, ◌+◌, ◌*◌, ◌/◌, ◌%◌, ◌^◌, ◌<◌, ltb, get_or, drop}
use Rattle.std.proofs.Common.{add-one, drop-cons, ltb-true}
use Rattle.std.specs.Int.Bits.{bit_xor}
use Rattle.definitions.specs.declared.Mix.{Mix}
use Rattle.definitions.specs.declared.Shift.{Shift}
use Rattle.definitions.specs.declared.Shift.TheVariants.{Left}
use Rattle.definitions.specs.Lists.{every}
use Rattle.definitions.specs.Hash.{minus, places, three, rows, mix_step, mix_steps, mix}
use Rattle.laws.specs.Lists.{every-at}

-- the nine steps of `mix`, written out
unfoldable pub nine : ℕ → ℕ → ℕ → Mix
nine a b c =
    let a1 = bit_xor (minus (minus a b) c) (c / 2 ^ 13) in
    let b1 = bit_xor (minus (minus b c) a1) ((a1 * 2 ^ 8) % 2 ^ 32) in
    let c1 = bit_xor (minus (minus c a1) b1) (b1 / 2 ^ 13) in
    let a2 = bit_xor (minus (minus a1 b1) c1) (c1 / 2 ^ 12) in
    let b2 = bit_xor (minus (minus b1 c1) a2) ((a2 * 2 ^ 16) % 2 ^ 32) in
    let c2 = bit_xor (minus (minus c1 a2) b2) (b2 / 2 ^ 5) in
    let a3 = bit_xor (minus (minus a2 b2) c2) (c2 / 2 ^ 3) in
    let b3 = bit_xor (minus (minus b2 c2) a3) ((a3 * 2 ^ 10) % 2 ^ 32) in
    let c3 = bit_xor (minus (minus c2 a3) b3) (b3 / 2 ^ 15) in
    three a3 b3 c3

pub mix-written-out : (a b c : ℕ) → mix (three a b c) ≡ nine a b c
unfolding mix nine mix_steps rows mix_step
mix-written-out a b c = refl

-- each shift is by fewer places than a number has
pub row_small : (i : ℕ) → i < 9 → places (get_or rows i (Left 0)) < 32
unfolding rows every
row_small i h = ltb-true _ _ (every-at (λ (r : Shift). ltb (places r) 32) rows i (Left 0) refl h)

-- step i and the steps behind it
pub step-more : (i : ℕ) (m : Mix) → i < 9 → mix_steps (drop (i + 1) rows) (mix_step (get_or rows i (Left 0)) m) ≡ mix_steps (drop i rows) m
unfolding rows mix_steps
step-more i m h = rw (add-one, drop-cons rows i (Left 0) h)
