-- Questions put one after the other, each with its number. Assumes nothing.
use Rattle.std.specs.Prelude.{◌≡◌, refl, Bool, true, false, cond, List, [], ◌∷◌, ℕ, eqb, ltb}
use Rattle.std.proofs.Common.{arith, ltb-true}
use Rattle.definitions.specs.Lists.{every, first_no}
use Rattle.laws.specs.Lists.{every-head, every-tail}

-- the answer to question n
unfoldable pub answer_to : ℕ → List (ℕ × Bool) → Bool
answer_to n [] = true
answer_to n (q ∷ qs) = cond (eqb q.0 n) q.1 (answer_to n qs)

-- a question's number is not 0, which stands for no question
abbrev pub numbered : ℕ × Bool → Bool
numbered q = ltb 0 q.0

-- the number 0 says that each question is answered yes
pub answered : (qs : List (ℕ × Bool)) → every numbered qs ≡ true → first_no qs ≡ 0 → (n : ℕ) → answer_to n qs ≡ true
unfolding first_no answer_to
answered [] h e n = refl
answered (q ∷ qs) h e n = go q.1 e (eqb q.0 n) (answered qs (every-tail numbered q qs h))
  where
    go : (b : Bool) → cond b (first_no qs) q.0 ≡ 0 → (c : Bool) → (first_no qs ≡ 0 → (k : ℕ) → answer_to k qs ≡ true)
        → cond c b (answer_to n qs) ≡ true
    go true z true ih = refl
    go true z false ih = ih z n
    go false z c ih = absurd (omega (arith, z, ltb-true 0 q.0 (every-head numbered q qs h)))
