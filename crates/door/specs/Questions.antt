-- The map's questions put one after the other: those that are left behind one, and what the first no gives. Assumes nothing.
use Rattle.std.specs.Prelude.{◌≡◌, refl, cond, not, List, [], ◌∷◌, ℕ, Bool, true, false, eqb, MatchResult}
use Rattle.std.proofs.Math.Path.{sym}
use Rattle.std.proofs.Common.{◌∙◌}
use Rattle.std.proofs.lemmas.Bool.{not-true, not-false}
use Rattle.std.specs.Result.{IsErrAnd}
use Rattle.std.specs.declared.result.Result.{Result}
use Rattle.std.specs.declared.result.Result.TheVariants.{Ok, Err}
use Rattle.std.proofs.lemmas.Result.{err_from_is_err_and}
use Rattle.definitions.specs.Lists.{first_no}
use Rattle.definitions.specs.Map.{Map}
use Rattle.definitions.specs.Load.{map_questions}
use Rattle.door.specs.declared.question.Question.{Question}
use Rattle.door.specs.Question.{number_of}

-- those behind question n
unfoldable pub behind : ℕ → List (ℕ × Bool) → List (ℕ × Bool)
behind n [] = []
behind n (q ∷ qs) = cond (eqb q.0 n) qs (behind n qs)

-- what a function returns where question q stops it: n is the number that it owes
pub stopped : {T : Type 0} (P : T → Type 0) (n : ℕ) (q d : Question) (r : Result T Question) → IsErrAnd r (λ x. x ≡ d) → d ≡ q → n ≡ number_of q
    → MatchResult r P (λ x. n ≡ number_of x)
stopped P n q d r e f g = let p = err_from_is_err_and r e in rw (p.1, p.2, f) g

-- and what it returns where question q, whose answer is a, is the last
pub last : {T : Type 0} (n : ℕ) (a : Bool) (q : Question) (r : Result T Question) → MatchResult r (λ _. a ≡ true) (λ p. (a ≡ false) × (p ≡ q))
    → (a ≡ true → n ≡ 0) → (a ≡ false → n ≡ number_of q) → MatchResult r (λ _. n ≡ 0) (λ p. n ≡ number_of p)
last n a q (Ok x) h f g = f h
last n a q (Err p) h f g = rw h.1 (g h.0)

-- what an answer r of the code says, behind its test for no
pub yes : {r a : Bool} → r ≡ a → not r ≡ false → a ≡ true
yes {r} e h = sym e ∙ not-false r h

-- and where that test is met
pub no : {r a : Bool} → r ≡ a → not r ≡ true → a ≡ false
no {r} e h = sym e ∙ not-true r h

-- of the questions behind k those behind n are left: the others are answered yes
pub record Left (k n : ℕ) (m : Map) : Type 0 where
  pub is : first_no (behind k (map_questions m)) ≡ first_no (behind n (map_questions m))

-- none is answered yet
pub all_left : (k : ℕ) (m : Map) → Left k k m
all_left k m = record { is = refl }

-- the next is i, with the answer a
module _ {k n i : ℕ} {m : Map} {r a : Bool} (l : Left k n m) (q : behind n (map_questions m) ≡ (i, a) ∷ behind i (map_questions m)) (e : r ≡ a) where
  -- yes
  pub passed : not r ≡ false → Left k i m
  unfolding first_no
  passed h = record { is = l.is ∙ rw (q, yes e h) }

  -- no
  pub refused : not r ≡ true → i ≡ first_no (behind k (map_questions m))
  unfolding first_no
  refused h = sym (l.is ∙ rw (q, no e h))
