-- What a closure says of the records of a list: of each by itself, and of each beside the one behind it.
use Rattle.std.specs.Prelude.{◌≡◌, Bool, List, ℕ, ◌+◌, ◌<◌, length, get_or}

-- of each record of the list the closure may be asked
abbrev pub Asked : {A : Type 0} → (A → Type 0) → List A → A → Type 0
Asked pre xs d = (k : ℕ) → k < length xs → pre (get_or xs k d)

-- and what it answers is what the test p says
abbrev pub Answers : {A : Type 0} → (A → Bool → Type 0) → List A → A → (A → Bool) → Type 0
Answers post xs d p = (k : ℕ) → k < length xs → (b : Bool) → post (get_or xs k d) b → b ≡ p (get_or xs k d)

-- the same of each record and the one behind it
abbrev pub AskedPairs : {A : Type 0} → (A → A → Type 0) → List A → A → Type 0
AskedPairs pre xs d = (k : ℕ) → k + 1 < length xs → pre (get_or xs k d) (get_or xs (k + 1) d)

abbrev pub AnswersPairs : {A : Type 0} → (A → A → Bool → Type 0) → List A → A → (A → A → Bool) → Type 0
AnswersPairs post xs d p =
    (k : ℕ) → k + 1 < length xs → (b : Bool) → post (get_or xs k d) (get_or xs (k + 1) d) b
    → b ≡ p (get_or xs k d) (get_or xs (k + 1) d)
