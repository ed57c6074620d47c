-- Functions on lists that the definitions use.
use Rattle.std.specs.Prelude.{Bool, true, false, cond, not, ◌&&◌, ◌||◌, List, [], ◌∷◌, ◌++◌, ℕ, ◌+◌, ◌-◌, eqb, length, get_or, drop}

-- each entry passes the test p
unfoldable pub every : {A : Type 0} → (A → Bool) → List A → Bool
every p [] = true
every p (x ∷ xs) = p x && every p xs

-- some entry passes the test p
unfoldable pub some_of : {A : Type 0} → (A → Bool) → List A → Bool
some_of p [] = false
some_of p (x ∷ xs) = p x || some_of p xs

-- the entries that pass the test p, in their order
unfoldable pub kept : {A : Type 0} → (A → Bool) → List A → List A
kept p [] = []
kept p (x ∷ xs) = cond (p x) (x ∷ kept p xs) (kept p xs)

-- each entry stands to the one behind it as the test p says, and the first so to x
unfoldable pub linked_from : {A : Type 0} → (A → A → Bool) → A → List A → Bool
linked_from p x [] = true
linked_from p x (y ∷ ys) = p x y && linked_from p y ys

unfoldable pub linked : {A : Type 0} → (A → A → Bool) → List A → Bool
linked p [] = true
linked p (x ∷ xs) = linked_from p x xs

-- what f gives of the first entry whose number is k, and 0 where there is none
unfoldable pub lookup : {A : Type 0} → (A → ℕ) → (A → ℕ) → ℕ → List A → ℕ
lookup number f k [] = 0
lookup number f k (x ∷ xs) = cond (eqb (number x) k) (f x) (lookup number f k xs)

unfoldable pub sum : List ℕ → ℕ
sum [] = 0
sum (x ∷ xs) = x + sum xs

-- the lists one behind the other
unfoldable pub joined : {A : Type 0} → List (List A) → List A
joined [] = []
joined (x ∷ xs) = x ++ joined xs

-- k is in the list
unfoldable pub has : ℕ → List ℕ → Bool
has k [] = false
has k (x ∷ xs) = eqb x k || has k xs

-- no number stands in the list twice
unfoldable pub distinct : List ℕ → Bool
distinct [] = true
distinct (x ∷ xs) = not (has x xs) && distinct xs

-- the two lists are the same
unfoldable pub same : List ℕ → List ℕ → Bool
same [] [] = true
same [] (y ∷ ys) = false
same (x ∷ xs) [] = false
same (x ∷ xs) (y ∷ ys) = eqb x y && same xs ys

-- the last entry, and 0 where there is none
abbrev pub last_of : List ℕ → ℕ
last_of xs = get_or xs (length xs - 1) 0

-- "Beyond what is written, bytes stay": new, written over the front of old
abbrev pub over : List ℕ → List ℕ → List ℕ
over new old = new ++ drop (length new) old

-- the number of the first question answered no, and 0 where each is answered yes. (The `let` keeps the questions behind it unasked.)
unfoldable pub first_no : List (ℕ × Bool) → ℕ
first_no [] = 0
first_no (q ∷ qs) = let rest = first_no qs in cond q.1 rest q.0
