-- Laws of tests over lists. Assumes nothing.
use Rattle.std.specs.Prelude.{◌≡◌, Bool, cond, ◌&&◌, eqb, get_or, drop, take, set}
use Rattle.std.proofs.Math.Path.{refl}
use Rattle.std.proofs.Common.{sym, ap, ap₂, ◌∙◌, arith, le_of_lt, length-append, length-drop, drop_of_length-le, take-suc, length-take-le, add-one}
use Rattle.std.proofs.Math.Bool.{true, false, and_assoc}
use Rattle.std.proofs.lemmas.Bool.{false≢true}
use mathlib.Core.List.{List, [], ◌∷◌, ◌++◌, map, append_assoc}
use Prim.Native.Nat.{ℕ, zero, suc, ◌+◌, ◌<◌, ◌≤◌}
use borrow.Author.Tests.{eqb-true, eq-eqb, ne_eqb}
use Rattle.std.proofs.Math.ListN.{length}
use Rattle.std.proofs.Math.Seq.{drop-cons, take-length}
use Rattle.std.proofs.lemmas.List.{set_at}
use Rattle.definitions.specs.Lists.{every, kept, linked_from, linked, has, same}

pub both : (a b : Bool) → a && b ≡ true → (a ≡ true) × (b ≡ true)
both true b e = (refl, e)
both false b e = absurd (let z : ◌≡◌ {A = ℕ} 0 1 = cc in omega arith)

pub and_both : {a b : Bool} → a ≡ true → b ≡ true → a && b ≡ true
and_both p q = rw p q

-- ---- the same lists

pub same-is : (xs ys : List ℕ) → same xs ys ≡ true → xs ≡ ys
unfolding same
same-is [] [] e = refl
same-is [] (y ∷ ys) e = absurd (false≢true e)
same-is (x ∷ xs) [] e = absurd (false≢true e)
same-is (x ∷ xs) (y ∷ ys) e =
    let (p, q) = both (eqb x y) (same xs ys) e in ap₂ (λ (z : ℕ) (zs : List ℕ). z ∷ zs) (eqb-true x y p) (same-is xs ys q)

pub is_same : (xs ys : List ℕ) → xs ≡ ys → same xs ys ≡ true
unfolding same
is_same xs ys e = rw e (go ys)
  where
    go : (zs : List ℕ) → same zs zs ≡ true
    go [] = refl
    go (z ∷ zs) = and_both (eq-eqb z z refl) (go zs)

module _ {A : Type 0} (f : A → Bool) where
  pub every-head : (x : A) (xs : List A) → every f (x ∷ xs) ≡ true → f x ≡ true
  unfolding every
  every-head x xs e = (both (f x) (every f xs) e).0

  pub every-tail : (x : A) (xs : List A) → every f (x ∷ xs) ≡ true → every f xs ≡ true
  unfolding every
  every-tail x xs e = (both (f x) (every f xs) e).1

  pub every_append : (xs ys : List A) → every f (xs ++ ys) ≡ every f xs && every f ys
  unfolding every
  every_append [] ys = refl
  every_append (x ∷ xs) ys = rw (every_append xs ys) (sym (and_assoc (f x) (every f xs) (every f ys)))

  pub every_drop : (n : ℕ) (xs : List A) → every f xs ≡ true → every f (drop n xs) ≡ true
  every_drop zero xs e = e
  every_drop (suc n) [] e = e
  every_drop (suc n) (x ∷ xs) e = every_drop n xs (every-tail x xs e)

  pub every_take : (n : ℕ) (xs : List A) → every f xs ≡ true → every f (take n xs) ≡ true
  unfolding every
  every_take zero xs e = refl
  every_take (suc n) [] e = refl
  every_take (suc n) (x ∷ xs) e = and_both (every-head x xs e) (every_take n xs (every-tail x xs e))

  pub every-at : (xs : List A) (i : ℕ) (d : A) → every f xs ≡ true → i < length xs → f (get_or xs i d) ≡ true
  every-at [] i d e h = absurd (omega arith)
  every-at (x ∷ xs) zero d e h = every-head x xs e
  every-at (x ∷ xs) (suc i) d e h = every-at xs i d (every-tail x xs e) (omega arith)

  pub every-kept : (g : A → Bool) (xs : List A) → every f xs ≡ true → every f (kept g xs) ≡ true
  unfolding kept every
  every-kept g [] e = e
  every-kept g (x ∷ xs) e = go (g x) (every-kept g xs (every-tail x xs e))
    where
      go : (b : Bool) → every f (kept g xs) ≡ true → every f (cond b (x ∷ kept g xs) (kept g xs)) ≡ true
      go true ih = and_both (every-head x xs e) ih
      go false ih = ih

  -- a loop that tests each from the front
  pub every-next : (xs : List A) (i : ℕ) (d : A) → i < length xs → f (get_or xs i d) ≡ true → every f (drop (i + 1) xs) ≡ every f (drop i xs)
  unfolding every
  every-next xs i d h e = rw (add-one i, drop-cons xs i d h, e)

  pub every-stop : (xs : List A) (i : ℕ) (d : A) → i < length xs → f (get_or xs i d) ≡ false → every f (drop i xs) ≡ false
  unfolding every
  every-stop xs i d h e = rw (drop-cons xs i d h, e)

  pub every-end : (xs : List A) (i : ℕ) → length xs ≤ i → every f (drop i xs) ≡ true
  unfolding every
  every-end xs i h = rw (drop_of_length-le xs {i = i} h)

  -- a list of which the first is known
  pub every_first : (xs : List A) (y : A) (ys : List A) → xs ≡ y ∷ ys → f y ≡ true → every f ys ≡ every f xs
  unfolding every
  every_first xs y ys e p = rw (e, p)

  pub every-fails : (xs : List A) (y : A) (ys : List A) → xs ≡ y ∷ ys → f y ≡ false → every f xs ≡ false
  unfolding every
  every-fails xs y ys e p = rw (e, p)

-- a test after a function
pub every_map : {A B : Type 0} (f : B → Bool) (g : A → B) (xs : List A) → every f (map g xs) ≡ every (λ (x : A). f (g x)) xs
unfolding every
every_map f g [] = refl
every_map f g (x ∷ xs) = rw (every_map f g xs) refl

-- a test that each passes
pub every-all : {A : Type 0} (f : A → Bool) (xs : List A) → ((x : A) → f x ≡ true) → every f xs ≡ true
unfolding every
every-all f [] h = refl
every-all f (x ∷ xs) h = and_both (h x) (every-all f xs h)

-- the same, by places
pub every-by : {A : Type 0} (f : A → Bool) (xs : List A) (d : A) → ((i : ℕ) → i < length xs → f (get_or xs i d) ≡ true) → every f xs ≡ true
unfolding every
every-by f [] d h = refl
every-by f (x ∷ xs) d h = and_both (h 0 (omega arith)) (every-by f xs d (λ i l. h (suc i) (omega arith)))

-- a test that follows from another
pub every-mono : {A : Type 0} (f g : A → Bool) (xs : List A) → ((x : A) → f x ≡ true → g x ≡ true) → every f xs ≡ true → every g xs ≡ true
unfolding every
every-mono f g [] h e = refl
every-mono f g (x ∷ xs) h e = and_both (h x (every-head f x xs e)) (every-mono f g xs h (every-tail f x xs e))

-- a function that is the identity where a test passes
pub map_same : {A : Type 0} (f : A → Bool) (g : A → A) (xs : List A) → ((x : A) → f x ≡ true → g x ≡ x) → every f xs ≡ true → map g xs ≡ xs
map_same f g [] h e = refl
map_same f g (x ∷ xs) h e = rw (h x (every-head f x xs e), map_same f g xs h (every-tail f x xs e))

-- each kept passes the test
pub kept-every : {A : Type 0} (f : A → Bool) (xs : List A) → every f (kept f xs) ≡ true
unfolding kept every
kept-every f [] = refl
kept-every f (x ∷ xs) = go (f x) refl (kept-every f xs)
  where
    go : (b : Bool) → f x ≡ b → every f (kept f xs) ≡ true → every f (cond b (x ∷ kept f xs) (kept f xs)) ≡ true
    go true e ih = and_both e ih
    go false e ih = ih

-- those kept of two lists
pub kept_append : {A : Type 0} (f : A → Bool) (xs ys : List A) → kept f (xs ++ ys) ≡ kept f xs ++ kept f ys
unfolding kept
kept_append f [] ys = refl
kept_append f (x ∷ xs) ys = go (f x) (kept_append f xs ys)
  where
    go : (b : Bool) → kept f (xs ++ ys) ≡ kept f xs ++ kept f ys
        → cond b (x ∷ kept f (xs ++ ys)) (kept f (xs ++ ys)) ≡ cond b (x ∷ kept f xs) (kept f xs) ++ kept f ys
    go true ih = ap (λ (l : List _). x ∷ l) ih
    go false ih = ih

-- all are kept where each passes
pub kept_same : {A : Type 0} (f : A → Bool) (xs : List A) → every f xs ≡ true → kept f xs ≡ xs
unfolding kept
kept_same f [] e = refl
kept_same f (x ∷ xs) e = rw (every-head f x xs e, kept_same f xs (every-tail f x xs e))

-- a chain, taken apart
module _ {A : Type 0} (p : A → A → Bool) (x y : A) (ys : List A) (e : linked_from p x (y ∷ ys) ≡ true) where
  pub linked-head : p x y ≡ true
  unfolding linked_from
  linked-head = (both (p x y) (linked_from p y ys) e).0

  pub linked-tail : linked_from p y ys ≡ true
  unfolding linked_from
  linked-tail = (both (p x y) (linked_from p y ys) e).1

-- a chain without its first
pub linked-rest : {A : Type 0} (p : A → A → Bool) (x : A) (xs : List A) → linked_from p x xs ≡ true → linked p xs ≡ true
unfolding linked
linked-rest p x [] e = refl
linked-rest p x (y ∷ ys) e = linked-tail p x y ys e

-- a test over two lists, taken apart
pub every-parts : {A : Type 0} (f : A → Bool) (xs ys : List A) → every f (xs ++ ys) ≡ true → (every f xs ≡ true) × (every f ys ≡ true)
every-parts f xs ys e = both (every f xs) (every f ys) (sym (every_append f xs ys) ∙ e)

-- a front f that is being written over a list t: one entry more, and all of them
pub front-more : {A : Type 0} (f t : List A) (i : ℕ) (v d : A) → i < length f → i < length t → v ≡ get_or f i d
    → set (take i f ++ drop i t) i v ≡ take (i + 1) f ++ drop (i + 1) t
front-more f t i v d hf ht e =
    rw (add-one, drop-cons t i d ht, take-suc f i d hf, e, append_assoc)
    (set_at (take i f) (get_or t i d) (drop (suc i) t) (get_or f i d) i (length-take-le i f (le_of_lt hf)))

pub front-all : {A : Type 0} (f t : List A) (i : ℕ) → i ≡ length f → take i f ++ drop i t ≡ f ++ drop (length f) t
front-all f t i e = rw e (ap (λ (l : List _). l ++ drop (length f) t) (take-length f))

pub length_front : {A : Type 0} (f t : List A) (i : ℕ) → i ≤ length f → i ≤ length t → length (take i f ++ drop i t) ≡ length t
length_front f t i hf ht = length-append (take i f) (drop i t) ∙ omega (arith, length-take-le i f hf, length-drop i t)

-- an entry of a mapped list, whatever stands for the entries past the end
pub get_d-mapped : {A B : Type 0} (f : A → B) (xs : List A) (i : ℕ) (d : A) (e : B) → i < length xs → get_or (map f xs) i e ≡ f (get_or xs i d)
get_d-mapped f [] i d e h = absurd (omega arith)
get_d-mapped f (x ∷ xs) zero d e h = refl
get_d-mapped f (x ∷ xs) (suc i) d e h = get_d-mapped f xs i d e (omega arith)

-- a loop that compares each entry with the one before it
module _ {A : Type 0} (p : A → A → Bool) (xs : List A) (d : A) where
  pub linked-start : 0 < length xs → linked_from p (get_or xs 0 d) (drop 1 xs) ≡ linked p xs
  unfolding linked
  linked-start h = go xs h
    where
      go : (ys : List A) → 0 < length ys → linked_from p (get_or ys 0 d) (drop 1 ys) ≡ linked p ys
      go [] h = absurd (omega arith)
      go (y ∷ ys) h = refl

  pub linked-next : (k : ℕ) (last : A) → k < length xs → p last (get_or xs k d) ≡ true
      → linked_from p (get_or xs k d) (drop (k + 1) xs) ≡ linked_from p last (drop k xs)
  unfolding linked_from
  linked-next k last h e = rw (add-one k, drop-cons xs k d h, e)

  pub linked-stop : (k : ℕ) (last : A) → k < length xs → p last (get_or xs k d) ≡ false → linked_from p last (drop k xs) ≡ false
  unfolding linked_from
  linked-stop k last h e = rw (drop-cons xs k d h, e)

  pub linked-end : (k : ℕ) (last : A) → length xs ≤ k → linked_from p last (drop k xs) ≡ true
  unfolding linked_from
  linked-end k last h = rw (drop_of_length-le xs {i = k} h)

  pub linked-none : length xs ≡ 0 → linked p xs ≡ true
  unfolding linked
  linked-none h = go xs h
    where
      go : (ys : List A) → length ys ≡ 0 → linked p ys ≡ true
      go [] h = refl
      go (y ∷ ys) h = absurd (omega (arith, h))

-- a loop that looks for a number from the front
module _ (k : ℕ) (xs : List ℕ) (i : ℕ) where
  pub has-next : i < length xs → (get_or xs i 0 ≡ k → ⊥) → has k (drop (i + 1) xs) ≡ has k (drop i xs)
  unfolding has
  has-next h e = rw (add-one i, drop-cons xs i 0 h, ne_eqb _ _ e)

  pub has_here : i < length xs → get_or xs i 0 ≡ k → has k (drop i xs) ≡ true
  unfolding has
  has_here h e = rw (drop-cons xs i 0 h, eq-eqb _ _ e)

  pub has_end : length xs ≤ i → has k (drop i xs) ≡ false
  unfolding has
  has_end h = rw (drop_of_length-le xs {i = i} h)
