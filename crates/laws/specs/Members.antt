-- Laws of membership in a list, with the definitions' tests. Assumes nothing.
use Rattle.std.specs.Prelude.{◌≡◌, Bool, true, false, cond, ◌||◌, ◌⊎◌, ℕ, zero, suc, ◌<◌, eqb, length, get_or, replicate}
use Rattle.std.proofs.Math.Path.{refl}
use Rattle.std.proofs.Common.{sym, ap, ◌∙◌, subst, inl, inr, ⊎_elim, arith, eqb-true, eq-eqb}
use Rattle.std.proofs.lemmas.Bool.{false≢true}
use Rattle.std.proofs.Math.Bool.{or-true}
use mathlib.Core.List.Memᴰ
use mathlib.Core.List.{List, [], ◌∷◌, ◌++◌, map, Memᴰ}
use Rattle.definitions.specs.Lists.{every, kept, has, distinct}
use Rattle.laws.specs.Lists.{every-head, every-tail}
use Rattle.laws.specs.Counting.{distinct_head, distinct_tail}

module _ {A : Type 0} where
  -- what every entry passes, a member does
  pub mem-every : (p : A → Bool) {x : A} {xs : List A} → Memᴰ x xs → every p xs ≡ true → p x ≡ true
  mem-every p (Memᴰ.head {x = y} {xs = ys} q) e = ap p q ∙ every-head p y ys e
  mem-every p (Memᴰ.tail {x = y} {xs = ys} m) e = mem-every p m (every-tail p y ys e)

  -- a member of what is kept is a member, and passes
  pub mem-kept : (p : A → Bool) (xs : List A) {x : A} → Memᴰ x (kept p xs) → Memᴰ x xs × (p x ≡ true)
  unfolding kept
  mem-kept p [] m = elim m [ ]
  mem-kept p (y ∷ ys) {x} m = go (p y) refl m (λ n. mem-kept p ys n)
    where
      later : Memᴰ x ys × (p x ≡ true) → Memᴰ x (y ∷ ys) × (p x ≡ true)
      later (n, e) = (Memᴰ.tail n, e)

      go : (b : Bool) → p y ≡ b → Memᴰ x (cond b (y ∷ kept p ys) (kept p ys)) → (Memᴰ x (kept p ys) → Memᴰ x ys × (p x ≡ true))
          → Memᴰ x (y ∷ ys) × (p x ≡ true)
      go true e (Memᴰ.head q) rest = (Memᴰ.head q, ap p q ∙ e)
      go true e (Memᴰ.tail n) rest = later (rest n)
      go false e n rest = later (rest n)

  -- the entry at a place is a member
  pub mem-at : (d : A) (xs : List A) (k : ℕ) → k < length xs → Memᴰ (get_or xs k d) xs
  mem-at d [] k l = absurd (omega arith)
  mem-at d (x ∷ xs) zero l = Memᴰ.head refl
  mem-at d (x ∷ xs) (suc k) l = Memᴰ.tail (mem-at d xs k (omega arith))

  -- a member stands at some place
  pub at_mem : (d : A) {x : A} {xs : List A} → Memᴰ x xs → (k : ℕ) × (k < length xs) × (get_or xs k d ≡ x)
  at_mem d (Memᴰ.head q) = (0, omega arith, sym q)
  at_mem d (Memᴰ.tail m) = let (k, l, e) = at_mem d m in (suc k, omega arith, e)

bool_false : (b : Bool) → (b ≡ true → ⊥) → b ≡ false
bool_false true f = absurd (f refl)
bool_false false f = refl

-- a member is in the list
pub mem-has : {k : ℕ} {xs : List ℕ} → Memᴰ k xs → has k xs ≡ true
unfolding has
mem-has {k} (Memᴰ.head {x} q) = rw (eq-eqb x k (sym q))
mem-has {k} (Memᴰ.tail {x} m) = rw (mem-has m) (or-true (eqb x k))

-- what is in the list is a member
pub has-mem : (k : ℕ) (xs : List ℕ) → has k xs ≡ true → Memᴰ k xs
unfolding has
has-mem k [] e = absurd (false≢true e)
has-mem k (x ∷ xs) e = go (eqb x k) refl e (has-mem k xs)
  where
    go : (b : Bool) → eqb x k ≡ b → b || has k xs ≡ true → (has k xs ≡ true → Memᴰ k xs) → Memᴰ k (x ∷ xs)
    go true q f rest = Memᴰ.head (sym (eqb-true x k q))
    go false q f rest = Memᴰ.tail (rest f)

-- what is in two lists one behind the other is in one of them
pub has_either : (k : ℕ) (xs ys : List ℕ) → has k (xs ++ ys) ≡ true → (has k xs ≡ true) ⊎ (has k ys ≡ true)
has_either k xs ys e = ⊎_elim (λ m. inl (mem-has m)) (λ m. inr (mem-has m)) (Memᴰ.append_cases xs (has-mem k (xs ++ ys) e))

-- and what is not is in neither
pub has-neither : (k : ℕ) (xs ys : List ℕ) → has k (xs ++ ys) ≡ false → (has k xs ≡ false) × (has k ys ≡ false)
has-neither k xs ys e = (
  bool_false (has k xs) (λ h. false≢true (sym e ∙ mem-has (Memᴰ.append_left ys (has-mem k xs h)))),
  bool_false (has k ys) (λ h. false≢true (sym e ∙ mem-has (Memᴰ.append_right xs (has-mem k ys h)))),
)

-- of a list in which no number stands twice, the first stands not behind itself
pub not-again : (x : ℕ) (xs : List ℕ) → distinct (x ∷ xs) ≡ true → Memᴰ x xs → ⊥
not-again x xs d m = false≢true (sym (distinct_head x xs d) ∙ mem-has m)

-- where no number stands twice, two members with one number are one
pub one-member : {A : Type 0} (f : A → ℕ) {x y : A} {xs : List A} → Memᴰ x xs → Memᴰ y xs → distinct (map f xs) ≡ true
    → f x ≡ f y → x ≡ y
one-member f (Memᴰ.head p) (Memᴰ.head q) d e = p ∙ sym q
one-member f (Memᴰ.head {x = z} {xs = zs} p) (Memᴰ.tail n) d e =
    absurd (not-again (f z) (map f zs) d (Memᴰ.cast (sym (ap f p) ∙ e) (Memᴰ.map f n)))
one-member f (Memᴰ.tail n) (Memᴰ.head {x = z} {xs = zs} q) d e =
    absurd (not-again (f z) (map f zs) d (Memᴰ.cast (sym (ap f q) ∙ sym e) (Memᴰ.map f n)))
one-member f (Memᴰ.tail {x = z} {xs = zs} m) (Memᴰ.tail n) d e = one-member f m n (distinct_tail (f z) (map f zs) d) e

-- functions that agree on the members
pub map-ext : {A B : Type 0} (v w : A → B) (xs : List A) → ((x : A) → Memᴰ x xs → v x ≡ w x) → map v xs ≡ map w xs
map-ext v w [] h = refl
map-ext v w (x ∷ xs) h = rw (h x (Memᴰ.head refl), map-ext v w xs (λ y m. h y (Memᴰ.tail m)))

-- in a list without a number twice, a number has one place
pub one_index : (xs : List ℕ) → distinct xs ≡ true → (i j : ℕ) → i < length xs → j < length xs → get_or xs i 0 ≡ get_or xs j 0 → i ≡ j
unfolding distinct
one_index [] d i j h l e = absurd (omega arith)
one_index (x ∷ xs) d zero zero h l e = refl
one_index (x ∷ xs) d zero (suc j) h l e = absurd (not-again x xs d (rw e (mem-at 0 xs j (omega arith))))
one_index (x ∷ xs) d (suc i) zero h l e = absurd (not-again x xs d (rw (← e) (mem-at 0 xs i (omega arith))))
one_index (x ∷ xs) d (suc i) (suc j) h l e = ap suc (one_index xs (distinct_tail x xs d) i j (omega arith) (omega arith) e)

-- ---- what holds of each entry

abbrev pub Each : {A : Type 0} → (A → Type 0) → List A → Type 0
Each {A} P xs = (x : A) → Memᴰ x xs → P x

module _ {A : Type 0} (P : A → Type 0) where
  pub each_none : Each P []
  each_none x i = elim i [ ]

  pub each-one : (x : A) → P x → Each P (x ∷ [])
  each-one x h y i = subst P (sym (Memᴰ.eq_of_singleton i)) h

  pub each_more : (xs ys : List A) → Each P xs → Each P ys → Each P (xs ++ ys)
  each_more xs ys h k x i = ⊎_elim (h x) (k x) (Memᴰ.append_cases xs i)

  pub each_at : (xs : List A) (i : ℕ) (d : A) → Each P xs → i < length xs → P (get_or xs i d)
  each_at xs i d h l = h (get_or xs i d) (mem-at d xs i l)

  pub each-copies : (n : ℕ) (x : A) → P x → Each P (replicate n x)
  each-copies zero x h = each_none
  each-copies (suc n) x h = each_more (x ∷ []) (replicate n x) (each-one x h) (each-copies n x h)
