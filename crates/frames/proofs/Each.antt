-- Laws of a loop over the records of a list: what is known where records 0 to k - 1 are read, one record more, and the end. n is the count that the
-- code has of the list, and x what it reads at place k. Assumes nothing.
use Rattle.std.proofs.Common.{◌≡◌, Bool, true, false, List, ℕ, zero, suc, ◌+◌, ◌-◌, ◌<◌, ◌≤◌, length, get_or, drop, refl, sym, ap, ◌∙◌, arith}
use Rattle.definitions.specs.Lists.{every, linked_from, linked}
use Rattle.frames.specs.Each.{AnswersPairs}
use Rattle.laws.specs.Lists.{every-next, every-stop, every-end, linked-start, linked-next, linked-stop, linked-end, linked-none}

-- ---- a loop that tests each record

module _ {A : Type 0} (f : A → Bool) (xs : List A) where
  -- what the records that are left say is what all say
  abbrev pub Tested : ℕ → Type 0
  Tested k = (k ≤ length xs) × (every f (drop k xs) ≡ every f xs)

  -- no record is read
  pub tested-none : Tested 0
  tested-none = (omega arith, refl)

  module _ (n k : ℕ) (e : n ≡ length xs) (h : Tested k) where
    -- all are read
    pub tested-end : n ≤ k → true ≡ every f xs
    tested-end l = sym (every-end f xs k (omega (arith, e))) ∙ h.1

    module _ (d x : A) (r : Bool) (l : k < n) (p : x ≡ get_or xs k d) (q : r ≡ f x) where
      -- one more passes
      pub tested-next : r ≡ true → Tested (k + 1)
      tested-next u =
          let y : f (get_or xs k d) ≡ true = rw p at (sym q ∙ u) in
          (omega (arith, e), every-next f xs k d (omega (arith, e)) y ∙ h.1)

      -- one does not
      pub tested-stop : r ≡ false → false ≡ every f xs
      tested-stop u =
          let y : f (get_or xs k d) ≡ false = rw p at (sym q ∙ u) in
          sym (every-stop f xs k d (omega (arith, e)) y) ∙ h.1

-- ---- a loop that compares each record with the one before it, which is `last`

module _ {A : Type 0} (p : A → A → Bool) (xs : List A) (d : A) where
  -- what last and the records that are left say is what all say
  abbrev pub Chained : ℕ → A → Type 0
  Chained k last = (k ≤ length xs) × (linked_from p last (drop k xs) ≡ linked p xs)

  module _ (n : ℕ) (e : n ≡ length xs) where
    -- there is no record
    pub chained-none : n ≡ 0 → true ≡ linked p xs
    chained-none z = sym (linked-none p xs d (sym e ∙ z))

    -- the first is read
    pub chained-first : (x : A) → (n ≡ 0 → ⊥) → x ≡ get_or xs 0 d → Chained 1 x
    chained-first x z q = (omega (arith, e), rw q (linked-start p xs d (omega (arith, e))))

    module _ (k : ℕ) (last : A) (h : Chained k last) where
      -- all are read
      pub chained-end : n ≤ k → true ≡ linked p xs
      chained-end l = sym (linked-end p xs d k last (omega (arith, e))) ∙ h.1

      module _ (x : A) (l : k < n) (q : x ≡ get_or xs k d) where
        -- one more is above the last
        pub chained-next : p last x ≡ true → Chained (k + 1) x
        chained-next u =
            let y : p last (get_or xs k d) ≡ true = rw q at u in
            (omega (arith, e), rw q (linked-next p xs d k last (omega (arith, e)) y ∙ h.1))

        -- one is not
        pub chained-stop : p last x ≡ false → false ≡ linked p xs
        chained-stop u =
            let y : p last (get_or xs k d) ≡ false = rw q at u in
            sym (linked-stop p xs d k last (omega (arith, e)) y) ∙ h.1

-- what a closure says of two records, x at place k - 1 and y behind it
pub pair-says : {A : Type 0} (post : A → A → Bool → Type 0) (xs : List A) (d : A) (p : A → A → Bool) → AnswersPairs post xs d p
    → (k : ℕ) → 1 ≤ k → k < length xs → (x y : A) → x ≡ get_or xs (k - 1) d → y ≡ get_or xs k d → (b : Bool) → post x y b → b ≡ p x y
pair-says post xs d p h zero l m x y e f b q = absurd (omega arith)
pair-says post xs d p h (suc j) l m x y e f b q =
    let z : suc j - 1 ≡ j = omega arith in
    let w : suc j ≡ j + 1 = omega arith in
    let e' : x ≡ get_or xs j d = e ∙ ap (λ i. get_or xs i d) z in
    let f' : y ≡ get_or xs (j + 1) d = f ∙ ap (λ i. get_or xs i d) w in
    rw (e', f') (h j (omega arith) b (rw (e', f') at q))
