-- Document 01, "The straw draw": laws of the draw. Assumes nothing.
use Rattle.std.proofs.Math.Path.{◌≡◌, subst}
use Rattle.std.specs.Prelude.{refl, Bool, cond, ◌&&◌, ◌||◌, List, ◌⊎◌, ltb, eqb, None, Some, Option}
use Rattle.std.proofs.Common.{sym, ◌∙◌, inl, inr, ⊎_elim, le-div_iff_mul-le, le_trans, mul-le-mul_left, div-mul-le_self, eq-or-lt_of_le, arith, ltb-true, ltb-false, eqb-true, lt-ltb, le-ltb, eq-eqb, ne_eqb}
use Rattle.std.proofs.Math.Bool.{true, false}
use Prim.Native.Nat.{ℕ, zero, suc, ◌+◌, ◌*◌, ◌/◌, ◌^◌, ◌<◌, ◌≤◌}
use Rattle.std.proofs.lemmas.Bool.{eqb-false}
use Rattle.std.proofs.Math.ListN.{length, get_or}
use Rattle.definitions.specs.Hash.{hash3}
use Rattle.definitions.specs.Straw.{cost, key, key_of, wins, better, consider, best_to, drawn_of, draw_of}

-- a greater weight has no greater key
pub key-falls : (c v w : ℕ) → 0 < v → v ≤ w → key c w ≤ key c v
unfolding key
key-falls c v w p h = (le-div_iff_mul-le p).1 (le_trans (mul-le-mul_left (c * 2 ^ 30 / w) h) (div-mul-le_self (c * 2 ^ 30) w))

-- what holds of both arms of a test holds of its outcome
pub by-test : (P : Option (ℕ × ℕ) → Type 0) (t : Bool) {u v : Option (ℕ × ℕ)} → (t ≡ true → P u) → (t ≡ false → P v) → P (cond t u v)
by-test P true f g = f refl
by-test P false f g = g refl

-- and for the test of a weight against 0
pub by_zero : (P : Option (ℕ × ℕ) → Type 0) (w : ℕ) {u v : Option (ℕ × ℕ)} → (w ≡ 0 → P u) → (0 < w → P v) → P (cond (eqb w 0) u v)
by_zero P w f g = by-test P (eqb w 0) (λ e. f (eqb-true w 0 e)) (λ e. g (let h : w ≡ 0 → ⊥ = eqb-false w 0 e in omega arith))

never : {t : Bool} → t ≡ true → t ≡ false → ⊥
never p q = let z : ◌≡◌ {A = ℕ} 0 1 = cc in omega arith

-- a lesser key wins
pub wins-lesser : (i k j l : ℕ) → k < l → wins i k j l ≡ true
unfolding wins
wins-lesser i k j l h = rw (lt-ltb k l h)

-- a greater key does not
pub wins-greater : (i k j l : ℕ) → l < k → wins i k j l ≡ false
unfolding wins
wins-greater i k j l h = rw (le-ltb k l (omega arith), ne_eqb k l (omega arith))

-- of equal keys, the smaller item number
pub wins-equal : (i k j l : ℕ) → k ≡ l → wins i k j l ≡ ltb i j
unfolding wins
wins-equal i k j l e = rw (le-ltb k l (omega arith), eq-eqb k l e)

-- a key no lesser, and of equal keys an item number no smaller, does not win
pub loses : (i k j l : ℕ) → l ≤ k → (k ≡ l → j ≤ i) → wins i k j l ≡ false
loses i k j l h f = ⊎_elim (λ (e : l ≡ k). wins-equal i k j l (sym e) ∙ le-ltb i j (f (sym e))) (wins-greater i k j l) (eq-or-lt_of_le h)

-- and what does not win is so
pub lost : (i k j l : ℕ) → wins i k j l ≡ false → (l ≤ k) × (k ≡ l → j ≤ i)
unfolding wins
lost i k j l = go (ltb k l) (eqb k l) (ltb i j) refl refl refl
  where
    go : (s t u : Bool) → ltb k l ≡ s → eqb k l ≡ t → ltb i j ≡ u → (s || (t && u)) ≡ false → (l ≤ k) × (k ≡ l → j ≤ i)
    go true t u p q o e = absurd (never refl e)
    go false true true p q o e = absurd (never refl e)
    go false true false p q o e = (ltb-false k l p, λ z. ltb-false i j o)
    go false false u p q o e = (ltb-false k l p, λ z. absurd (eqb-false k l q z))

-- of two, at most one wins
pub wins-one : (i k j l : ℕ) → wins i k j l ≡ true → wins j l i k ≡ false
unfolding wins
wins-one i k j l = go (ltb k l) (eqb k l) (ltb i j) refl refl refl
  where
    go : (s t u : Bool) → ltb k l ≡ s → eqb k l ≡ t → ltb i j ≡ u → (s || (t && u)) ≡ true → wins j l i k ≡ false
    go true t u p q o e = let h = ltb-true k l p in loses j l i k (omega arith) (omega arith)
    go false true true p q o e = let h = ltb-true i j o in let z = eqb-true k l q in loses j l i k (omega arith) (omega arith)
    go false true false p q o e = absurd (never e refl)
    go false false u p q o e = absurd (never e refl)

-- none wins against itself
pub wins-self : (i k : ℕ) → wins i k i k ≡ false
wins-self i k = loses i k i k (omega arith) (omega arith)

-- (k, i) not before (l, j), and (l, j) not before (n, h): then (k, i) not before (n, h)
pub loses-on : (i k j l h n : ℕ) → wins i k j l ≡ false → wins j l h n ≡ false → wins i k h n ≡ false
loses-on i k j l h n p q =
    let (a, f) = lost i k j l p in
    let (b, g) = lost j l h n q in
    loses i k h n (omega arith) (λ e. le_trans (g (omega arith)) (f (omega arith)))

-- the bests of two runs that differ at item c only, which weighs more in the second
pub data Raised (c : ℕ) : Option (ℕ × ℕ) → Option (ℕ × ℕ) → Type 0 where
  same : {b : Option (ℕ × ℕ)} → Raised c b b
  from-nobody : {k : ℕ} → Raised c None (Some (c, k))
  from-leads : {i k l : ℕ} → wins i k c l ≡ false → Raised c (Some (i, k)) (Some (c, l))

module _ (c : ℕ) where
  -- the same child
  same-child : (a b : Option (ℕ × ℕ)) (i k : ℕ) → Raised c a b → Raised c (better a i k) (better b i k)
  unfolding better
  same-child a b i k same = same
  same-child a b i k (from-nobody {k = l}) = by-test (Raised c (Some (i, k))) (wins i k c l) (λ h. same) (λ h. from-leads h)
  same-child a b i k (from-leads {i = j} {k = o} {l} g) =
      by-test (λ z. Raised c z (better (Some (c, l)) i k)) (wins i k j o)
      (λ h. by-test (Raised c (Some (i, k))) (wins i k c l) (λ t. same) (λ t. from-leads t))
      (λ h. by-test (Raised c (Some (j, o))) (wins i k c l) (λ t. absurd (never t (loses-on i k j o c l h g))) (λ t. from-leads g))

  -- c itself, of weight 0 in the first
  new-child : (a b : Option (ℕ × ℕ)) (l : ℕ) → Raised c a b → Raised c a (better b c l)
  unfolding better
  new-child a None l same = from-nobody
  new-child a (Some (j, o)) l same = by-test (Raised c (Some (j, o))) (wins c l j o) (λ t. from-leads (wins-one c l j o t)) (λ t. same)
  new-child a b l (from-nobody {k = o}) = by-test (Raised c None) (wins c l c o) (λ t. from-nobody) (λ t. from-nobody)
  new-child a b l (from-leads {i = j} {k = n} {l = o} g) =
      by-test (Raised c (Some (j, n))) (wins c l c o) (λ t. from-leads (loses-on j n c o c l g (wins-one c l c o t))) (λ t. from-leads g)

  -- c itself, with a key no greater in the second
  lighter-child : (a b : Option (ℕ × ℕ)) (k l : ℕ) → wins c k c l ≡ false → Raised c a b → Raised c (better a c k) (better b c l)
  unfolding better
  lighter-child a None k l h same = from-leads h
  lighter-child a (Some (j, o)) k l h same =
      by-test (λ z. Raised c z (better (Some (j, o)) c l)) (wins c k j o)
      (λ s. by-test (Raised c (Some (c, k))) (wins c l j o) (λ t. from-leads h) (λ t. absurd (never s (loses-on c k c l j o h t))))
      (λ s. new-child (Some (j, o)) (Some (j, o)) l same)
  lighter-child a b k l h (from-nobody {k = o}) =
      by-test (Raised c (Some (c, k))) (wins c l c o) (λ t. from-leads h) (λ t. from-leads (loses-on c k c l c o h t))
  lighter-child a b k l h (from-leads {i = j} {k = n} {l = o} g) =
      by-test (λ z. Raised c z (better (Some (c, o)) c l)) (wins c k j n)
      (λ s. by-test (Raised c (Some (c, k))) (wins c l c o) (λ t. from-leads h) (λ t. from-leads (loses-on c k c l c o h t)))
      (λ s. new-child (Some (j, n)) (Some (c, o)) l (from-leads g))

-- two weights of item i: equal, or i is c and weighs no less in the second
abbrev pub Heavier : ℕ → ℕ → ℕ → ℕ → Type 0
Heavier c i v w = (v ≡ w) ⊎ ((i ≡ c) × (v ≤ w))

raised-drawn : (c : ℕ) (a b : Option (ℕ × ℕ)) → Raised c a b → (drawn_of a ≡ drawn_of b) ⊎ (drawn_of b ≡ Some c)
unfolding drawn_of
raised-drawn c a b same = inl refl
raised-drawn c a b from-nobody = inr refl
raised-drawn c a b (from-leads h) = inr refl

-- what holds of each place before n, and of n, holds of each place before n + 1
pub one_more : (P : ℕ → Type 0) (n : ℕ) → ((m : ℕ) → m < n → P m) → P n → (m : ℕ) → m < suc n → P m
one_more P n f p m h = ⊎_elim (λ (e : m ≡ n). subst P (sym e) p) (f m) (eq-or-lt_of_le (omega arith))

-- item i leads the first n children: it is one of them, of weight above 0, and none of weight above 0 comes before it
pub record Least (seed x r : ℕ) (items weights : List ℕ) (n i : ℕ) : Type 0 where
  pub place : ℕ
  pub inside : place < n
  pub item : get_or items place 0 ≡ i
  pub above : 0 < get_or weights place 0
  pub least : (m : ℕ) → m < n → 0 < get_or weights m 0
      → wins (get_or items m 0) (key_of seed x r (get_or items m 0) (get_or weights m 0)) i (key_of seed x r i (get_or weights place 0)) ≡ false

-- what the best of the first n children is
pub data Won (seed x r : ℕ) (items weights : List ℕ) (n : ℕ) : Option (ℕ × ℕ) → Type 0 where
  nobody : ((m : ℕ) → m < n → get_or weights m 0 ≡ 0) → Won seed x r items weights n None
  leads : {i : ℕ} (l : Least seed x r items weights n i) → Won seed x r items weights n (Some (i, key_of seed x r i (get_or weights l.place 0)))

module _ (seed x r : ℕ) where
  -- one child
  consider-raised : (c : ℕ) (a b : Option (ℕ × ℕ)) (i v w : ℕ) → Heavier c i v w → Raised c a b → Raised c (consider seed x r a i v) (consider seed x r b i w)
  unfolding consider key_of
  consider-raised c a b i v w (inl e) s =
      subst (λ n. Raised c (consider seed x r a i v) (consider seed x r b i n)) e
      (go (eqb v 0))
    where
      go : (t : Bool) → Raised c (cond t a (better a i (key_of seed x r i v))) (cond t b (better b i (key_of seed x r i v)))
      go true = s
      go false = same-child c a b i (key_of seed x r i v) s
  consider-raised c a b i v w (inr (e, h)) s =
      subst (λ n. Raised c (consider seed x r a n v) (consider seed x r b n w)) (sym e)
      (by_zero (λ z. Raised c z (consider seed x r b c w)) v
      (λ z. by_zero (Raised c a) w (λ o. s) (λ p. new-child c a b (key_of seed x r c w) s))
      (λ p. by_zero (Raised c (better a c (key_of seed x r c v))) w (λ o. absurd (omega arith))
      (λ o. lighter-child c a b (key_of seed x r c v) (key_of seed x r c w)
      (loses c (key_of seed x r c v) c (key_of seed x r c w) (key-falls (cost (hash3 seed x c r + 1)) v w p h) (omega arith)) s)))

  module _ (c : ℕ) (items vs ws : List ℕ) where
    -- the first n children
    best-raised : (n : ℕ) → ((m : ℕ) → m < n → Heavier c (get_or items m 0) (get_or vs m 0) (get_or ws m 0))
        → Raised c (best_to seed x r items vs n) (best_to seed x r items ws n)
    unfolding best_to
    best-raised zero h = same
    best-raised (suc n) h =
        consider-raised c (best_to seed x r items vs n) (best_to seed x r items ws n) (get_or items n 0) (get_or vs n 0) (get_or ws n 0)
        (h n (omega arith)) (best-raised n (λ m l. h m (omega arith)))

    -- where only the weight of c differs, and is greater in the second, the draws are equal or the second is won by c
    pub draw-law : ((n : ℕ) → n < length items → Heavier c (get_or items n 0) (get_or vs n 0) (get_or ws n 0))
        → (draw_of seed x r items vs ≡ draw_of seed x r items ws) ⊎ (draw_of seed x r items ws ≡ Some c)
    unfolding draw_of
    draw-law h = raised-drawn c (best_to seed x r items vs (length items)) (best_to seed x r items ws (length items)) (best-raised (length items) h)

    -- where the draws then differ, the winner where c weighs more is c
    pub draws-differ : ((n : ℕ) → n < length items → Heavier c (get_or items n 0) (get_or vs n 0) (get_or ws n 0))
        → (draw_of seed x r items vs ≡ draw_of seed x r items ws → ⊥) → draw_of seed x r items ws ≡ Some c
    draws-differ h d = ⊎_elim (λ e. absurd (d e)) (λ w. w) (draw-law h)

  module _ (items weights : List ℕ) where
    abbrev key_at : ℕ → ℕ
    key_at m = key_of seed x r (get_or items m 0) (get_or weights m 0)

    -- the child at place m, where its weight is above 0, does not come before item i of key k
    abbrev After : ℕ → ℕ → ℕ → Type 0
    After i k m = 0 < get_or weights m 0 → wins (get_or items m 0) (key_at m) i k ≡ false

    -- the child at place n leads
    taken : (n : ℕ) → 0 < get_or weights n 0 → ((m : ℕ) → m < n → After (get_or items n 0) (key_at n) m)
        → Won seed x r items weights (suc n) (Some (get_or items n 0, key_at n))
    taken n p f =
        let all = one_more (After (get_or items n 0) (key_at n)) n f (λ q. wins-self (get_or items n 0) (key_at n)) in
        leads (record { place = n; inside = omega arith; item = refl; above = p; least = all })

    won-more : (n : ℕ) (b : Option (ℕ × ℕ)) → Won seed x r items weights n b
        → Won seed x r items weights (suc n) (consider seed x r b (get_or items n 0) (get_or weights n 0))
    unfolding consider better
    won-more n b (nobody f) =
        by_zero (Won seed x r items weights (suc n)) (get_or weights n 0)
        (λ z. nobody (one_more (λ m. get_or weights m 0 ≡ 0) n f z))
        (λ p. taken n p (λ m h q. absurd (omega (arith, f m h))))
    won-more n b (leads {i} l) =
        by_zero (Won seed x r items weights (suc n)) (get_or weights n 0)
        (λ z. kept (λ p. absurd (omega arith)))
        (λ p. by-test (Won seed x r items weights (suc n)) (wins (get_or items n 0) (key_at n) i k)
        (λ t. taken n p (λ m h q. loses-on (get_or items m 0) (key_at m) i k (get_or items n 0) (key_at n) (l.least m h q) (wins-one (get_or items n 0) (key_at n) i k t)))
        (λ t. kept (λ q. t)))
      where
        k : ℕ
        k = key_of seed x r i (get_or weights l.place 0)

        kept : After i k n → Won seed x r items weights (suc n) (Some (i, k))
        kept f = leads (record { place = l.place; inside = omega arith; item = l.item; above = l.above; least = one_more (After i k) n l.least f })

    -- the best of the first n children is nobody where all weigh 0, and else the least of them
    pub best-won : (n : ℕ) → Won seed x r items weights n (best_to seed x r items weights n)
    unfolding best_to
    best-won zero = nobody (λ m h. absurd (omega arith))
    best-won (suc n) = won-more n (best_to seed x r items weights n) (best-won n)

    -- no child of weight above 0 comes before the winner: the least key wins, and of equal keys the smaller item number
    pub draw-least : (i : ℕ) → draw_of seed x r items weights ≡ Some i → Least seed x r items weights (length items) i
    unfolding draw_of drawn_of
    draw-least i = go (best_to seed x r items weights (length items)) (best-won (length items))
      where
        go : (b : Option (ℕ × ℕ)) → Won seed x r items weights (length items) b → drawn_of b ≡ Some i → Least seed x r items weights (length items) i
        go b (nobody f) e = absurd (let z : ◌≡◌ {A = ℕ} 0 1 = cc in omega arith)
        go b (leads {i = j} l) e = subst (Least seed x r items weights (length items)) (let q : j ≡ i = cc in q) l

    -- the winner is a child of weight above 0
    pub winner-child : (i : ℕ) → draw_of seed x r items weights ≡ Some i
        → (n : ℕ) × (n < length items) × (get_or items n 0 ≡ i) × (0 < get_or weights n 0)
    winner-child i e = let l = draw-least i e in (l.place, l.inside, l.item, l.above)

    -- none exactly where there is no child of weight above 0
    pub none-exactly : (draw_of seed x r items weights ≡ None → (n : ℕ) → n < length items → get_or weights n 0 ≡ 0)
        × (((n : ℕ) → n < length items → get_or weights n 0 ≡ 0) → draw_of seed x r items weights ≡ None)
    unfolding draw_of drawn_of
    none-exactly = go (best_to seed x r items weights (length items)) (best-won (length items))
      where
        go : (b : Option (ℕ × ℕ)) → Won seed x r items weights (length items) b → (drawn_of b ≡ None → (n : ℕ) → n < length items → get_or weights n 0 ≡ 0)
            × (((n : ℕ) → n < length items → get_or weights n 0 ≡ 0) → drawn_of b ≡ None)
        go b (nobody f) = (λ e. f, λ h. refl)
        go b (leads l) = (λ e. absurd (let z : ◌≡◌ {A = ℕ} 0 1 = cc in omega arith), λ h. absurd (omega (arith, h l.place l.inside)))
