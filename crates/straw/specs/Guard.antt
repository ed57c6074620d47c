-- The draw with a guard, which is a child that all others are set against: why it ends with the same winner. Assumes nothing.
use Rattle.std.specs.Prelude.{◌≡◌, refl, Bool, true, false, List, ◌⊎◌, ℕ, ◌+◌, ◌<◌, eqb, length, get_or, Some, Option}
use Rattle.std.proofs.Common.{sym, ◌∙◌, subst, ⊎_elim, eq-or-lt_of_le, add-one, arith, eqb-true}
use Rattle.std.proofs.Math.Path.{ap}
use Rattle.std.proofs.lemmas.Bool.{eqb-false}
use Rattle.definitions.specs.Hash.{hash3}
use Rattle.definitions.specs.Straw.{cost, key, key_of, wins, best_to, drawn_of, draw_of}
use Rattle.laws.specs.Draw.{one_more, lost, wins-one, wins-self, wins-greater, loses-on, Won, nobody, leads, best-won}

abbrev pub key_at : ℕ → ℕ → ℕ → List ℕ → List ℕ → ℕ → ℕ
key_at seed x r items weights m = key_of seed x r (get_or items m 0) (get_or weights m 0)

-- the child at place m does not come before that at place p
abbrev pub Behind : ℕ → ℕ → ℕ → List ℕ → List ℕ → ℕ → ℕ → Type 0
Behind seed x r items weights p m =
    wins (get_or items m 0) (key_at seed x r items weights m) (get_or items p 0) (key_at seed x r items weights p) ≡ false

-- the best is a child of weight above 0, and neither the guard, at place g, nor any of the first n children comes before it
pub data Ahead (seed x r : ℕ) (items weights : List ℕ) (g n : ℕ) : Option (ℕ × ℕ) → Type 0 where
  ahead : (p : ℕ) → p < length items → 0 < get_or weights p 0 → Behind seed x r items weights p g
      → ((m : ℕ) → m < n → 0 < get_or weights m 0 → Behind seed x r items weights p m)
      → Ahead seed x r items weights g n (Some (get_or items p 0, key_at seed x r items weights p))

-- the child at place g has a weight above 0
abbrev pub Found : List ℕ → ℕ → Type 0
Found weights g = (g < length weights) × (0 < get_or weights g 0)

-- none of the first n children has
abbrev pub Absent : List ℕ → ℕ → Type 0
Absent weights n = (m : ℕ) → m < n → get_or weights m 0 ≡ 0

-- the hashes stand at the places of the children
abbrev pub Hashed : ℕ → ℕ → ℕ → List ℕ → List ℕ → Type 0
Hashed seed x r items hashes = (n : ℕ) → n < length items → get_or hashes n 0 ≡ hash3 seed x (get_or items n 0) r

-- every other child, at a place m that is not g, loses against that at place g
abbrev pub Loses : List ℕ → List ℕ → ℕ → ℕ → Type 0
Loses hashes weights g m =
    0 < get_or weights m 0 → key (cost (get_or hashes g 0 + 1)) (get_or weights g 0) < key (cost (get_or hashes m 0 + 1)) (get_or weights m 0)

abbrev pub Alone : List ℕ → List ℕ → ℕ → Type 0
Alone hashes weights g = (m : ℕ) → m < length weights → (m ≡ g → ⊥) → Loses hashes weights g m

-- ---- one of many

-- of the first n numbers, r have been counted: g, and at least all that are not P
pub record Counted (P : ℕ → Type 0) (g n r : ℕ) : Type 0 where
  pub itself : g < n → 0 < r
  pub none : r ≡ 0 → (m : ℕ) → m < n → P m
  pub one : r ≡ 1 → g < n → (m : ℕ) → m < n → (m ≡ g → ⊥) → P m

pub counted_none : (P : ℕ → Type 0) (g : ℕ) → Counted P g 0 0
counted_none P g = record { itself = λ h. absurd (omega arith); none = λ e m h. absurd (omega arith); one = λ e h m l f. absurd (omega arith) }

up_to : (n m : ℕ) → m < n + 1 → (m ≡ n) ⊎ (m < n)
up_to n m l = eq-or-lt_of_le (omega arith)

-- one number more, which is counted
pub counted-near : (P : ℕ → Type 0) (g n r : ℕ) → Counted P g n r → Counted P g (n + 1) (r + 1)
counted-near P g n r c =
    record {
      itself = λ l. omega arith;
      none = λ e. absurd (omega arith);
      one = λ e l m j o. ⊎_elim
          (λ y. ⊎_elim (λ z. absurd (o (y ∙ sym z))) (λ z. absurd (omega (arith, c.itself z))) (up_to n g l))
          (λ y. c.none (omega arith) m y) (up_to n m j);
    }

-- or not
pub counted-far : (P : ℕ → Type 0) (g n r : ℕ) → Counted P g n r → P n → (n ≡ g → ⊥) → Counted P g (n + 1) r
counted-far P g n r c p f =
    record {
      itself = λ l. c.itself (below l);
      none = λ e m j. ⊎_elim (λ y. subst P (sym y) p) (c.none e m) (up_to n m j);
      one = λ e l m j o. ⊎_elim (λ y. subst P (sym y) p) (λ y. c.one e (below l) m y o) (up_to n m j);
    }
  where
    below : g < n + 1 → g < n
    below l = ⊎_elim (λ e. absurd (f (sym e))) (λ h. h) (up_to n g l)

module _ (seed x r : ℕ) (items weights : List ℕ) where
  -- the key by a child's hash
  pub hashed-key : (hashes : List ℕ) (n c : ℕ) → Hashed seed x r items hashes → n < length items → c ≡ cost (get_or hashes n 0 + 1)
      → key c (get_or weights n 0) ≡ key_at seed x r items weights n
  unfolding key_of
  hashed-key hashes n c f h e = rw (e, f n h)

  -- the guard, before the first child
  pub guard-first : (g : ℕ) → g < length items → 0 < get_or weights g 0
      → Ahead seed x r items weights g 0 (Some (get_or items g 0, key_at seed x r items weights g))
  guard-first g h q = ahead g h q (wins-self _ _) (λ m l. absurd (omega arith))

  -- one child more, which does not come before the best
  kept : (g n p : ℕ) → p < length items → 0 < get_or weights p 0 → Behind seed x r items weights p g
      → ((m : ℕ) → m < n → 0 < get_or weights m 0 → Behind seed x r items weights p m)
      → (0 < get_or weights n 0 → Behind seed x r items weights p n)
      → Ahead seed x r items weights g (n + 1) (Some (get_or items p 0, key_at seed x r items weights p))
  kept g n p h q s l f = rw (add-one n) (ahead p h q s (one_more (λ m. 0 < get_or weights m 0 → Behind seed x r items weights p m) n l f))

  -- a child is spared that has a greater key than the guard
  pub ahead-spared : (g n : ℕ) (b : Option (ℕ × ℕ)) → (0 < get_or weights n 0 → key_at seed x r items weights g < key_at seed x r items weights n)
      → Ahead seed x r items weights g n b → Ahead seed x r items weights g (n + 1) b
  ahead-spared g n b f (ahead p h q s l) =
      kept g n p h q s l (λ w. loses-on _ _ (get_or items g 0) (key_at seed x r items weights g) _ _ (wins-greater _ _ _ _ (f w)) s)

  -- and the guard itself
  pub ahead-guard : (g n : ℕ) (b : Option (ℕ × ℕ)) → n ≡ g → Ahead seed x r items weights g n b → Ahead seed x r items weights g (n + 1) b
  ahead-guard g n b e (ahead p h q s l) = kept g n p h q s l (λ w. rw e s)

  -- a child that wins leads
  pub ahead-won : (g n i k : ℕ) → n < length items → 0 < get_or weights n 0 → wins (get_or items n 0) (key_at seed x r items weights n) i k ≡ true
      → Ahead seed x r items weights g n (Some (i, k)) → Ahead seed x r items weights g (n + 1) (Some (get_or items n 0, key_at seed x r items weights n))
  ahead-won g n i k o w t (ahead p h q s l) =
      let after = wins-one _ _ _ _ t in
      kept g n n o w (loses-on _ _ _ _ _ _ s after) (λ m k v. loses-on _ _ _ _ _ _ (l m k v) after) (λ v. wins-self _ _)

  -- and one that does not leaves the leader
  pub ahead-lost : (g n i k : ℕ) → wins (get_or items n 0) (key_at seed x r items weights n) i k ≡ false
      → Ahead seed x r items weights g n (Some (i, k)) → Ahead seed x r items weights g (n + 1) (Some (i, k))
  ahead-lost g n i k t (ahead p h q s l) = kept g n p h q s l (λ v. t)

  -- a guard that is alone is ahead of all
  pub ahead-alone : (hashes : List ℕ) (g : ℕ) → Hashed seed x r items hashes → length weights ≡ length items → Found weights g → Alone hashes weights g
      → Ahead seed x r items weights g (length items) (Some (get_or items g 0, key_at seed x r items weights g))
  ahead-alone hashes g f e (h, q) a = ahead g (omega arith) q (wins-self _ _) (λ m l v. go m l v (eqb m g) refl)
    where
      go : (m : ℕ) → m < length items → 0 < get_or weights m 0 → (b : Bool) → eqb m g ≡ b → Behind seed x r items weights g m
      go m l v true z = subst (Behind seed x r items weights g) (sym (eqb-true m g z)) (wins-self _ _)
      go m l v false z =
          wins-greater _ _ _ _
          (rw (← hashed-key hashes g _ f (omega (arith, h, e)) refl, ← hashed-key hashes m _ f l refl) (a m (omega (arith, l, e)) (eqb-false m g z) v))

  -- after the last child the best is the winner
  pub ahead-all : (g : ℕ) (b : Option (ℕ × ℕ)) → Ahead seed x r items weights g (length items) b → drawn_of b ≡ draw_of seed x r items weights
  unfolding draw_of drawn_of
  ahead-all g b (ahead p h q s l) = go (best_to seed x r items weights (length items)) (best-won seed x r items weights (length items))
    where
      go : (d : Option (ℕ × ℕ)) → Won seed x r items weights (length items) d → Some (get_or items p 0) ≡ drawn_of d
      go d (nobody f) = absurd (omega (arith, f p h))
      go d (leads {i} w) =
          let a = lost _ _ _ _ (w.least p h q) in
          let c = lost _ _ _ _ (rw w.item at (l w.place w.inside w.above)) in
          ap Some (omega (arith, a.0, c.0, a.1 (omega arith), c.1 (omega arith)))
