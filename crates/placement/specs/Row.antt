-- A row that holds a list, filled up with holes. Assumes nothing.
use Rattle.std.specs.Prelude.{◌≡◌, refl, List, [], ◌∷◌, ◌++◌, ℕ, zero, suc, ◌+◌, ◌-◌, ◌<◌, ◌≤◌, length, get_or, take, drop, set, replicate}
use Rattle.std.proofs.Common.{sym, ap, ◌∙◌, append-nil, arith, length-append, drop_of_length-le}
use Rattle.std.proofs.lemmas.List.{length-replicate, get_or-replicate}
use Rattle.definitions.specs.Walk.{hole}
use Rattle.laws.specs.Lists.{front-more, front-all}
use Rattle.placement.specs.Bare.{BareRun, filled_up}

pub length-filled : (w : ℕ) (es : List ℕ) → length es ≤ w → length (filled_up w es) ≡ w
unfolding filled_up
length-filled w es h = length-append es (replicate (w - length es) hole) ∙ omega (arith, length-replicate (w - length es) hole)

padded-at : (es : List ℕ) (m i : ℕ) → i < length es + m → get_or (es ++ replicate m hole) i 0 ≡ get_or es i hole
padded-at [] m i h = get_or-replicate m i hole 0 (omega arith)
padded-at (e ∷ es) m zero h = refl
padded-at (e ∷ es) m (suc i) h = padded-at es m i (omega arith)

-- place i of the row is entry i of the list, or a hole
filled_at : (w : ℕ) (es : List ℕ) (i : ℕ) → i < w → get_or (filled_up w es) i 0 ≡ get_or es i hole
unfolding filled_up
filled_at w es i h = padded-at es (w - length es) i (omega arith)

-- a loop that writes the row over a list t: one place more, and all
module _ (es t : List ℕ) (h : length es ≤ length t) where
  pub row_more : (i : ℕ) (r : List ℕ) (e : ℕ) → i < length t → r ≡ take i (filled_up (length t) es) ++ drop i t → e ≡ get_or es i hole
      → set r i e ≡ take (i + 1) (filled_up (length t) es) ++ drop (i + 1) t
  row_more i r e l q p =
      rw q
      (front-more (filled_up (length t) es) t i e 0 (omega (arith, length-filled (length t) es h)) l (p ∙ sym (filled_at (length t) es i l)))

  pub row-all : (i : ℕ) (r : List ℕ) → i ≡ length t → r ≡ take i (filled_up (length t) es) ++ drop i t → r ≡ filled_up (length t) es
  row-all i r e q =
      let f = filled_up (length t) es in
      let k = length-filled (length t) es h in
      q ∙ front-all f t i (omega (arith, k)) ∙ ap (λ (l : List ℕ). f ++ l) (drop_of_length-le t {i = length f} (omega (arith, k))) ∙ append-nil f

holes-behind : (n o : ℕ) → drop n (replicate o hole) ≡ replicate (o - n) hole
holes-behind zero o = let z : o ≡ o - 0 = omega arith in ap (λ (k : ℕ). replicate k hole) z
holes-behind (suc n) zero = let z : 0 ≡ 0 - suc n = omega arith in ap (λ (k : ℕ). replicate k hole) z
holes-behind (suc n) (suc o) = let z : o - n ≡ suc o - suc n = omega arith in holes-behind n o ∙ ap (λ (k : ℕ). replicate k hole) z

-- a list over the front of w holes
pub over_holes : (w : ℕ) (es front : List ℕ) → front ≡ es → front ++ drop (length es) (replicate w hole) ≡ filled_up w es
unfolding filled_up
over_holes w es front e = rw (e, holes-behind (length es) w)

-- a row that holds the list of s holds that of r, which is s, and their tries are the same
pub row_of : (w : ℕ) (row : List ℕ) (s r : BareRun) → s ≡ r → row ≡ filled_up w s.list → (row ≡ filled_up w r.list) × (s.tries ≡ r.tries)
row_of w row s r e q = (q ∙ ap (λ (z : BareRun). filled_up w z.list) e, ap (λ (z : BareRun). z.tries) e)
