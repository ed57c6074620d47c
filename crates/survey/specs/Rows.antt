-- Two rows, place by place, and the moves of a row. Assumes nothing.
use Rattle.std.specs.Prelude.{◌≡◌, refl, Bool, true, false, not, cond, List, [], ◌∷◌, ◌++◌, ℕ, zero, suc, ◌+◌, ◌<◌, ◌≤◌, eqb, length, get_or, filter}
use Rattle.std.specs.List.{zip}
use Rattle.std.proofs.Common.{sym, ap, ◌∙◌, ⊎_elim, arith, eq-or-lt_of_le, length-append, ext_get_or}
use Rattle.std.proofs.lemmas.List.{length-map}
use borrow.Author.Tests.{eq-eqb, eqb-true}
use Rattle.definitions.specs.declared.Move.{Move}
use Rattle.definitions.specs.Select.{Place, entries_of, nowhere}
use Rattle.definitions.specs.Edit.{move_at, row_moves_to}
use Rattle.laws.specs.Lists.{get_d-mapped}

-- how many of the first k places differ
unfoldable pub differ_to : List ℕ → List ℕ → ℕ → ℕ
differ_to old new zero = 0
differ_to old new (suc k) = differ_to old new k + cond (eqb (get_or old k 0) (get_or new k 0)) 0 1

pub differ-small : (old new : List ℕ) (k : ℕ) → differ_to old new k ≤ k
unfolding differ_to
differ-small old new zero = omega arith
differ-small old new (suc k) = go (eqb (get_or old k 0) (get_or new k 0)) (differ-small old new k)
  where
    go : (b : Bool) → differ_to old new k ≤ k → differ_to old new k + cond b 0 1 ≤ suc k
    go true h = omega arith
    go false h = omega arith

-- a test of each two entries finds them
pub differ-counted : (old new : List ℕ) → length old ≡ length new → length (filter (λ (p : ℕ × ℕ). not (eqb p.0 p.1)) (zip old new)) ≡ differ_to old new (length old)
unfolding differ_to
differ-counted [] ys e = refl
differ-counted (x ∷ xs) [] e = absurd (omega (arith, e))
differ-counted (x ∷ xs) (y ∷ ys) e = go (eqb x y) (differ-counted xs ys (omega (arith, e))) ∙ sym (front (length xs))
  where
    front : (k : ℕ) → differ_to (x ∷ xs) (y ∷ ys) (suc k) ≡ cond (eqb x y) 0 1 + differ_to xs ys k
    front zero = omega arith
    front (suc k) = omega (arith, front k)

    go : (b : Bool) → length (filter (λ (p : ℕ × ℕ). not (eqb p.0 p.1)) (zip xs ys)) ≡ differ_to xs ys (length xs)
        → length (cond (not b) ((x, y) ∷ filter (λ (p : ℕ × ℕ). not (eqb p.0 p.1)) (zip xs ys)) (filter (λ (p : ℕ × ℕ). not (eqb p.0 p.1)) (zip xs ys)))
        ≡ cond b 0 1 + differ_to xs ys (length xs)
    go true q = omega (arith, q)
    go false q = omega (arith, q)

-- the number of the moves of a row goes by the entries alone
pub differ-moves : (g : ℕ) (ps qs : List Place) (k : ℕ) → k ≤ length ps → k ≤ length qs
    → differ_to (entries_of ps) (entries_of qs) k ≡ length (row_moves_to g ps qs k)
unfolding differ_to row_moves_to move_at entries_of
differ-moves g ps qs zero h l = refl
differ-moves g ps qs (suc k) h l =
    rw (get_d-mapped (λ (p : Place). p.entry) ps k nowhere 0 (omega arith), get_d-mapped (λ (p : Place). p.entry) qs k nowhere 0 (omega arith))
    (go (eqb (get_or ps k nowhere).entry (get_or qs k nowhere).entry) _ (differ-moves g ps qs k (omega arith) (omega arith)))
  where
    go : (b : Bool) (v : Move) → differ_to (entries_of ps) (entries_of qs) k ≡ length (row_moves_to g ps qs k)
        → differ_to (entries_of ps) (entries_of qs) k + cond b 0 1 ≡ length (row_moves_to g ps qs k ++ cond b [] (v ∷ []))
    go true v e = sym (length-append (row_moves_to g ps qs k) [] ∙ omega (arith, e))
    go false v e = sym (length-append (row_moves_to g ps qs k) (v ∷ []) ∙ omega (arith, e))

-- ---- a row with no moves

-- a row does not differ from itself
pub differ_same : (row : List ℕ) (k : ℕ) → 0 ≡ differ_to row row k
unfolding differ_to
differ_same row zero = refl
differ_same row (suc k) = rw (eq-eqb (get_or row k 0) (get_or row k 0) refl, ← differ_same row k) refl

-- no place differs
same-places : (old new : List ℕ) (k : ℕ) → differ_to old new k ≡ 0 → (i : ℕ) → i < k → get_or old i 0 ≡ get_or new i 0
unfolding differ_to
same-places old new zero e i h = absurd (omega arith)
same-places old new (suc k) e i h =
    ⊎_elim (λ (p : i ≡ k). rw p (go (eqb (get_or old k 0) (get_or new k 0)) refl e)) (λ (l : i < k). same-places old new k (omega (arith, e)) i l)
    (eq-or-lt_of_le (omega arith))
  where
    go : (b : Bool) → eqb (get_or old k 0) (get_or new k 0) ≡ b → differ_to old new k + cond b 0 1 ≡ 0 → get_or old k 0 ≡ get_or new k 0
    go true q z = eqb-true (get_or old k 0) (get_or new k 0) q
    go false q z = absurd (omega (arith, z))

pub same_rows : (g w : ℕ) (ps qs : List Place) → length (entries_of ps) ≡ w → length (entries_of qs) ≡ w → row_moves_to g ps qs w ≡ [] → entries_of ps ≡ entries_of qs
unfolding entries_of
same_rows g w ps qs a b e =
    let m = length-map ps (λ (p : Place). p.entry) in
    let n = length-map qs (λ (p : Place). p.entry) in
    ext_get_or 0 (entries_of ps) (entries_of qs) (a ∙ sym b)
    (λ i h. same-places (entries_of ps) (entries_of qs) w (differ-moves g ps qs w (omega (arith, a, m)) (omega (arith, b, n)) ∙ ap length e) i (omega (arith, a, h)))
