-- Places as bytes, two each. Assumes nothing.
use Rattle.std.specs.Prelude.{◌≡◌, refl, List, [], ◌∷◌, ◌++◌, ℕ, suc, ◌+◌, ◌*◌, ◌/◌, ◌%◌, ◌<◌, ◌≤◌, length, get_or, take, drop, set}
use Rattle.std.proofs.Common.{sym, ap, ◌∙◌, append_assoc, arith, add-one, length-append, take-suc, drop-cons, length-take-le}
use Rattle.std.proofs.Math.Seq.{take-length}
use Rattle.std.proofs.lemmas.List.{set_at}
use Rattle.definitions.specs.Lists.{joined, over}
use Rattle.definitions.specs.Writing.{two_bytes}

length_two : (ps : List ℕ) → length (two_bytes ps) ≡ 2 * length ps
unfolding two_bytes joined
length_two [] = refl
length_two (p ∷ ps) = omega (arith, length_two ps)

two-append : (ps : List ℕ) (p : ℕ) → two_bytes (ps ++ (p ∷ [])) ≡ two_bytes ps ++ (p / 256 ∷ p % 256 ∷ [])
unfolding two_bytes joined
two-append [] p = refl
two-append (q ∷ ps) p = ap (λ (l : List ℕ). q / 256 ∷ q % 256 ∷ l) (two-append ps p)

-- one place more, behind the bytes of the i before it
pub bytes-more : (row t out : List ℕ) (i hi lo : ℕ) → i < length row → 2 * length row ≤ length t → hi ≡ get_or row i 0 / 256 → lo ≡ get_or row i 0 % 256
    → out ≡ two_bytes (take i row) ++ drop (2 * i) t
    → set (set out (2 * i) hi) (2 * i + 1) lo ≡ two_bytes (take (i + 1) row) ++ drop (2 * (i + 1)) t
bytes-more row t out i hi lo h l p q e =
    let a = two_bytes (take i row) in
    let n : length a ≡ 2 * i = length_two (take i row) ∙ ap (λ (k : ℕ). 2 * k) (length-take-le i row (omega arith)) in
    let d1 : drop (2 * i) t ≡ get_or t (2 * i) 0 ∷ drop (suc (2 * i)) t = drop-cons t (2 * i) 0 (omega arith) in
    let d2 : drop (suc (2 * i)) t ≡ get_or t (suc (2 * i)) 0 ∷ drop (suc (suc (2 * i))) t = drop-cons t (suc (2 * i)) 0 (omega arith) in
    let k : suc (suc (2 * i)) ≡ 2 * (i + 1) = omega arith in
    let r : List ℕ = drop (2 * (i + 1)) t in
    let o : out ≡ a ++ (get_or t (2 * i) 0 ∷ get_or t (suc (2 * i)) 0 ∷ r) =
    e ∙ ap (λ (x : List ℕ). a ++ x) (d1 ∙ ap (λ (x : List ℕ). get_or t (2 * i) 0 ∷ x) (d2 ∙ ap (λ (z : ℕ). get_or t (suc (2 * i)) 0 ∷ drop z t) k)) in
    let s1 : set out (2 * i) hi ≡ a ++ (hi ∷ get_or t (suc (2 * i)) 0 ∷ r) = ap (λ (x : List ℕ). set x (2 * i) hi) o ∙ set_at a (get_or t (2 * i) 0) (get_or t (suc (2 * i)) 0 ∷ r) hi (2 * i) n in
    let m : length (a ++ (hi ∷ [])) ≡ 2 * i + 1 = length-append a (hi ∷ []) ∙ omega (arith, n) in
    let s2 : set (set out (2 * i) hi) (2 * i + 1) lo ≡ (a ++ (hi ∷ [])) ++ (lo ∷ r) =
    ap (λ (x : List ℕ). set x (2 * i + 1) lo) (s1 ∙ sym (append_assoc a (hi ∷ []) (get_or t (suc (2 * i)) 0 ∷ r)))
    ∙ set_at (a ++ (hi ∷ [])) (get_or t (suc (2 * i)) 0) r lo (2 * i + 1) m in
    let w : two_bytes (take (i + 1) row) ≡ a ++ (hi ∷ lo ∷ []) =
    ap two_bytes (ap (λ (z : ℕ). take z row) (add-one i) ∙ take-suc row i 0 h) ∙ two-append (take i row) (get_or row i 0) ∙ rw (p, q) in
    s2 ∙ append_assoc a (hi ∷ []) (lo ∷ r) ∙ sym (append_assoc a (hi ∷ lo ∷ []) r) ∙ ap (λ (x : List ℕ). x ++ r) (sym w)

-- all of them
pub bytes-all : (row t : List ℕ) (i : ℕ) → i ≡ length row → two_bytes (take i row) ++ drop (2 * i) t ≡ over (two_bytes row) t
bytes-all row t i e =
    rw e (rw (take-length row) (ap (λ (k : ℕ). two_bytes row ++ drop k t) (sym (length_two row))))
