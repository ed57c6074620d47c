-- The lines that program `fill` prints, as they are written from their first digit on. Assumes nothing.
use Rattle.std.specs.Prelude.{◌≡◌, refl, List, [], ◌∷◌, ◌++◌, map, ℕ, ◌+◌, ◌*◌, ◌<◌, length, get_or, take, set}
use Rattle.std.proofs.Common.{sym, ◌∙◌, append-nil, append_assoc, arith, add-one, length-append, take-suc}
use Rattle.std.proofs.lemmas.List.{map-append}
use borrow.Rule.Slice.PartMut.{put_mid}
use Rattle.definitions.specs.Lists.{joined}
use Rattle.definitions.specs.Frames.{hex}
use Rattle.text.specs.Digits.{length-hex}
use Rattle.text.specs.Front.{Front, front-part, front-end}
use Rattle.protocol.specs.Lines.{row_line, refusal_line}

-- ---- the row of a group

joined-append : (xs ys : List (List ℕ)) → joined (xs ++ ys) ≡ joined xs ++ joined ys
unfolding joined
joined-append [] ys = refl
joined-append (x ∷ xs) ys = rw (joined-append xs ys) (sym (append_assoc x (joined xs) (joined ys)))

places-more : (row : List ℕ) (i : ℕ) → i < length row → joined (map (hex 4) (take (i + 1) row)) ≡ joined (map (hex 4) (take i row)) ++ hex 4 (get_or row i 0)
unfolding joined
places-more row i h =
    rw (add-one, take-suc row i 0 h, map-append (hex 4) (take i row) (get_or row i 0 ∷ []), joined-append (map (hex 4) (take i row)) (map (hex 4) (get_or row i 0 ∷ [])), append-nil (hex 4 (get_or row i 0)))

-- one place more: m bytes were asked for, and k were lent
pub front-place : {t xs : List ℕ} {n : ℕ} (row : List ℕ) (i m k v : ℕ) (ys : List ℕ) → i < length row → m ≡ 4 → k ≡ 4 → v ≡ get_or row i 0 → ys ≡ hex k v
    → Front t xs (joined (map (hex 4) (take i row))) n → Front t (put_mid n m xs ys) (joined (map (hex 4) (take (i + 1) row))) (n + 4)
front-place row i m k v ys h p q r e f =
    rw (places-more row i h) (front-part 4 m (hex 4 (get_or row i 0)) ys f p (length-hex 4 (get_or row i 0)) (e ∙ rw (q, r)))

pub length-places : (row : List ℕ) → length (joined (map (hex 4) row)) ≡ 4 * length row
unfolding joined
length-places [] = refl
length-places (v ∷ row) = length-append (hex 4 v) (joined (map (hex 4) row)) ∙ omega (arith, length-hex 4 v, length-places row)

-- the whole line
pub row-end : {t xs : List ℕ} (group : ℕ) (row : List ℕ) (n : ℕ) → Front t xs ([] ++ hex 2 17 ++ hex 8 group ++ joined (map (hex 4) row)) n → length t ≡ n + 1
    → set xs n 10 ≡ row_line group row
row-end group row n f l = front-end n f l ∙ simp append_assoc

pub length-row : (group : ℕ) (row : List ℕ) → length (row_line group row) ≡ 11 + 4 * length row
length-row group row = simp (length-append, length-hex, length-places) (omega arith)

-- ---- a refusal

pub refusal-end : {t xs : List ℕ} (number : ℕ) → Front t xs ([] ++ hex 2 31 ++ hex 2 number) 4 → length t ≡ 5 → set xs 4 10 ≡ refusal_line number
refusal-end number f l = front-end 4 f l ∙ simp append_assoc

pub length-refusal : (number : ℕ) → length (refusal_line number) ≡ 5
length-refusal number = simp (length-append, length-hex)
