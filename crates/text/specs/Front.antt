-- A line as it is written into a space from its first digit on. Assumes nothing.
use Rattle.std.specs.Prelude.{◌≡◌, refl, List, [], ◌∷◌, ◌++◌, ℕ, suc, ◌+◌, length, get_or, drop, set}
use Rattle.std.proofs.Common.{sym, ap, ◌∙◌, append-nil, append_assoc, arith, length-append, drop_of_length-le, take_at, drop_at, drop-drop, drop-cons}
use borrow.Rule.Slice.PartMut.{put_mid}
use Rattle.std.proofs.lemmas.List.{set_at}
use Rattle.definitions.specs.Frames.{hex}
use Rattle.text.specs.Digits.{length-hex}

-- of the space t, now xs, the first n bytes are written: they are f
pub record Front (t xs f : List ℕ) (n : ℕ) : Type 0 where
  pub whole : xs ≡ f ++ drop n t
  pub long : length f ≡ n

pub front-none : (t : List ℕ) → Front t t [] 0
front-none t = record { whole = refl; long = refl }

-- w bytes more: m of them were lent, and are now g
pub front-part : {t xs f : List ℕ} {n : ℕ} (w m : ℕ) (g ys : List ℕ) → Front t xs f n → m ≡ w → length g ≡ w → ys ≡ g
    → Front t (put_mid n m xs ys) (f ++ g) (n + w)
front-part {t} {xs} {f} {n} w m g ys h p l q =
    record {
      whole = rw (h.whole, q, p, take_at f (drop n t) n h.long, drop_at f (drop n t) n h.long, drop-drop w n t) (sym (append_assoc f g (drop (n + w) t)));
      long = length-append f g ∙ omega (arith, h.long, l);
    }

-- a field of w digits more: k bytes are what the callee saw
pub front-field : {t xs f : List ℕ} {n : ℕ} (w k v : ℕ) (ys : List ℕ) → Front t xs f n → k ≡ w → ys ≡ hex k v
    → Front t (put_mid n w xs ys) (f ++ hex w v) (n + w)
front-field w k v ys h p q = front-part w w (hex w v) ys h refl (length-hex w v) (q ∙ ap (λ (j : ℕ). hex j v) p)

-- all of the space is written
pub front-all : {t xs f : List ℕ} (n : ℕ) → Front t xs f n → length t ≡ n → xs ≡ f
front-all {t} {xs} {f} n h l = h.whole ∙ rw (drop_of_length-le t {i = n} (omega arith)) (append-nil f)

-- the byte 10 behind all digits fills the space
pub front-end : {t xs f : List ℕ} (n : ℕ) → Front t xs f n → length t ≡ n + 1 → set xs n 10 ≡ f ++ (10 ∷ [])
front-end {t} {xs} {f} n h l =
    rw (h.whole, drop-cons t n 0 (omega arith), drop_of_length-le t {i = suc n} (omega arith))
    (set_at f (get_or t n 0) [] 10 n h.long)
