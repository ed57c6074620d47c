-- A line that asks for something has two bytes or six. Assumes nothing.
use Rattle.std.specs.Prelude.{◌≡◌, refl, Bool, true, false, ◌&&◌, List, [], ◌∷◌, ℕ, ◌<◌, eqb, length, drop}
use Rattle.std.proofs.Common.{ap, arith, eq-eqb, ne_eqb}
use Rattle.std.specs.Str.{bytes_eq}
use Rattle.definitions.specs.Lists.{every, same}
use Rattle.definitions.specs.Frames.{is_digit, value}
use Rattle.laws.specs.Chains.{eq-same}
use Rattle.protocol.specs.declared.asked.Program.{Program}
use Rattle.protocol.specs.declared.asked.Program.TheVariants.{Fill, Operate}
use Rattle.protocol.specs.declared.asked.Asked.TheVariants.{Store, Return, Nothing}
use Rattle.protocol.specs.Asked.{named_by, named_of, asked_of}

-- what `==` says of two lines (the lemma, by a name that a line of the source can cite)
pub bytes_are : (xs ys : List ℕ) → bytes_eq xs ys ≡ same xs ys
bytes_are = eq-same

-- a call has two bytes
pub other : (ys : List ℕ) (a b : ℕ) → (length ys ≡ 2 → ⊥) → same ys (a ∷ b ∷ []) ≡ false
unfolding same
other [] a b h = refl
other (y ∷ []) a b h = first (eqb y a)
  where
    first : (q : Bool) → (q && false) ≡ false
    first true = refl
    first false = refl
other (y ∷ z ∷ []) a b h = absurd (h refl)
other (y ∷ z ∷ x ∷ ys) a b h = both (eqb y a) (eqb z b)
  where
    both : (q r : Bool) → (q && (r && false)) ≡ false
    both true true = refl
    both true false = refl
    both false r = refl

-- ---- a line with a name

-- not six bytes
pub not-six : (ys : List ℕ) → (length ys ≡ 6 → ⊥) → named_of ys ≡ Nothing
unfolding named_of
not-six ys h = rw (ne_eqb (length ys) 6 h)

-- not all digits
pub not-digits : (ys : List ℕ) → length ys ≡ 6 → every is_digit ys ≡ false → named_of ys ≡ Nothing
unfolding named_of
not-digits ys h e = rw (eq-eqb (length ys) 6 h, e)

-- six digits, by what their fields hold
pub by_kind : (ys : List ℕ) (k n : ℕ) → length ys ≡ 6 → every is_digit ys ≡ true → k ≡ value 2 ys → n ≡ value 4 (drop 2 ys) → named_of ys ≡ named_by k n
unfolding named_of
by_kind ys k n h e p q = rw (eq-eqb (length ys) 6 h, e, p, q)

pub stores : (k n : ℕ) → k ≡ 35 → named_by k n ≡ Store n
unfolding named_by
stores k n e = rw (eq-eqb k 35 e)

pub returns_to : (k n : ℕ) → (k ≡ 35 → ⊥) → k ≡ 36 → named_by k n ≡ Return n
unfolding named_by
returns_to k n h e = rw (ne_eqb k 35 h, eq-eqb k 36 e)

pub no_kind : (k n : ℕ) → (k ≡ 35 → ⊥) → (k ≡ 36 → ⊥) → named_by k n ≡ Nothing
unfolding named_by
no_kind k n h e = rw (ne_eqb k 35 h, ne_eqb k 36 e)

-- ---- a longer line asks for nothing

pub asked-long : (p : Program) (ys : List ℕ) → 6 < length ys → asked_of p ys ≡ Nothing
unfolding asked_of
asked-long Fill ys h = refl
asked-long Operate ys h =
    rw (other ys 50 99 (λ e. omega (arith, e, h)), other ys 50 100 (λ e. omega (arith, e, h))) (not-six ys (λ e. omega (arith, e, h)))
