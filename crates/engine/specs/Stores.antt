-- What load and store answer, question by question: laws of their definitions, for the proofs of the engine. Assumes nothing.
use Rattle.std.specs.Prelude.{◌≡◌, Bool, true, false, length, set}
use Rattle.std.proofs.Math.Path.{refl, ap, ap₂}
use Rattle.std.proofs.Common.{sym, ◌∙◌, arith}
use mathlib.Core.List.{List, [], ◌∷◌}
use Prim.Native.Nat.{ℕ, zero, suc, ◌<◌}
use Rattle.definitions.specs.Lists.{joined, over, first_no}
use Rattle.definitions.specs.Map.{map_of}
use Rattle.definitions.specs.Load.{load_number}
use Rattle.definitions.specs.States.{drives_each, words_of, states_of, stated, room_for_name, stored}
use Rattle.definitions.specs.Calls.{SizesAnswer, sizes_by, sizes_of, load_by, load_of, whole_with, store_number, store_by, store_of}
use Rattle.engine.specs.declared.load.Sizes.{Sizes}
use Rattle.engine.specs.Answers.{sizes_answer, load_answer, store_answer}
use Rattle.engine.specs.Calls.{whole-no, whole-yes}

-- ---- load

pub emptied : (ws : List ℕ) → 1 < length ws → set (set ws 0 0) 1 0 ≡ over (words_of []) ws
unfolding words_of joined drives_each
emptied [] h = absurd (omega arith)
emptied (v ∷ []) h = absurd (omega arith)
emptied (v ∷ w ∷ ws) h = refl

module _ (f : List ℕ) (r : Sizes) (e : sizes_answer r ≡ sizes_of f) where
  by_number : (n : ℕ) → sizes_answer r ≡ sizes_by (map_of f) n → (ws us : List ℕ) → (n ≡ 0 → us ≡ over (words_of []) ws) → ((n ≡ 0 → ⊥) → us ≡ ws)
      → load_answer r us ≡ load_by (map_of f) ws n
  unfolding sizes_by load_by
  by_number zero q ws us a b = ap₂ (λ (x : SizesAnswer) (vs : List ℕ). record { number = x.number; groups = x.groups; places = x.places; states = vs }) q (a refl)
  by_number (suc n) q ws us a b =
      ap₂ (λ (x : SizesAnswer) (vs : List ℕ). record { number = x.number; groups = x.groups; places = x.places; states = vs }) q (b (λ z. omega (arith, z)))

  number_is : r.number ≡ load_number f
  unfolding sizes_of sizes_by
  number_is = ap (λ (x : SizesAnswer). x.number) e ∙ go (load_number f)
    where
      go : (n : ℕ) → (sizes_by (map_of f) n).number ≡ n
      go zero = refl
      go (suc n) = refl

  pub load-emptied : (ws us : List ℕ) → us ≡ over (words_of []) ws → r.number ≡ 0 → load_answer r us ≡ load_of f ws
  unfolding load_of sizes_of
  load-emptied ws us h z = by_number (load_number f) e ws us (λ n. h) (λ n. absurd (n (sym number_is ∙ z)))

  pub load-left : (ws : List ℕ) → (r.number ≡ 0 → ⊥) → load_answer r ws ≡ load_of f ws
  unfolding load_of sizes_of
  load-left ws z = by_number (load_number f) e ws ws (λ n. absurd (z (number_is ∙ n))) (λ n. refl)

-- ---- question 14, with states

pub whole-map-no : (f ws : List ℕ) → (load_number f ≡ 0 → ⊥) → whole_with f ws ≡ false
unfolding whole_with
whole-map-no f ws h = rw (whole-no f h) refl

pub whole-states : (f ws : List ℕ) → load_number f ≡ 0 → (b : Bool) → stated (map_of f) ws ≡ b → whole_with f ws ≡ b
unfolding whole_with
whole-states f ws l b e = rw (whole-yes f l) e

-- ---- store

module _ (f ws : List ℕ) (x : ℕ) where
  pub store-14 : whole_with f ws ≡ false → store_answer 14 ws ≡ store_of f ws x
  unfolding store_of store_number first_no store_by
  store-14 h = simp h

  module _ (h : whole_with f ws ≡ true) where
    pub store-25 : room_for_name x (states_of ws) ≡ false → store_answer 25 ws ≡ store_of f ws x
    unfolding store_of store_number first_no store_by
    store-25 r = simp (h, r)

    pub store-0 : room_for_name x (states_of ws) ≡ true → (us : List ℕ) → us ≡ stored (map_of f) x ws → store_answer 0 us ≡ store_of f ws x
    unfolding store_of store_number first_no store_by
    store-0 r us e = simp (h, r, e)
