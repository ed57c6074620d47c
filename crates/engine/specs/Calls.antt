-- What each call answers, question by question: laws of the definitions in `Calls`, for the proofs of the engine. Assumes nothing.
use Rattle.std.specs.Prelude.{◌≡◌, refl, Bool, true, false, List, ℕ, zero, suc, ◌*◌, ◌<◌, ◌≤◌, leb, length}
use Rattle.std.proofs.Common.{ap, ◌∙◌, arith}
use borrow.Author.Tests.{eq-eqb, ne_eqb, lt-ltb, le-ltb, le-leb, lt-leb, leb-true, leb-false}
use Rattle.definitions.specs.Lists.{over, first_no}
use Rattle.definitions.specs.Map.{map_of}
use Rattle.definitions.specs.Select.{entries_of}
use Rattle.definitions.specs.Rule.{width_of, placed_of}
use Rattle.definitions.specs.Table.{table_of}
use Rattle.definitions.specs.Writing.{day_group}
use Rattle.definitions.specs.Load.{load_number}
use Rattle.definitions.specs.Calls.{whole, group_below, room_for_row, room_for_table, room_for_frames, sizes_by, sizes_of, place_number, place_by, place_of, FillAnswer, fill_number, fill_by, fill_of, write_number, write_by, write_of, day_number, day_by, day_of}
use Rattle.text.specs.Agreement.{loaded-text}

-- question 14
pub whole-no : (f : List ℕ) → (load_number f ≡ 0 → ⊥) → whole f ≡ false
unfolding whole
whole-no f h = ne_eqb (load_number f) 0 h

pub whole-yes : (f : List ℕ) → load_number f ≡ 0 → whole f ≡ true
unfolding whole
whole-yes f e = eq-eqb (load_number f) 0 e

-- ---- the sizes of a map

pub sizes-load : (f : List ℕ) → (load_number f ≡ 0 → ⊥) → sizes_of f ≡ record { number = load_number f; groups = 0; places = 0 }
unfolding sizes_of sizes_by
sizes-load f h = go (load_number f) h
  where
    go : (n : ℕ) → (n ≡ 0 → ⊥) → sizes_by (map_of f) n ≡ record { number = n; groups = 0; places = 0 }
    go zero k = absurd (k refl)
    go (suc n) k = refl

pub sizes-0 : (f : List ℕ) → load_number f ≡ 0 → sizes_of f ≡ record { number = 0; groups = (map_of f).groups; places = width_of (map_of f) }
unfolding sizes_of sizes_by
sizes-0 f e = simp e

-- ---- write

pub write-14 : (f s : List ℕ) → (load_number f ≡ 0 → ⊥) → write_of f s ≡ record { number = 14; bytes = 0; space = s }
unfolding write_of write_number first_no write_by
write-14 f s h = simp (whole-no f h)

module _ (f s : List ℕ) (e : load_number f ≡ 0) where
  pub write-16 : length s < length f → write_of f s ≡ record { number = 16; bytes = 0; space = s }
  unfolding write_of write_number first_no write_by room_for_frames
  write-16 h = simp (whole-yes f e, loaded-text f e, lt-leb (length f) (length s) h)

  pub write-0 : length f ≤ length s → write_of f s ≡ record { number = 0; bytes = length f; space = over f s }
  unfolding write_of write_number first_no write_by room_for_frames
  write-0 h = simp (whole-yes f e, loaded-text f e, le-leb (length f) (length s) h)

-- ---- a day's group

pub day-14 : (f : List ℕ) (show day : ℕ) → (load_number f ≡ 0 → ⊥) → day_of f show day ≡ record { number = 14; group = 0 }
unfolding day_of day_number first_no day_by
day-14 f show day h = simp (whole-no f h)

pub day-0 : (f : List ℕ) (show day : ℕ) → load_number f ≡ 0 → day_of f show day ≡ record { number = 0; group = day_group (map_of f) show day }
unfolding day_of day_number first_no day_by
day-0 f show day e = simp (whole-yes f e)

-- ---- place

pub place-14 : (f : List ℕ) (g : ℕ) (row : List ℕ) → (load_number f ≡ 0 → ⊥) → place_of f g row ≡ record { number = 14; places = 0; tries = 0; row = row }
unfolding place_of place_number first_no place_by
place-14 f g row h = simp (whole-no f h)

module _ (f : List ℕ) (g : ℕ) (row : List ℕ) (e : load_number f ≡ 0) where
  pub place-15 : (map_of f).groups ≤ g → place_of f g row ≡ record { number = 15; places = 0; tries = 0; row = row }
  unfolding place_of place_number first_no place_by group_below
  place-15 h = simp (whole-yes f e, le-ltb g (map_of f).groups h)

  pub place-16 : g < (map_of f).groups → length row < width_of (map_of f) → place_of f g row ≡ record { number = 16; places = 0; tries = 0; row = row }
  unfolding place_of place_number first_no place_by group_below room_for_row
  place-16 h l = simp (whole-yes f e, lt-ltb g (map_of f).groups h, lt-leb (width_of (map_of f)) (length row) l)

  pub place-0 : g < (map_of f).groups → width_of (map_of f) ≤ length row
      → place_of f g row ≡ record { number = 0; places = width_of (map_of f); tries = (placed_of (map_of f) g).tries; row = over (entries_of (placed_of (map_of f) g).places) row }
  unfolding place_of place_number first_no place_by group_below room_for_row
  place-0 h l = simp (whole-yes f e, lt-ltb g (map_of f).groups h, le-leb (width_of (map_of f)) (length row) l)

-- ---- fill

pub fill-14 : (f table : List ℕ) → (load_number f ≡ 0 → ⊥) → fill_of f table ≡ record { number = 14; places = 0; table = table }
unfolding fill_of fill_number first_no fill_by
fill-14 f table h = simp (whole-no f h)

module _ (f table : List ℕ) (e : load_number f ≡ 0) where
  pub fill-16 : length table < (map_of f).groups * width_of (map_of f) → fill_of f table ≡ record { number = 16; places = 0; table = table }
  unfolding fill_of fill_number first_no fill_by room_for_table
  fill-16 l = simp (whole-yes f e, lt-leb ((map_of f).groups * width_of (map_of f)) (length table) l)

  pub fill-0 : (map_of f).groups * width_of (map_of f) ≤ length table
      → fill_of f table ≡ record { number = 0; places = (map_of f).groups * width_of (map_of f); table = over (table_of (map_of f)) table }
  unfolding fill_of fill_number first_no fill_by room_for_table
  fill-0 l = simp (whole-yes f e, le-leb ((map_of f).groups * width_of (map_of f)) (length table) l)

-- a fill that was not refused: the table has room for the rows, and has them at its front
pub record Filling (f table : List ℕ) (o : FillAnswer) : Type 0 where
  pub room : (map_of f).groups * width_of (map_of f) ≤ length table
  pub places : o.places ≡ (map_of f).groups * width_of (map_of f)
  pub rows : o.table ≡ over (table_of (map_of f)) table

pub filling : (f table : List ℕ) (o : FillAnswer) → load_number f ≡ 0 → o ≡ fill_of f table → o.number ≡ 0 → Filling f table o
filling f table o e a z = go (leb k (length table)) refl
  where
    k : ℕ
    k = (map_of f).groups * width_of (map_of f)

    go : (b : Bool) → leb k (length table) ≡ b → Filling f table o
    go true h =
        let l = leb-true k (length table) h in
        let q = a ∙ fill-0 f table e l in
        record { room = l; places = ap (λ (x : FillAnswer). x.places) q; rows = ap (λ (x : FillAnswer). x.table) q }
    go false h =
        let n : o.number ≡ 16 = ap (λ (x : FillAnswer). x.number) (a ∙ fill-16 f table e (leb-false k (length table) h)) in
        absurd (omega (arith, n, z))
