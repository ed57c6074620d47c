-- What is printed for a line, and of each call that it is what the call answers. Assumes nothing.
use Rattle.std.specs.Prelude.{◌≡◌, Bool, true, false, List, [], ◌∷◌, ◌++◌, take}
use Rattle.std.proofs.Math.Path.{refl, ap}
use Rattle.std.proofs.Common.{sym, subst, ◌∙◌, arith, length-append}
use Prim.Native.Nat.{ℕ, zero, suc, ◌*◌, ◌<◌, ◌≤◌}
use Rattle.std.proofs.Math.Decide.{ℕ_discrete}
use borrow.Author.Tests.{le-leb, lt-leb, leb-true}
use Rattle.std.proofs.Math.ListN.{length}
use Rattle.definitions.specs.Lists.{first_no}
use Rattle.definitions.specs.Map.{map_of}
use Rattle.definitions.specs.Rule.{width_of}
use Rattle.definitions.specs.Load.{load_number}
use Rattle.definitions.specs.Writing.{map_text}
use Rattle.definitions.specs.Calls.{room_for_table, room_for_moves, SizesAnswer, sizes_by, sizes_of, LoadAnswer, load_by, load_of, fill_number, EditAnswer, EditCase, case_of, edit_number, edit_by, edit_answer, edit_of, ReturnCase, return_case, return_number, return_by, return_answer, return_of, WriteAnswer, write_of, write_by, write_number}
use Rattle.laws.specs.Loadable.{ranged-is, slim-is}
use Rattle.text.specs.Loading.{loaded}
use Rattle.engine.specs.Calls.{whole-no, whole-yes, sizes-load, sizes-0}
use Rattle.report.specs.declared.edits.Said.{Said}
use Rattle.report.specs.declared.edits.Said.TheVariants.{Refused, Front, Rows}
use Rattle.protocol.specs.Lines.{refusal_line, row_lines}
use Rattle.report.specs.Edits.{states_at_start, or_refusal, frames_said, rows_said}

-- what is printed
abbrev pub shown : Said → List ℕ → List ℕ → List ℕ
shown (Refused n) table space = refusal_line n
shown (Front n) table space = take n space
shown (Rows g w) table space = row_lines g 0 w table

-- it lies in the space or in the table, and a row is no wider than a line takes
abbrev pub Within : Said → List ℕ → List ℕ → Type 0
Within (Refused n) table space = Unit {0}
Within (Front n) table space = n ≤ length space
Within (Rows g w) table space = (g * w ≤ length table) × (w ≤ 32)

pub record Says (r : Said) (table space text : List ℕ) : Type 0 where
  pub text-is : shown r table space ≡ text
  pub within : Within r table space

-- nothing
pub says_none : (table space : List ℕ) → Says (Front 0) table space []
says_none table space = record { text-is = refl; within = omega arith }

-- what is written at the front lies within the space
pub front-room : (xs ys : List ℕ) (n : ℕ) → length xs ≡ n → n ≤ length (xs ++ ys)
front-room xs ys n h = omega (arith, h, length-append xs ys)

-- ---- a call is refused, or done

pub or-refused : (k : ℕ) (text : List ℕ) → (k ≡ 0 → ⊥) → or_refusal k text ≡ refusal_line k
unfolding or_refusal
or-refused zero text z = absurd (z refl)
or-refused (suc k) text z = refl

pub or-done : (k : ℕ) (text : List ℕ) → k ≡ 0 → or_refusal k text ≡ text
unfolding or_refusal
or-done zero text z = refl
or-done (suc k) text z = absurd (omega (arith, z))

-- ---- the moves of a good edit, and of a good return, have room

-- the questions of an edit, where q + 1 is 18, and of a return, where it is 24: 14, that one and 20, where all are answered yes
pub all_yes : (q : ℕ) (a b c d e f : Bool) → first_no ((14, a) ∷ (16, b) ∷ (17, c) ∷ (suc q, d) ∷ (19, e) ∷ (20, f) ∷ []) ≡ 0
    → (a ≡ true) × (d ≡ true) × (f ≡ true)
unfolding first_no
all_yes q false b c d e f z = absurd (omega arith)
all_yes q true false c d e f z = absurd (omega arith)
all_yes q true true false d e f z = absurd (omega arith)
all_yes q true true true false e f z = absurd (omega arith)
all_yes q true true true true false f z = absurd (omega arith)
all_yes q true true true true true false z = absurd (omega arith)
all_yes q true true true true true true z = (refl, refl, refl)

-- the moves of an answer take no more than a space of n bytes
abbrev pub Room : ℕ → EditAnswer → Type 0
Room n a = a.number ≡ 0 → a.moves * 23 ≤ n

pub edit-room : (f t e s : List ℕ) (a : EditAnswer) → a ≡ edit_of f t e s → Room (length s) a
unfolding edit_of edit_answer edit_by edit_number case_of room_for_moves
edit-room f t e s a i = subst (Room (length s)) (sym i) (go (edit_number C) refl)
  where
    C : EditCase
    C = case_of f t e s

    go : (n : ℕ) → edit_number C ≡ n → Room (length s) (edit_by C n)
    go zero p z = let y = all_yes 17 _ _ _ _ _ _ p in omega (arith, leb-true (23 * length C.moves) (length s) y.2)
    go (suc n) p z = absurd (omega arith)

pub return-room : (f t ws : List ℕ) (x : ℕ) (s : List ℕ) (a : EditAnswer) → a ≡ return_of f t ws x s → Room (length s) a
unfolding return_of return_answer return_by return_number return_case room_for_moves
return-room f t ws x s a i = subst (Room (length s)) (sym i) (go (return_number C) refl)
  where
    C : ReturnCase
    C = return_case f t ws x s

    go : (n : ℕ) → return_number C ≡ n → Room (length s) (return_by C n)
    go zero p z = let y = all_yes 23 _ _ _ _ _ _ p in omega (arith, leb-true (23 * length C.moves) (length s) y.2)
    go (suc n) p z = absurd (omega arith)

-- and where they have, they are printed: n bytes for m moves
pub moves-done : (k m n : ℕ) (table space : List ℕ) → k ≡ 0 → n ≡ m * 23 → m * 23 ≤ length space
    → Says (Front n) table space (or_refusal k (take (m * 23) space))
moves-done k m n table space z q l =
    record { text-is = ap (λ (j : ℕ). take j space) q ∙ sym (or-done k (take (m * 23) space) z); within = omega (arith, q, l) }

-- ---- the map as frames

module _ (f s : List ℕ) (a : WriteAnswer) (i : a ≡ write_of f s) where
  pub frames-refused : (a.number ≡ 0 → ⊥) → frames_said (write_of f s) ≡ refusal_line a.number
  unfolding frames_said
  frames-refused z = ap frames_said (sym i) ∙ or-refused a.number (take a.bytes a.space) z

  pub frames-done : a.number ≡ 0 → (t : List ℕ) → Says (Front a.bytes) t a.space (frames_said (write_of f s))
  unfolding frames_said write_of write_by
  frames-done z t = record { text-is = sym (ap frames_said (sym i) ∙ or-done a.number (take a.bytes a.space) z); within = room }
    where
      written : (k : ℕ) → (write_by (map_of f) s k).number ≡ 0 → (write_by (map_of f) s k).bytes ≤ length (write_by (map_of f) s k).space
      written zero z = front-room (map_text (map_of f)) _ _ refl
      written (suc k) z = absurd (omega (arith, z))

      room : a.bytes ≤ length a.space
      room = rw i (written (write_number f s) (ap (λ (w : WriteAnswer). w.number) (sym i) ∙ z))

-- ---- the table as rows

-- load tells the sizes, and leaves the states that the lines begin with
module _ (f ws : List ℕ) (a : LoadAnswer) (i : a ≡ load_of f ws) where
  pub load-sizes : record { number = a.number; groups = a.groups; places = a.places } ≡ sizes_of f
  unfolding load_of load_by sizes_of sizes_by
  load-sizes = ap (λ (x : LoadAnswer). record { number = x.number; groups = x.groups; places = x.places }) i ∙ go (load_number f)
    where
      go : (n : ℕ) → record { number = (load_by (map_of f) ws n).number; groups = (load_by (map_of f) ws n).groups; places = (load_by (map_of f) ws n).places } ≡ sizes_by (map_of f) n
      go zero = refl
      go (suc n) = refl

  pub load-states : a.states ≡ states_at_start f ws
  load-states = ap (λ (x : LoadAnswer). x.states) i

-- what load tells of a map
pub record Sized (f : List ℕ) (a : SizesAnswer) : Type 0 where
  pub loads : load_number f ≡ 0
  pub groups-are : a.groups ≡ (map_of f).groups
  pub width_is : a.places ≡ width_of (map_of f)
  pub few : a.groups ≤ 65536
  pub slim : a.places ≤ 32

pub sized : (f : List ℕ) (a : SizesAnswer) → a ≡ sizes_of f → a.number ≡ 0 → Sized f a
sized f a i z = go (ℕ_discrete (load_number f) 0)
  where
    go : Dec (load_number f ≡ 0) → Sized f a
    go (yes e) =
        let l = loaded f e in
        let g = ap (λ (x : SizesAnswer). x.groups) (i ∙ sizes-0 f e) in
        let w = ap (λ (x : SizesAnswer). x.places) (i ∙ sizes-0 f e) in
        record {
          loads = e;
          groups-are = g;
          width_is = w;
          few = omega (arith, g, (ranged-is (map_of f) l.ranged).most);
          slim = omega (arith, w, (slim-is (map_of f) l.slim).width);
        }
    go (no h) = absurd (h (sym (ap (λ (x : SizesAnswer). x.number) (i ∙ sizes-load f h)) ∙ z))

-- where the rows of the definition have room, those that are printed have
pub rows-room : (f : List ℕ) (a : SizesAnswer) → Sized f a → (w : ℕ) → w ≡ a.places → (n : ℕ) → (map_of f).groups * width_of (map_of f) ≤ n → a.groups * w ≤ n
rows-room f a z w q n l = rw (q, z.groups-are, z.width_is) l

pub refused : (f : List ℕ) (a : SizesAnswer) → a ≡ sizes_of f → (a.number ≡ 0 → ⊥) → load_number f ≡ 0 → ⊥
refused f a i z e = z (ap (λ (x : SizesAnswer). x.number) (i ∙ sizes-0 f e))

pub rows-14 : (f t : List ℕ) → (load_number f ≡ 0 → ⊥) → rows_said f t ≡ refusal_line 14
unfolding rows_said fill_number first_no or_refusal
rows-14 f t h = rw (whole-no f h)

-- a map that loads, of g groups that are w wide
module _ (f t : List ℕ) (a : SizesAnswer) (z : Sized f a) (g w : ℕ) (p : g ≡ a.groups) (q : w ≡ a.places) where
  counted : g * w ≡ (map_of f).groups * width_of (map_of f)
  counted = rw (p, q, z.groups-are, z.width_is) refl

  pub rows-16 : length t < g * w → rows_said f t ≡ refusal_line 16
  unfolding rows_said fill_number first_no room_for_table or_refusal
  rows-16 l = rw (whole-yes f z.loads, lt-leb ((map_of f).groups * width_of (map_of f)) (length t) (omega (arith, counted, l)))

  rows-0 : g * w ≤ length t → rows_said f t ≡ row_lines a.groups 0 w t
  unfolding rows_said fill_number first_no room_for_table or_refusal
  rows-0 l =
      rw (whole-yes f z.loads, le-leb ((map_of f).groups * width_of (map_of f)) (length t) (omega (arith, counted, l)), q, z.groups-are, z.width_is) refl

  pub rows-done : (space : List ℕ) → g * w ≤ length t → Says (Rows a.groups w) t space (rows_said f t)
  rows-done space l = record { text-is = sym (rows-0 l); within = (rw (← p) l, omega (arith, q, z.slim)) }
