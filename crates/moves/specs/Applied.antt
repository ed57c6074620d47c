-- What an edit or a return writes, row by row: the moves into the space for them, and the new rows over the old. Assumes nothing.
use Rattle.std.specs.Prelude.{◌≡◌, refl, get_or}
use Rattle.std.proofs.Math.Path.{sym, ap, ap₂}
use Rattle.std.proofs.Common.{◌∙◌, add-one, eq-or-lt_of_le, mul-le-mul_right, zero-mul, zero-add, length-drop, length-take-le}
use mathlib.Core.List.{List, [], ◌∷◌, ◌++◌, append-nil, append_assoc}
use Rattle.std.proofs.Math.Logic.{⊎_elim}
use Prim.Native.Nat.{ℕ, zero, suc, ◌+◌, ◌-◌, ◌*◌, ◌<◌, ◌≤◌}
use native.Mathlib.Omega.{arith}
use borrow.Rule.Slice.PartMut.{put_mid}
use Rattle.std.proofs.Math.ListN.{length, take, drop, length-append, length-map}
use Rattle.std.proofs.Math.Seq.{take_at, drop_at, drop-drop}
use Rattle.std.proofs.lemmas.List.{take-append-le, drop-append-le}
use Rattle.definitions.specs.declared.Move.{Move}
use Rattle.definitions.specs.Lists.{over}
use Rattle.definitions.specs.Frames.{bytes_of}
use Rattle.definitions.specs.Map.{Map}
use Rattle.definitions.specs.Select.{Place, entries_of, nowhere}
use Rattle.definitions.specs.Rule.{padded}
use Rattle.definitions.specs.Table.{table_of}
use Rattle.definitions.specs.Edit.{parting, cause_of, row_moves_to, moves_of, moves_bytes}
use Rattle.hierarchy.specs.declared.Rule.{Rule}
use Rattle.survey.specs.Rows.{same_rows}
use Rattle.survey.specs.Places.{list_at, places_at, moves_at}
use Rattle.survey.specs.Surveyed.{rows_to, moves_by, rows_split}
use Rattle.moves.specs.declared.applies.Mover.{Mover}
use Rattle.moves.specs.Changes.{as_told, cause_told, told_none, told-append, told-length, changes_to, Written, changes-moves, written_none, written-more, written-length, bytes-append, length-bytes}
use Rattle.survey.specs.Between.{Between, new-table, moves-are}

-- every list is w long
abbrev pub Long : List ℕ → List ℕ → Rule → ℕ → Type 0
Long plan values rule w = (x : ℕ) → length (list_at plan values rule x) ≡ w

module _ (plan values : List ℕ) (rule : Rule) (w : ℕ) (long : Long plan values rule w) (x : ℕ) where
  places-list : places_at plan values rule w x ≡ list_at plan values rule x
  unfolding places_at padded
  places-list =
      let z : w - length (list_at plan values rule x) ≡ 0 = omega (arith, long x) in
      rw z (append-nil (list_at plan values rule x))

  pub length-places : length (places_at plan values rule w x) ≡ w
  length-places = ap length places-list ∙ long x

  pub length-row : length (entries_of (places_at plan values rule w x)) ≡ w
  unfolding entries_of
  length-row = length-map (places_at plan values rule w x) (λ (p : Place). p.entry) ∙ length-places

-- cs has the causes of the places of group g at its front, as r tells them
abbrev pub ToldBy : Mover → List ℕ → List ℕ → List ℕ → Rule → ℕ → List ℕ → Type 0
ToldBy r plan old new rule g cs =
    (j : ℕ) → j < length (list_at plan old rule g)
    → get_or cs j 0 ≡ cause_told r (cause_of (parting (get_or (list_at plan old rule g) j nowhere).walk (get_or (list_at plan new rule g) j nowhere).walk))

module _ (plan old new : List ℕ) (rule : Rule) (w g : ℕ) (l : Long plan old rule w) (l' : Long plan new rule w) where
  abbrev ps : List Place
  ps = places_at plan old rule w g

  abbrev qs : List Place
  qs = places_at plan new rule w g

  -- with them what is written are the moves of its row
  pub told-moves : (r : Mover) (cs row row' : List ℕ) → ToldBy r plan old new rule g cs → row ≡ entries_of ps → row' ≡ entries_of qs
      → changes_to g row row' cs (length row) ≡ as_told r (moves_at plan old new rule w g)
  told-moves r cs row row' c e e' =
      let k : length row ≡ w = ap length e ∙ length-row plan old rule w l g in
      ap₂ (λ (a b : List ℕ). changes_to g a b cs (length row)) e e' ∙ ap (changes_to g (entries_of ps) (entries_of qs) cs) k
      ∙ changes-moves r g ps qs cs w (omega (arith, length-places plan old rule w l g)) (omega (arith, length-places plan new rule w l' g))
      (λ j i. c j (omega (arith, l g))
      ∙ ap₂ (λ (a b : List Place). cause_told r (cause_of (parting (get_or a j nowhere).walk (get_or b j nowhere).walk))) (sym (places-list plan old rule w l g)) (sym (places-list plan new rule w l' g)))

-- ---- a row with no moves

-- nothing is written
unmoved : (u : List ℕ) (at : ℕ) (ms : List Move) → ms ≡ [] → at ≤ length u → Written u u at at (moves_bytes ms)
unfolding moves_bytes bytes_of
unmoved u at ms e h = rw e (written_none u at h)

-- ---- row by row

-- the row of group g in its place
pub record Rewritten (t s : List ℕ) (g w : ℕ) (row : List ℕ) : Type 0 where
  pub whole : s ≡ take (g * w) t ++ (row ++ drop (g * w + w) t)

pub rewritten-part : (t ys row : List ℕ) (g w k : ℕ) → k ≡ w → ys ≡ row → Rewritten t (put_mid (g * w) k t ys) g w row
rewritten-part t ys row g w k e q =
    record { whole = ap₂ (λ (l : List ℕ) (i : ℕ). take (g * w) t ++ (l ++ drop i (drop (g * w) t))) q e ∙ ap (λ (l : List ℕ). take (g * w) t ++ (row ++ l)) (drop-drop w (g * w) t) }

take-drop : (n : ℕ) (l : List ℕ) → l ≡ take n l ++ drop n l
take-drop zero l = refl
take-drop (suc n) [] = refl
take-drop (suc n) (x ∷ l) = ap (λ (y : List ℕ). x ∷ y) (take-drop n l)

-- where it stands there already
rewritten-same : (t row : List ℕ) (g w : ℕ) → take w (drop (g * w) t) ≡ row → Rewritten t t g w row
rewritten-same t row g w e =
    record {
      whole = take-drop (g * w) t
          ∙ ap (λ (l : List ℕ). take (g * w) t ++ l) (take-drop w (drop (g * w) t) ∙ ap₂ (λ (a b : List ℕ). a ++ b) e (drop-drop w (g * w) t));
    }

-- r says what moves the places
module _ (r : Mover) (w : ℕ) (f f' : ℕ → List Place) where
  abbrev Wide : (ℕ → List Place) → Type 0
  Wide h = (x : ℕ) → length (entries_of (h x)) ≡ w

  length-rows : (h : ℕ → List Place) → Wide h → (g : ℕ) → length (rows_to h g) ≡ g * w
  unfolding rows_to
  length-rows h l zero = sym (zero-mul w)
  length-rows h l (suc g) = length-append (rows_to h g) (entries_of (h g)) ∙ omega (arith, length-rows h l g, l g)

  -- the groups below g are written: the table was t, and the space u
  pub record Applied (g : ℕ) (t table u space : List ℕ) (at : ℕ) : Type 0 where
    pub rows : table ≡ rows_to f' g ++ drop (g * w) t
    pub moves : Written u space 0 at (moves_bytes (as_told r (moves_by w f f' g)))

  pub applied-none : (t u : List ℕ) → Applied 0 t t u u 0
  unfolding rows_to moves_by moves_bytes bytes_of
  applied-none t u = record { rows = rw (zero-mul w) refl; moves = rw (told_none r) (written_none u 0 (omega arith)) }

  -- the table has its length
  pub applied-length : (g groups : ℕ) (t table u space : List ℕ) (at : ℕ) → Applied g t table u space at → g ≤ groups → Wide f' → groups * w ≤ length t → length table ≡ length t
  applied-length g groups t table u space at a h wide l =
      ap length a.rows ∙ length-append (rows_to f' g) (drop (g * w) t)
      ∙ omega (arith, length-rows f' wide g, length-drop (g * w) t, mul-le-mul_right w h, l)

  module _ (g groups : ℕ) (t table u space : List ℕ) (at : ℕ) (a : Applied g t table u space at) (h : g < groups) (wide : Wide f) (wide' : Wide f') where
    -- row g is still the old one
    pub old_row : take (groups * w) t ≡ rows_to f groups → groups * w ≤ length t → take w (drop (g * w) table) ≡ entries_of (f g)
    old_row e l =
        let (rest, q) = rows_split f groups g h in
        let small : g * w + w ≤ groups * w = omega (arith, mul-le-mul_right w h) in
        let x : drop (g * w) table ≡ drop (g * w) t = ap (drop (g * w)) a.rows ∙ drop_at (rows_to f' g) (drop (g * w) t) (g * w) (length-rows f' wide' g) in
        let k : length (take (groups * w) t) ≡ groups * w = length-take-le (groups * w) t l in
        let y : take w (drop (g * w) t) ≡ take w (drop (g * w) (take (groups * w) t)) =
        ap (λ (l : List ℕ). take w (drop (g * w) l)) (take-drop (groups * w) t)
        ∙ ap (take w) (drop-append-le (g * w) (take (groups * w) t) (drop (groups * w) t) (omega (arith, k)))
        ∙ take-append-le w (drop (g * w) (take (groups * w) t)) (drop (groups * w) t) (omega (arith, k, length-drop (g * w) (take (groups * w) t))) in
        ap (take w) x ∙ y
        ∙ ap (λ (l : List ℕ). take w (drop (g * w) l)) (e ∙ q)
        ∙ ap (take w) (drop_at (rows_to f g) (entries_of (f g) ++ rest) (g * w) (length-rows f wide g))
        ∙ take_at (entries_of (f g)) rest w (wide g)

    -- there is room for the moves of the row
    pub moves-room : 23 * length (moves_by w f f' groups) ≤ length u → at + 23 * length (row_moves_to g (f g) (f' g) w) ≤ length space
    unfolding moves_by
    moves-room l =
        let m = moves_by w f f' g in
        let z = row_moves_to g (f g) (f' g) w in
        omega (arith, l, up (suc g) groups (omega arith), length-append m z, length-bytes (as_told r m), told-length r m, a.moves.end, written-length a.moves)
      where
        up : (i j : ℕ) → i ≤ j → length (moves_by w f f' i) ≤ length (moves_by w f f' j)
        up i zero p = let q : i ≡ 0 = omega arith in rw q (omega arith)
        up i (suc j) p =
            ⊎_elim (λ (q : i ≡ suc j). rw q (omega arith))
            (λ (l : i < suc j). omega (arith, up i j (omega arith), length-append (moves_by w f f' j) (row_moves_to j (f j) (f' j) w)))
            (eq-or-lt_of_le p)

    -- one row more
    pub applied-more : {table' space' : List ℕ} {at' : ℕ} → Rewritten table table' g w (entries_of (f' g))
        → Written space space' at at' (moves_bytes (as_told r (row_moves_to g (f g) (f' g) w))) → Applied (g + 1) t table' u space' at'
    unfolding rows_to moves_by
    applied-more {table'} p q =
        let k = length-rows f' wide' g in
        let e : g * w + w ≡ suc g * w = omega arith in
        let x : take (g * w) table ≡ rows_to f' g = ap (take (g * w)) a.rows ∙ take_at (rows_to f' g) (drop (g * w) t) (g * w) k in
        let y : drop (g * w + w) table ≡ drop (suc g * w) t =
        sym (drop-drop w (g * w) table) ∙ ap (drop w) (ap (drop (g * w)) a.rows ∙ drop_at (rows_to f' g) (drop (g * w) t) (g * w) k)
        ∙ drop-drop w (g * w) t ∙ ap (λ (i : ℕ). drop i t) e in
        rw (add-one g)
        (record {
          rows = p.whole ∙ ap₂ (λ (b c : List ℕ). b ++ (entries_of (f' g) ++ c)) x y ∙ sym (append_assoc (rows_to f' g) (entries_of (f' g)) (drop (suc g * w) t));
          moves =
              rw (told-append r (moves_by w f f' g) (row_moves_to g (f g) (f' g) w), bytes-append (as_told r (moves_by w f f' g)) (as_told r (row_moves_to g (f g) (f' g) w)))
              (written-more a.moves q);
        })

    -- which is as it was where there are no moves
    pub applied-still : take (groups * w) t ≡ rows_to f groups → groups * w ≤ length t → row_moves_to g (f g) (f' g) w ≡ [] → Applied (g + 1) t table u space at
    applied-still e l none =
        applied-more (rewritten-same table (entries_of (f' g)) g w (old_row e l ∙ same_rows g w (f g) (f' g) (wide g) (wide' g) none))
        (unmoved space at _ (ap (as_told r) none ∙ told_none r) (omega (arith, a.moves.within, written-length a.moves)))

  -- all of them
  pub applied-table : {t table u space : List ℕ} {at : ℕ} (g groups : ℕ) → Wide f' → g ≡ groups → Applied g t table u space at → table ≡ over (rows_to f' groups) t
  applied-table {t} g groups wide e a =
      a.rows ∙ ap (λ (k : ℕ). rows_to f' k ++ drop (k * w) t) e ∙ ap (λ (k : ℕ). rows_to f' groups ++ drop k t) (sym (length-rows f' wide groups))

  pub applied-space : {t table u space : List ℕ} {at : ℕ} (g groups : ℕ) → g ≡ groups → Applied g t table u space at
      → space ≡ over (moves_bytes (as_told r (moves_by w f f' groups))) u
  applied-space {u = u} {at = at} g groups e a =
      let bs = moves_bytes (as_told r (moves_by w f f' g)) in
      a.moves.whole ∙ ap (λ (k : ℕ). bs ++ drop k u) (a.moves.end ∙ zero-add (length bs))
      ∙ ap (λ (k : ℕ). over (moves_bytes (as_told r (moves_by w f f' k))) u) e

-- and so of the two maps
pub applied-maps : (r : Mover) {plan old new : List ℕ} {rule : Rule} {w : ℕ} {t table u space : List ℕ} {at : ℕ} (g groups : ℕ) → Long plan new rule w → g ≡ groups
    → Applied r w (places_at plan old rule w) (places_at plan new rule w) g t table u space at → (m m' : Map) → Between plan old new rule groups w m m'
    → (table ≡ over (table_of m') t) × (space ≡ over (moves_bytes (as_told r (moves_of m m'))) u)
applied-maps r {plan} {old} {new} {rule} {w} {t} {u = u} g groups long e a m m' B =
    let f = places_at plan old rule w in
    let f' = places_at plan new rule w in (
      applied-table r w f f' g groups (length-row plan new rule w long) e a ∙ ap (λ (l : List ℕ). over l t) (new-table m m' B),
      applied-space r w f f' g groups e a ∙ ap (λ (l : List Move). over (moves_bytes (as_told r l)) u) (moves-are m m' B),
    )
