-- What edit answers, question by question: laws of its definition, for the proofs of the engine. Assumes nothing.
use Rattle.std.specs.Prelude.{◌≡◌, true, false, List, ℕ, ◌*◌, ◌<◌, ◌≤◌, length, Option}
use borrow.Author.Tests.{le-leb, lt-leb}
use Rattle.definitions.specs.declared.Change.{Change}
use Rattle.definitions.specs.Lists.{over, first_no}
use Rattle.definitions.specs.Map.{Map, map_of}
use Rattle.definitions.specs.Rule.{width_of}
use Rattle.definitions.specs.Table.{runs_of, table_of}
use Rattle.definitions.specs.Edit.{change_of, put, moves_of, moves_bytes}
use Rattle.definitions.specs.Writing.{map_text}
use Rattle.definitions.specs.Load.{load_number}
use Rattle.definitions.specs.Calls.{room_for_table, independent, fits, fresh, room_for_moves, EditAnswer, case_of, edit_number, edit_by, edit_answer, edit_of}
use Rattle.engine.specs.Calls.{whole-no, whole-yes}

-- a refusal with number n
abbrev pub refused_edit : ℕ → List ℕ → List ℕ → List ℕ → EditAnswer
refused_edit n f t s = record { number = n; moves = 0; frames = f; table = t; space = s }

module _ (f t e s : List ℕ) where
  abbrev m : Map
  m = map_of f

  abbrev c : Option Change
  c = change_of e

  pub edit-14 : (load_number f ≡ 0 → ⊥) → edit_of f t e s ≡ refused_edit 14 f t s
  unfolding edit_of edit_answer edit_number case_of first_no edit_by
  edit-14 h = simp (whole-no f h)

  module _ (l : load_number f ≡ 0) where
    pub edit-16 : length t < m.groups * width_of m → edit_of f t e s ≡ refused_edit 16 f t s
    unfolding edit_of edit_answer edit_number case_of first_no edit_by room_for_table
    edit-16 h = simp (whole-yes f l, lt-leb (m.groups * width_of m) (length t) h)

    module _ (r : m.groups * width_of m ≤ length t) where
      pub edit-17 : independent m ≡ false → edit_of f t e s ≡ refused_edit 17 f t s
      unfolding edit_of edit_answer edit_number case_of first_no edit_by room_for_table
      edit-17 h = simp (whole-yes f l, le-leb (m.groups * width_of m) (length t) r, h)

      module _ (i : independent m ≡ true) where
        pub edit-18 : fits m c ≡ false → edit_of f t e s ≡ refused_edit 18 f t s
        unfolding edit_of edit_answer edit_number case_of first_no edit_by room_for_table
        edit-18 h = simp (whole-yes f l, le-leb (m.groups * width_of m) (length t) r, i, h)

        module _ (k : fits m c ≡ true) where
          pub edit-19 : fresh m (runs_of m) t ≡ false → edit_of f t e s ≡ refused_edit 19 f t s
          unfolding edit_of edit_answer edit_number case_of first_no edit_by room_for_table
          edit-19 h = simp (whole-yes f l, le-leb (m.groups * width_of m) (length t) r, i, k, h)

          module _ (q : fresh m (runs_of m) t ≡ true) where
            pub edit-20 : room_for_moves (moves_of m (put m c)) s ≡ false → edit_of f t e s ≡ refused_edit 20 f t s
            unfolding edit_of edit_answer edit_number case_of first_no edit_by room_for_table moves_of
            edit-20 h = simp (whole-yes f l, le-leb (m.groups * width_of m) (length t) r, i, k, q, h)

            pub edit-0 : room_for_moves (moves_of m (put m c)) s ≡ true
                → edit_of f t e s ≡ record { number = 0; moves = length (moves_of m (put m c)); frames = map_text (put m c); table = over (table_of (put m c)) t; space = over (moves_bytes (moves_of m (put m c))) s }
            unfolding edit_of edit_answer edit_number case_of first_no edit_by room_for_table moves_of table_of
            edit-0 h = simp (whole-yes f l, le-leb (m.groups * width_of m) (length t) r, i, k, q, h)
