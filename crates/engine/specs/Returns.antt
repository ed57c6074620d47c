-- What return answers, question by question, and where the state of a name was found: laws for the proofs of the engine. Assumes nothing.
use Rattle.std.specs.Prelude.{◌≡◌, true, false, None, Some, List, ℕ, ◌+◌, ◌*◌, ◌/◌, ◌<◌, ◌≤◌, ltb, get_or, drop}
use Rattle.std.proofs.Math.Path.{sym, ap}
use Rattle.std.proofs.Common.{ap₂, subst, ◌∙◌, arith, mul-le-mul_right}
use Rattle.std.proofs.Math.ListN.{length}
use borrow.Author.Tests.{le-leb, lt-leb, lt-ltb, le-ltb}
use Rattle.definitions.specs.declared.Move.{Move}
use Rattle.definitions.specs.Lists.{every, over, first_no}
use Rattle.definitions.specs.Map.{Map, map_of}
use Rattle.definitions.specs.Rule.{width_of}
use Rattle.definitions.specs.Table.{runs_of, table_of}
use Rattle.definitions.specs.Edit.{moves_of, moves_bytes}
use Rattle.definitions.specs.Writing.{map_text}
use Rattle.definitions.specs.Load.{device_ranged}
use Rattle.definitions.specs.States.{drives_in, states_of, numbers_of, names_of, stated, named, devices_named, put_state, return_moves}
use Rattle.definitions.specs.Calls.{whole_with, room_for_table, independent, fresh, room_for_moves, return_case, return_number, return_by, return_answer, return_of}
use Rattle.keeping.specs.States.{how-many, each-has, stated-is, named-fits}
use Rattle.survey.specs.declared.surveys.Findings.{Findings}
use Rattle.survey.specs.Between.{Answers}
use Rattle.moves.specs.declared.applies.Mover.TheVariants.{Return}
use Rattle.moves.specs.Changes.{told-length}
use Rattle.states.specs.Words.{place_of, named-place, devices-named}
use Rattle.returning.specs.Returning.{drives_at, Spelt}
use Rattle.engine.specs.declared.edit.Edited.{Edited}
use Rattle.engine.specs.Answers.{edit_answer}
use Rattle.engine.specs.Edits.{refused_edit}
use Rattle.engine.specs.Editing.{room_for, no-room-for}

-- ---- the state of a name, by where it was found

module _ (m : Map) (ws : List ℕ) (x k n : ℕ) (S : stated m ws ≡ true) (p : n ≡ length m.devices) (q : k ≡ place_of x (names_of (states_of ws))) where
  named-is : named x (states_of ws) ≡ ltb k (get_or ws 0 0)
  named-is = named-place x (states_of ws) ∙ ap₂ ltb (sym q) (how-many ws)

  pub state-missing : get_or ws 0 0 ≤ k → named x (states_of ws) ≡ false
  state-missing h = named-is ∙ le-ltb k (get_or ws 0 0) h

  module _ (h : k < get_or ws 0 0) (a : ℕ) (e : a ≡ 3 + k * (1 + 3 * n)) where
    pub state-there : named x (states_of ws) ≡ true
    state-there = named-is ∙ lt-ltb k (get_or ws 0 0) h

    pub state-drives : devices_named x (states_of ws) ≡ drives_at m ws a
    state-drives =
        devices-named ws x n k (p ∙ sym (each-has m ws (stated-is m ws S) (omega (arith, h)))) q h
        ∙ ap₂ (λ (i j : ℕ). drives_in i (drop j ws)) p (sym e)

    -- its words are all there, and spell the map's drives
    pub state-inside : n ≤ 1024 → a + 3 * length m.devices ≤ 24586
    state-inside few =
        let l : k + 1 ≤ 8 = omega (arith, h, (stated-is m ws S).few, how-many ws) in
        omega (arith, e, p, mul-le-mul_right (1 + 3 * n) l, few)

    pub state-spelt : n ≤ 1024 → length ws ≡ 24586 → Spelt m ws a
    state-spelt few size =
        let f = named-fits m x (states_of ws) (stated-is m ws S).each state-there in
        record {
          inside = omega (arith, state-inside few, size);
          short = omega (arith, size);
          drives = ap numbers_of (sym state-drives) ∙ f.0;
          values = ap (every device_ranged) (sym state-drives) ∙ f.1;
        }

-- ---- return

module _ (f t ws : List ℕ) (x : ℕ) (s : List ℕ) where
  abbrev m : Map
  m = map_of f

  abbrev m' : Map
  m' = put_state m (devices_named x (states_of ws))

  abbrev vs : List Move
  vs = return_moves (moves_of m m')

  pub return-14 : whole_with f ws ≡ false → return_of f t ws x s ≡ refused_edit 14 f t s
  unfolding return_of return_answer return_number return_case first_no return_by
  return-14 h = simp h

  module _ (l : whole_with f ws ≡ true) where
    pub return-16 : length t < m.groups * width_of m → return_of f t ws x s ≡ refused_edit 16 f t s
    unfolding return_of return_answer return_number return_case first_no return_by room_for_table
    return-16 h = simp (l, lt-leb (m.groups * width_of m) (length t) h)

    module _ (r : m.groups * width_of m ≤ length t) where
      pub return-17 : independent m ≡ false → return_of f t ws x s ≡ refused_edit 17 f t s
      unfolding return_of return_answer return_number return_case first_no return_by room_for_table
      return-17 h = simp (l, le-leb (m.groups * width_of m) (length t) r, h)

      module _ (i : independent m ≡ true) where
        pub return-24 : named x (states_of ws) ≡ false → return_of f t ws x s ≡ refused_edit 24 f t s
        unfolding return_of return_answer return_number return_case first_no return_by room_for_table
        return-24 h = simp (l, le-leb (m.groups * width_of m) (length t) r, i, h)

        module _ (k : named x (states_of ws) ≡ true) where
          return-19 : fresh m (runs_of m) t ≡ false → return_of f t ws x s ≡ refused_edit 19 f t s
          unfolding return_of return_answer return_number return_case first_no return_by room_for_table
          return-19 h = simp (l, le-leb (m.groups * width_of m) (length t) r, i, k, h)

          module _ (q : fresh m (runs_of m) t ≡ true) where
            return-20 : room_for_moves vs s ≡ false → return_of f t ws x s ≡ refused_edit 20 f t s
            unfolding return_of return_answer return_number return_case first_no return_by room_for_table moves_of
            return-20 h = simp (l, le-leb (m.groups * width_of m) (length t) r, i, k, q, h)

            return-0 : room_for_moves vs s ≡ true
                → return_of f t ws x s ≡ record { number = 0; moves = length vs; frames = map_text m'; table = over (table_of m') t; space = over (moves_bytes vs) s }
            unfolding return_of return_answer return_number return_case first_no return_by room_for_table moves_of table_of
            return-0 h = simp (l, le-leb (m.groups * width_of m) (length t) r, i, k, q, h)

          -- from what a survey found
          pub stale : Answers m m' t None → (a : Edited) → a ≡ record { number = 19; moves = 0 } → edit_answer a f t s ≡ return_of f t ws x s
          stale A a p = ap (λ (y : Edited). edit_answer y f t s) p ∙ sym (return-19 A)

          module _ (o : Findings) (A : Answers m m' t (Some o)) where
            moves : o.moves ≡ length vs
            moves = A.1 ∙ sym (told-length Return (moves_of m m'))

            pub short : length s / 23 < o.moves → (a : Edited) → a ≡ record { number = 20; moves = 0 } → edit_answer a f t s ≡ return_of f t ws x s
            unfolding room_for_moves
            short w a p =
                ap (λ (y : Edited). edit_answer y f t s) p
                ∙ sym (return-20 A.0 (lt-leb _ (length s) (subst (λ (n : ℕ). length s < 23 * n) moves (no-room-for (length s) o.moves w))))

            pub done : o.moves ≤ length s / 23 → (f' t' s' : List ℕ) → f' ≡ map_text m' → t' ≡ over (table_of m') t
                → s' ≡ over (moves_bytes vs) s → edit_answer (record { number = 0; moves = o.moves }) f' t' s' ≡ return_of f t ws x s
            unfolding room_for_moves
            done w f' t' s' a b d =
                rw (a, b, d, moves)
                (sym (return-0 A.0 (le-leb _ (length s) (subst (λ (n : ℕ). 23 * n ≤ length s) moves (room_for (length s) o.moves w)))))

pub refuses : (n : ℕ) (a : Edited) (f t ws : List ℕ) (x : ℕ) (s : List ℕ) → a ≡ record { number = n; moves = 0 } → return_of f t ws x s ≡ refused_edit n f t s
    → edit_answer a f t s ≡ return_of f t ws x s
refuses n a f t ws x s p q = ap (λ (y : Edited). edit_answer y f t s) p ∙ sym q
