-- What edit answers behind questions 14 to 18, from what a survey found. Assumes nothing.
use Rattle.std.specs.Prelude.{◌≡◌, true, None, Some, List, ℕ, ◌*◌, ◌/◌, ◌<◌, ◌≤◌, Option}
use Rattle.std.proofs.Common.{sym, ap, ap₂, subst, ◌∙◌, arith, le-leb}
use Rattle.std.proofs.Math.ListN.{length}
use Rattle.std.proofs.lemmas.Bool.{lt-leb}
use Rattle.definitions.specs.declared.Change.{Change}
use Rattle.definitions.specs.Lists.{over}
use Rattle.definitions.specs.Map.{map_of}
use Rattle.definitions.specs.Rule.{width_of}
use Rattle.definitions.specs.Table.{table_of}
use Rattle.definitions.specs.Load.{load_number}
use Rattle.definitions.specs.Edit.{change_of, put, moves_of, moves_bytes}
use Rattle.definitions.specs.Writing.{map_text}
use Rattle.definitions.specs.Calls.{fits, independent, room_for_moves, edit_of}
use Rattle.survey.specs.declared.surveys.Findings.{Findings}
use Rattle.survey.specs.Between.{Answers}
use Rattle.engine.specs.declared.edit.Edited.{Edited}
use Rattle.engine.specs.Answers.{edit_answer}
use Rattle.engine.specs.Edits.{refused_edit, edit-19, edit-20, edit-0}

-- a refusal
pub refuses : (n : ℕ) (a : Edited) (f t e s : List ℕ) → a ≡ record { number = n; moves = 0 } → edit_of f t e s ≡ refused_edit n f t s → edit_answer a f t s ≡ edit_of f t e s
refuses n a f t e s p q = ap (λ (x : Edited). edit_answer x f t s) p ∙ sym q

-- as many moves as the space has room for
pub room_for : (n k : ℕ) → k ≤ n / 23 → 23 * k ≤ n
room_for n k h = omega (arith, h)

pub no-room-for : (n k : ℕ) → n / 23 < k → n < 23 * k
no-room-for n k h = omega (arith, h)

-- and the table has room for the rows
pub room_for_rows : (f t : List ℕ) (g w : ℕ) → g ≡ (map_of f).groups → w ≡ width_of (map_of f) → g * w ≤ length t → (map_of f).groups * width_of (map_of f) ≤ length t
room_for_rows f t g w a b h = subst (λ (n : ℕ). n ≤ length t) (ap₂ (λ (i j : ℕ). i * j) a b) h

module _ (f t e s : List ℕ) (c : Option Change) (q : change_of e ≡ c) (l : load_number f ≡ 0) (r : (map_of f).groups * width_of (map_of f) ≤ length t) (i : independent (map_of f) ≡ true) (k : fits (map_of f) c ≡ true) where
  fit : fits (map_of f) (change_of e) ≡ true
  fit = rw q k

  pub stale : Answers (map_of f) (put (map_of f) c) t None → (a : Edited) → a ≡ record { number = 19; moves = 0 } → edit_answer a f t s ≡ edit_of f t e s
  stale A a p = refuses 19 a f t e s p (edit-19 f t e s l r i fit A)

  module _ (o : Findings) (A : Answers (map_of f) (put (map_of f) c) t (Some o)) where
    moves : o.moves ≡ length (moves_of (map_of f) (put (map_of f) (change_of e)))
    moves = rw q A.1

    pub short : length s / 23 < o.moves → (a : Edited) → a ≡ record { number = 20; moves = 0 } → edit_answer a f t s ≡ edit_of f t e s
    unfolding room_for_moves
    short w a p =
        refuses 20 a f t e s p
        (edit-20 f t e s l r i fit A.0 (lt-leb _ (length s) (subst (λ (n : ℕ). length s < 23 * n) moves (no-room-for (length s) o.moves w))))

    pub done : o.moves ≤ length s / 23 → (f' t' s' : List ℕ) → f' ≡ map_text (put (map_of f) c) → t' ≡ over (table_of (put (map_of f) c)) t
        → s' ≡ over (moves_bytes (moves_of (map_of f) (put (map_of f) c))) s → edit_answer (record { number = 0; moves = o.moves }) f' t' s' ≡ edit_of f t e s
    unfolding room_for_moves
    done w f' t' s' a b d =
        rw (a, b, d, ← q, moves)
        (sym (edit-0 f t e s l r i fit A.0 (le-leb _ (length s) (subst (λ (n : ℕ). 23 * n ≤ length s) moves (room_for (length s) o.moves w)))))
