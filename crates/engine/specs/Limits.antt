-- What the ceiling answers, question by question, and behind them from what is found of the table: laws of its definition, for the proofs of the
-- engine. Assumes nothing.
use Rattle.std.specs.Prelude.{◌≡◌, Bool, true, false, Some, None, List, ◌++◌, ℕ, ◌*◌, ◌<◌, ◌≤◌, length, take, drop}
use Rattle.std.proofs.Common.{sym, ap, ap₂, ◌∙◌, subst, take-append-drop}
use borrow.Author.Tests.{le-leb, lt-leb}
use Rattle.definitions.specs.Lists.{same, first_no}
use Rattle.definitions.specs.Map.{Map, map_of}
use Rattle.definitions.specs.Rule.{width_of}
use Rattle.definitions.specs.Table.{runs_of, table_of}
use Rattle.definitions.specs.Ceiling.{holders}
use Rattle.definitions.specs.Load.{has_device, load_number}
use Rattle.definitions.specs.Calls.{room_for_table, independent, fresh, CeilingAnswer, ceiling_number, ceiling_by, ceiling_of}
use Rattle.laws.specs.Lists.{same-is}
use Rattle.laws.specs.Counting.{at-number}
use Rattle.laws.specs.Loadable.{Loadable}
use Rattle.text.specs.Records.{no_device}
use Rattle.text.specs.Agreement.{loaded-map}
use Rattle.edit_frame.specs.Found.{FoundIs}
use Rattle.hierarchy.specs.declared.Rule.{Rule}
use Rattle.ceiling.specs.Rows.{rows_holding, front-holders}
use Rattle.survey.specs.Places.{places_at}
use Rattle.survey.specs.Surveyed.{rows_to}
use Rattle.survey.specs.Between.{Between, fresh-is, old-table}
use Rattle.engine.specs.declared.limit.Limit.{Limit}
use Rattle.engine.specs.Answers.{ceiling_answer}
use Rattle.engine.specs.Calls.{whole-no, whole-yes}
use Rattle.loaded.specs.Compiled.{Compiled}

-- a refusal with number n
abbrev pub refused_ceiling : ℕ → CeilingAnswer
refused_ceiling n = record { number = n; groups = 0; moves = 0 }

pub refuses : (n : ℕ) (a : Limit) (f t : List ℕ) (d : ℕ) → a ≡ record { number = n; groups = 0; moves = 0 } → ceiling_of f t d ≡ refused_ceiling n
    → ceiling_answer a ≡ ceiling_of f t d
refuses n a f t d p q = ap ceiling_answer p ∙ sym q

module _ (f t : List ℕ) (d : ℕ) where
  abbrev m : Map
  m = map_of f

  pub ceiling-14 : (load_number f ≡ 0 → ⊥) → ceiling_of f t d ≡ refused_ceiling 14
  unfolding ceiling_of ceiling_number first_no ceiling_by
  ceiling-14 h = simp (whole-no f h)

  module _ (l : load_number f ≡ 0) where
    pub ceiling-16 : length t < m.groups * width_of m → ceiling_of f t d ≡ refused_ceiling 16
    unfolding ceiling_of ceiling_number first_no ceiling_by room_for_table
    ceiling-16 h = simp (whole-yes f l, lt-leb (m.groups * width_of m) (length t) h)

    module _ (r : m.groups * width_of m ≤ length t) where
      pub ceiling-17 : independent m ≡ false → ceiling_of f t d ≡ refused_ceiling 17
      unfolding ceiling_of ceiling_number first_no ceiling_by room_for_table
      ceiling-17 h = simp (whole-yes f l, le-leb (m.groups * width_of m) (length t) r, h)

      module _ (i : independent m ≡ true) where
        pub ceiling-18 : has_device m d ≡ false → ceiling_of f t d ≡ refused_ceiling 18
        unfolding ceiling_of ceiling_number first_no ceiling_by room_for_table
        ceiling-18 h = simp (whole-yes f l, le-leb (m.groups * width_of m) (length t) r, i, h)

        module _ (k : has_device m d ≡ true) where
          pub ceiling-19 : fresh m (runs_of m) t ≡ false → ceiling_of f t d ≡ refused_ceiling 19
          unfolding ceiling_of ceiling_number first_no ceiling_by room_for_table
          ceiling-19 h = simp (whole-yes f l, le-leb (m.groups * width_of m) (length t) r, i, k, h)

          pub ceiling-0 : fresh m (runs_of m) t ≡ true → ceiling_of f t d ≡ record { number = 0; groups = holders m d; moves = width_of m * holders m d }
          unfolding ceiling_of ceiling_number first_no ceiling_by room_for_table holders
          ceiling-0 h = simp (whole-yes f l, le-leb (m.groups * width_of m) (length t) r, i, k, h)

-- ---- question 18

-- what a search says where it found the device, and where it did not
pub found-there : (m : Map) (d k : ℕ) → FoundIs m d (Some k) → has_device m d ≡ true
unfolding FoundIs has_device
found-there m d k q = at-number (λ x. x.number) no_device d m.devices k q.0 q.1

pub found_none : (m : Map) (d : ℕ) → FoundIs m d None → has_device m d ≡ false
unfolding FoundIs
found_none m d p = p

-- ---- question 19, and the count

-- one map, as an edit that changes nothing has it
between-same : (m : Map) (plan values : List ℕ) (rule : Rule) (k w : ℕ) → Compiled m plan values rule → Loadable m → independent m ≡ true → k ≡ m.groups → w ≡ width_of m
    → Between plan values values rule k w m m
between-same m plan values rule k w C L i p q =
    record {
      view = sym C.view;
      view' = sym C.view;
      actions = sym C.actions;
      actions' = sym C.actions;
      steps = sym C.len;
      groups = sym p;
      groups' = sym p;
      width = sym q;
      width' = sym q;
      loadable = L;
      loadable' = L;
      only = i;
      only' = i;
    }

module _ (f t : List ℕ) (d : ℕ) (l : load_number f ≡ 0) (i : independent (map_of f) ≡ true) (h : has_device (map_of f) d ≡ true) (plan values : List ℕ) (rule : Rule) (k w : ℕ)
    (C : Compiled (map_of f) plan values rule) (p : k ≡ (map_of f).groups) (q : w ≡ width_of (map_of f)) (r : k * w ≤ length t) (o : Bool)
    (found : o ≡ same (take (k * w) t) (rows_to (places_at plan values rule w) k)) where
  L : Loadable (map_of f)
  L = loaded-map f l

  B : Between plan values values rule k w (map_of f) (map_of f)
  B = between-same (map_of f) plan values rule k w C L i p q

  room : (map_of f).groups * width_of (map_of f) ≤ length t
  room = subst (λ (n : ℕ). n ≤ length t) (ap₂ (λ (a b : ℕ). a * b) p q) r

  fresh-found : o ≡ fresh (map_of f) (runs_of (map_of f)) t
  fresh-found = found ∙ fresh-is (map_of f) (map_of f) B t

  pub stale : o ≡ false → (a : Limit) → a ≡ record { number = 19; groups = 0; moves = 0 } → ceiling_answer a ≡ ceiling_of f t d
  stale e a s = refuses 19 a f t d s (ceiling-19 f t d l room i h (sym fresh-found ∙ e))

  -- the rows of a fresh table that hold the device are the groups that do
  rows_are : o ≡ true → rows_holding w d t k ≡ holders (map_of f) d
  rows_are e =
      let m = map_of f in
      let front : take (k * w) t ≡ table_of m = same-is _ _ (sym found ∙ e) ∙ old-table m m B in
      let whole : t ≡ table_of m ++ drop (k * w) t = sym (take-append-drop (k * w) t) ∙ ap (λ (x : List ℕ). x ++ drop (k * w) t) front in
      ap (λ (x : List ℕ). rows_holding w d x k) whole ∙ ap₂ (λ (a b : ℕ). rows_holding a d (table_of m ++ drop (k * w) t) b) q p ∙ front-holders m L i (drop (k * w) t) d

  pub told : o ≡ true → (n : ℕ) → n ≡ rows_holding w d t k → ceiling_answer (record { number = 0; groups = n; moves = w * n }) ≡ ceiling_of f t d
  told e n s =
      ap₂ (λ (a b : ℕ). record { number = 0; groups = b; moves = a * b }) q (s ∙ rows_are e)
      ∙ sym (ceiling-0 f t d l room i h (sym fresh-found ∙ e))
