-- The places of a group by the code's run, and what a look at a group finds. Assumes nothing.
use Rattle.std.specs.Prelude.{◌≡◌, refl, Bool, true, false, Option, None, Some, List, [], ◌∷◌, ◌++◌, ℕ, zero, suc, ◌-◌, ◌≤◌, take, drop, replicate}
use Rattle.std.specs.Bool.{then_some}
use Rattle.std.proofs.Math.Path.{sym}
use Rattle.std.proofs.Common.{ap, ap₂, ◌∙◌, arith, take_at, length-take-le}
use Rattle.std.proofs.Math.ListN.{length}
use Rattle.std.proofs.lemmas.List.{length-map}
use Rattle.definitions.specs.declared.Move.{Move}
use Rattle.definitions.specs.Lists.{same, has}
use Rattle.definitions.specs.Walk.{hole}
use Rattle.definitions.specs.Select.{Place, entries_of, nowhere}
use Rattle.definitions.specs.Rule.{run_to, padded}
use Rattle.definitions.specs.Edit.{row_moves_to}
use Rattle.laws.specs.Lists.{same-is}
use Rattle.hierarchy.specs.declared.Rule.{Rule}
use Rattle.hierarchy.specs.Arrays.{view_in, actions_in}
use Rattle.blocks.specs.Products.{emitted_to}
use Rattle.placement.specs.Ruled.{Ready}
use Rattle.placement.specs.Bare.{BareRun, bare_run_to, filled_up, run-bare}
use Rattle.placement.specs.Row.{length-filled}
use Rattle.placement.specs.Lengths.{run-most}
use Rattle.survey.specs.declared.looks.Reach.{Reach}
use Rattle.survey.specs.declared.looks.Reach.TheVariants.{Anywhere, Everywhere, Before, After}
use Rattle.survey.specs.Rows.{differ_to, differ_same, differ-moves, same_rows}

-- the list of group x, by the rule over a plan and values
abbrev pub list_at : List ℕ → List ℕ → Rule → ℕ → List Place
list_at plan values rule x = (run_to (view_in plan values) x (actions_in rule) rule.len).list

-- its w places
unfoldable pub places_at : List ℕ → List ℕ → Rule → ℕ → ℕ → List Place
places_at plan values rule w x = padded w (list_at plan values rule x)

-- the moves of its row between two runs, old and new
abbrev pub moves_at : List ℕ → List ℕ → List ℕ → Rule → ℕ → ℕ → List Move
moves_at plan old new rule w x = row_moves_to x (places_at plan old rule w x) (places_at plan new rule w x) w

-- what a run needs to write rows w wide
abbrev pub Runs : List ℕ → List ℕ → Rule → ℕ → Type 0
Runs plan values rule w = (rule.len ≤ 16) × Ready plan values (actions_in rule) × (emitted_to (actions_in rule) rule.len ≤ w) × (w ≤ 32)

length-entries : (ps : List Place) → length (entries_of ps) ≡ length ps
unfolding entries_of
length-entries ps = length-map ps (λ (p : Place). p.entry)

entries-padded : (ps : List Place) (k : ℕ) → entries_of (ps ++ replicate k nowhere) ≡ entries_of ps ++ replicate k hole
unfolding entries_of nowhere
entries-padded [] zero = refl
entries-padded [] (suc k) = ap (λ (l : List ℕ). hole ∷ l) (entries-padded [] k)
entries-padded (p ∷ ps) k = ap (λ (l : List ℕ). p.entry ∷ l) (entries-padded ps k)

module _ (plan values : List ℕ) (rule : Rule) (w x : ℕ) where
  abbrev bare : List ℕ
  bare = (bare_run_to (view_in plan values) x (actions_in rule) rule.len).list

  row_is : filled_up w bare ≡ entries_of (places_at plan values rule w x)
  unfolding places_at padded filled_up
  row_is =
      let s = list_at plan values rule x in
      let q : bare ≡ entries_of s = sym (ap (λ (r : BareRun). r.list) (run-bare (view_in plan values) x (actions_in rule) rule.len)) in
      rw (q, length-entries s) (sym (entries-padded s (w - length s)))

  -- w of them
  pub row-length : Runs plan values rule w → length (entries_of (places_at plan values rule w x)) ≡ w
  row-length r =
      ap length (sym row_is) ∙ length-filled w bare (omega (arith, (run-most (view_in plan values) x (actions_in rule) rule.len).1, r.2))

  -- w places written at the front of an array, now a, are their entries
  pub row-taken : (a zs : List ℕ) → w ≤ length zs → length a ≡ length (take w zs) → a ≡ filled_up (length (take w zs)) bare
      → take w (a ++ drop w zs) ≡ entries_of (places_at plan values rule w x)
  row-taken a zs h l e =
      let k = length-take-le w zs h in take_at a (drop w zs) w (l ∙ k) ∙ e ∙ ap (λ (i : ℕ). filled_up i bare) k ∙ row_is

-- whether a row holds these places, w of them
abbrev pub Stood : List Place → ℕ → List ℕ → Bool → Type 0
Stood ps w row r = (r ≡ same row (entries_of ps)) × (length (entries_of ps) ≡ w)

-- from places that were made beside it
pub stood : (ps : List Place) (w : ℕ) (row places : List ℕ) (r : Bool) → length places ≡ w → places ≡ entries_of ps → r ≡ same row places → Stood ps w row r
stood ps w row places r l e q = (q ∙ ap (same row) e, ap length (sym e) ∙ l)

-- what was found of a group whose old and new places these are, and of its row of the table: it is not the old row, or so many places move
abbrev pub Looked : List Place → List Place → ℕ → ℕ → List ℕ → Option ℕ → Type 0
Looked ps qs w x row None = (same row (entries_of ps) ≡ false) × (length (entries_of ps) ≡ w)
Looked ps qs w x row (Some k) = (row ≡ entries_of ps) × (k ≡ length (row_moves_to x ps qs w)) × (k ≤ 32)

abbrev pub LookedAt : List ℕ → List ℕ → List ℕ → Rule → ℕ → ℕ → List ℕ → Option ℕ → Type 0
LookedAt plan old new rule w x row o = Looked (places_at plan old rule w x) (places_at plan new rule w x) w x row o

-- whether an edit of this reach can move places between these rows of a group, old and new
abbrev pub reached : Reach → List ℕ → List ℕ → Bool
reached Anywhere olds news = true
reached Everywhere olds news = true
reached (Before d) olds news = has d olds
reached (After d) olds news = has d news

-- the edit keeps to its reach in group x
abbrev pub Within : Reach → List ℕ → List ℕ → List ℕ → Rule → ℕ → ℕ → Type 0
Within reach plan old new rule w x =
    reached reach (entries_of (places_at plan old rule w x)) (entries_of (places_at plan new rule w x)) ≡ false → moves_at plan old new rule w x ≡ []

pub looked-stale : (ps qs : List Place) (w x : ℕ) (row : List ℕ) (r : Bool) → Stood ps w row r → r ≡ false → Looked ps qs w x row None
looked-stale ps qs w x row r q f = (sym q.0 ∙ f, q.1)

pub looked-moves : (ps qs : List Place) (w x k : ℕ) (row new : List ℕ) (r : Bool) → length row ≡ w → Stood ps w row r → r ≡ true
    → length new ≡ w → new ≡ entries_of qs → k ≡ differ_to row new (length row) → k ≤ 32 → Looked ps qs w x row (Some k)
looked-moves ps qs w x k row new r l q t l' e' c h =
    let i : row ≡ entries_of ps = same-is row (entries_of ps) (sym q.0 ∙ t) in
    let a : length ps ≡ w = sym (length-entries ps) ∙ q.1 in
    let b : length qs ≡ w = sym (length-entries qs) ∙ ap length (sym e') ∙ l' in
    (i, c ∙ ap₂ (λ (y z : List ℕ). differ_to y z (length row)) i e' ∙ ap (differ_to (entries_of ps) (entries_of qs)) l ∙ differ-moves x ps qs w (omega arith) (omega arith), h)

-- a row beside the old places, of which none moves
looked-unmoved : (ps qs : List Place) (w x : ℕ) (row : List ℕ) (r : Bool) → Stood ps w row r → (row ≡ entries_of ps → 0 ≡ length (row_moves_to x ps qs w))
    → Looked ps qs w x row (then_some r 0)
looked-unmoved ps qs w x row true q none =
    let i : row ≡ entries_of ps = same-is row (entries_of ps) (sym q.0) in (i, none i, omega arith)
looked-unmoved ps qs w x row false q none = (sym q.0, q.1)

-- a row that does not hold the device
pub looked-before : (ps qs : List Place) (w x d : ℕ) (row : List ℕ) (b r : Bool) → Stood ps w row r → b ≡ has d row → b ≡ false
    → (has d (entries_of ps) ≡ false → row_moves_to x ps qs w ≡ []) → Looked ps qs w x row (then_some r 0)
looked-before ps qs w x d row b r q h z within =
    looked-unmoved ps qs w x row r q (λ i. ap length (sym (within (ap (has d) (sym i) ∙ sym h ∙ z))))

-- new places that do not have it
pub looked-after : (ps qs : List Place) (w x d : ℕ) (row new : List ℕ) (b r : Bool) → length (entries_of ps) ≡ w → length new ≡ w → new ≡ entries_of qs
    → b ≡ has d new → b ≡ false → (has d (entries_of qs) ≡ false → row_moves_to x ps qs w ≡ []) → r ≡ same row new → Looked ps qs w x row (then_some r 0)
looked-after ps qs w x d row new b r l l' e' h z within s =
    let none : row_moves_to x ps qs w ≡ [] = within (ap (has d) (sym e') ∙ sym h ∙ z) in
    let i : new ≡ entries_of ps = e' ∙ sym (same_rows x w ps qs l (ap length (sym e') ∙ l') none) in
    looked-unmoved ps qs w x row r (s ∙ ap (same row) i, l) (λ _. ap length (sym none))

-- places that are the same in both runs
pub looked-one : (ps qs : List Place) (w x : ℕ) (row both : List ℕ) (r : Bool) → length both ≡ w → both ≡ entries_of ps → both ≡ entries_of qs
    → r ≡ same row both → Looked ps qs w x row (then_some r 0)
looked-one ps qs w x row both r l e e' s =
    let a : length ps ≡ w = sym (length-entries ps) ∙ ap length (sym e) ∙ l in
    let b : length qs ≡ w = sym (length-entries qs) ∙ ap length (sym e') ∙ l in
    let none : 0 ≡ length (row_moves_to x ps qs w) =
    differ_same both w ∙ ap₂ (λ (y z : List ℕ). differ_to y z w) e e' ∙ differ-moves x ps qs w (omega arith) (omega arith) in
    looked-unmoved ps qs w x row r (s ∙ ap (same row) e, ap length (sym e) ∙ l) (λ _. none)
