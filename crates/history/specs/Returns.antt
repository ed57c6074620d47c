-- Document 02, change 8: the moves between any two maps of the same steps are those of the places whose entries differ, in their order, each
-- with its old and new entry; and so are they where each has another cause. Assumes nothing.
use Rattle.std.specs.Prelude.{◌≡◌, true, ℕ, suc, ◌+◌, ◌<◌, length, Option}
use Rattle.std.proofs.Math.Path.{refl, sym, ap, ap₂, subst}
use Rattle.std.proofs.Common.{◌∙◌}
use mathlib.Core.List.Memᴰ
use mathlib.Core.List.{List, map, Memᴰ}
use native.Mathlib.Omega.{arith}
use Rattle.definitions.specs.declared.Change.{Change}
use Rattle.definitions.specs.declared.Move.{Move}
use Rattle.definitions.specs.Lists.{linked}
use Rattle.definitions.specs.Map.{Map}
use Rattle.definitions.specs.Rule.{width_of}
use Rattle.definitions.specs.Table.{runs_of}
use Rattle.definitions.specs.Edit.{put, moves_in, moves_of}
use Rattle.definitions.specs.States.{with_cause, return_moves}
use Rattle.definitions.specs.Calls.{independent}
use Rattle.laws.specs.Counting.{linked-map}
use Rattle.laws.specs.Loadable.{Loadable}
use Rattle.tracing.specs.Listed.{entry_at, entry-placed}
use Rattle.tracing.specs.Moves.{move_of, listed_at, move-of, of-move, move_below, moves-rise, Moved, MovesTraced}

-- a move from m to m': its group and place, and the place's entries in the tables of the two, which differ
pub record Passed (m m' : Map) (v : Move) : Type 0 where
  pub group : v.group < m.groups
  pub index : ℕ
  pub within : index < width_of m
  pub place : v.place ≡ index + 1
  pub old : v.old ≡ entry_at m v.group index
  pub new : v.new ≡ entry_at m' v.group index
  pub differ : v.old ≡ v.new → ⊥

-- the moves from m to m': every place whose entries differ has one, and no more; no other has; and they rise
pub record MovesBetween (m m' : Map) (moves : List Move) : Type 0 where
  pub each : (v : Move) → Memᴰ v moves → Passed m m' v
  pub all : (g j : ℕ) → g < m.groups → j < width_of m → (entry_at m g j ≡ entry_at m' g j → ⊥)
      → (v : Move) × Memᴰ v moves × (v.group ≡ g) × (v.place ≡ j + 1)
  pub one : (u v : Move) → Memᴰ u moves → Memᴰ v moves → u.group ≡ v.group → u.place ≡ v.place → u ≡ v
  pub rising : linked move_below moves ≡ true

-- those of an edit are
pub traced-between : (m : Map) (c : Option Change) (moves : List Move) → MovesTraced m c moves → MovesBetween m (put m c) moves
traced-between m c moves t =
    record {
      each = λ v i.
          let d = t.each v i in
          record { group = d.group; index = d.index; within = d.within; place = d.place; old = d.old; new = d.new; differ = d.differ };
      all = t.all;
      one = t.one;
      rising = t.rising;
    }

-- and those of any two maps that load takes, with the same groups and width, and with no first-n select
module _ (m m' : Map) (L : Loadable m) (L' : Loadable m') (ind : independent m ≡ true) (ind' : independent m' ≡ true) (groups : m'.groups ≡ m.groups)
    (width : width_of m' ≡ width_of m) where
  old-entry : (g j : ℕ) → g < m.groups → j < width_of m → entry_at m g j ≡ (listed_at m g j).entry
  old-entry g j h l = entry-placed m L ind g j h l

  new-entry : (g j : ℕ) → g < m.groups → j < width_of m → entry_at m' g j ≡ (listed_at m' g j).entry
  new-entry g j h l = entry-placed m' L' ind' g j (omega (arith, groups)) (omega (arith, width))

  pub moves-between : MovesBetween m m' (moves_of m m')
  unfolding moves_of moves_in
  moves-between =
      record {
        each = λ v i.
            let (g, j, h, l, e, d) = move-of m m' groups v i in
            subst (Passed m m') (sym e)
            (record {
              group = h;
              index = j;
              within = l;
              place = omega arith;
              old = sym (old-entry g j h l);
              new = sym (new-entry g j h l);
              differ = d;
            });
        all = λ g j h l d. (
          move_of g (suc j) (listed_at m g j) (listed_at m' g j),
          of-move m m' groups g j h l (λ e. d (old-entry g j h l ∙ e ∙ sym (new-entry g j h l))),
          refl,
          omega arith,
        );
        one = one;
        rising = moves-rise (width_of m) (runs_of m) (runs_of m') (length (runs_of m));
      }
    where
      one : (u v : Move) → Memᴰ u (moves_of m m') → Memᴰ v (moves_of m m') → u.group ≡ v.group → u.place ≡ v.place → u ≡ v
      one u v i k p q =
          let (g, j, h, l, e, d) = move-of m m' groups u i in
          let (g', j', h', l', e', d') = move-of m m' groups v k in
          let a : g ≡ g' = sym (ap (λ (z : Move). z.group) e) ∙ p ∙ ap (λ (z : Move). z.group) e' in
          let b : j ≡ j' = omega (arith, ap (λ (z : Move). z.place) e, q, ap (λ (z : Move). z.place) e') in
          e ∙ ap₂ (λ (y z : ℕ). move_of y (suc z) (listed_at m y z) (listed_at m' y z)) a b ∙ sym e'

-- ---- with cause 04

-- each move of a return has cause 04
pub returned-cause : (vs : List Move) (v : Move) → Memᴰ v (return_moves vs) → v.cause ≡ 4
unfolding return_moves
returned-cause vs v i = let (u, k, e) = Memᴰ.of_map (with_cause 4) vs i in sym (ap (λ (z : Move). z.cause) e)

pub returned-between : (m m' : Map) (vs : List Move) → MovesBetween m m' vs → MovesBetween m m' (return_moves vs)
unfolding return_moves move_below
returned-between m m' vs b =
    record {
      each = λ v i.
          let (u, k, e) = Memᴰ.of_map (with_cause 4) vs i in
          let p = b.each u k in
          subst (Passed m m') e
          (record { group = p.group; index = p.index; within = p.within; place = p.place; old = p.old; new = p.new; differ = p.differ });
      all = λ g j h l d.
          let (v, i, p, q) = b.all g j h l d in
          (with_cause 4 v, Memᴰ.map (with_cause 4) i, p, q);
      one = λ u v i k p q.
          let (u', i', e) = Memᴰ.of_map (with_cause 4) vs i in
          let (v', k', f) = Memᴰ.of_map (with_cause 4) vs k in
          let same : u' ≡ v' = b.one u' v' i' k' (ap (λ (z : Move). z.group) e ∙ p ∙ sym (ap (λ (z : Move). z.group) f)) (ap (λ (z : Move). z.place) e ∙ q ∙ sym (ap (λ (z : Move). z.place) f)) in
          sym e ∙ ap (with_cause 4) same ∙ f;
      rising = linked-map move_below (with_cause 4) vs ∙ b.rising;
    }
