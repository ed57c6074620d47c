-- Document 01, "Table, edits, moves": the moves of a fitting edit are those of the places whose entries differ, in their order, and the cause
-- of each is traced to the edited device, as `MovesTraced` of specs/ says. Assumes nothing.
use Rattle.std.specs.Prelude.{◌≡◌, true, ◌⊎◌, length, Option}
use Rattle.std.proofs.Math.Path.{refl, sym, ap, ap₂, subst}
use Rattle.std.proofs.Common.{◌∙◌, inl, inr}
use mathlib.Core.List.{Memᴰ}
use Prim.Native.Nat.{ℕ, suc, ◌<◌}
use native.Mathlib.Omega.{arith}
use Rattle.definitions.specs.declared.Change.{Change}
use Rattle.definitions.specs.declared.Move.{Move}
use Rattle.definitions.specs.Map.{Map}
use Rattle.definitions.specs.Select.{Place}
use Rattle.definitions.specs.Rule.{width_of}
use Rattle.definitions.specs.Table.{runs_of}
use Rattle.definitions.specs.Edit.{put, parting, cause_of, moves_in, moves_of}
use Rattle.definitions.specs.Calls.{independent, fits}
use Rattle.laws.specs.Loadable.{Loadable, put-loadable, put-actions, put-groups, put-width}
use Rattle.tracing.specs.Runs.{place_at}
use Rattle.tracing.specs.Edited.{put-independent}
use Rattle.tracing.specs.Traced.{Traced}
use Rattle.tracing.specs.Cause.{cause-is, traced-cause}
use Rattle.tracing.specs.Listed.{Emitted, placed-from, placed-place, emitted-same, entry_at, entry-placed}
use Rattle.tracing.specs.Moves.{move_of, listed_at, move-of, of-move, moves-rise, Moved, MovesTraced}
use Rattle.tracing.proofs.Traced.{traced}

module _ (m : Map) (c : Option Change) (L : Loadable m) (ind : independent m ≡ true) (f : fits m c ≡ true) where
  ind' : independent (put m c) ≡ true
  ind' = put-independent m c ∙ ind

  abbrev O : ℕ → ℕ → Place
  O = listed_at m

  abbrev N : ℕ → ℕ → Place
  N = listed_at (put m c)

  old-entry : (g j : ℕ) → g < m.groups → j < width_of m → entry_at m g j ≡ (O g j).entry
  old-entry g j h l = entry-placed m L ind g j h l

  new-entry : (g j : ℕ) → g < m.groups → j < width_of m → entry_at (put m c) g j ≡ (N g j).entry
  new-entry g j h l = entry-placed (put m c) (put-loadable m c L f) ind' g j (omega (arith, put-groups m c)) (omega (arith, put-width m c))

  -- the move of a place whose entries differ
  moved : (g j : ℕ) → g < m.groups → j < width_of m → ((O g j).entry ≡ (N g j).entry → ⊥) → Moved m c (move_of g (suc j) (O g j) (N g j))
  moved g j h l d =
      let (k, p, E) = placed-from m g L ind j l in
      let o : O g j ≡ place_at m g k p = placed-place m g L ind j k p E in
      let n : N g j ≡ place_at (put m c) g k p = placed-place (put m c) g (put-loadable m c L f) ind' j k p (emitted-same m (put m c) (put-actions m c) ind g j k p E) in
      let t = the-cause k p E (rw (o, n) at d) (traced m c L ind f g k p) in
      record {
        group = h;
        index = j;
        within = l;
        place = omega arith;
        old = sym (old-entry g j h l);
        new = sym (new-entry g j h l);
        differ = d;
        step = k;
        at = p;
        emitted = E;
        old-there = ap (λ (a : Place). a.entry) o;
        new-there = ap (λ (a : Place). a.entry) n;
        cause = rw (o, n) t;
        parts = rw (o, n) (cause-is m c g ind t E.inside);
      }
    where
      the-cause : (k p : ℕ) → Emitted m g j k p → ((place_at m g k p).entry ≡ (place_at (put m c) g k p).entry → ⊥)
          → (place_at m g k p ≡ place_at (put m c) g k p) ⊎ ((cause : ℕ) × Traced m c g k p cause)
          → Traced m c g k p (cause_of (parting (place_at m g k p).walk (place_at (put m c) g k p).walk))
      the-cause k p E t (inl q) = absurd (t (ap (λ (a : Place). a.entry) q))
      the-cause k p E t (inr (cause, q)) = subst (Traced m c g k p) (sym (traced-cause m c g ind q E.inside)) q

  -- the moves of a fitting edit are those of the places whose entries differ, in their order, and the cause of each is traced to the
  -- edited device
  pub moves-traced : MovesTraced m c (moves_of m (put m c))
  unfolding moves_of moves_in
  moves-traced =
      record {
        each = λ v i.
            let (g, j, h, l, e, d) = move-of m (put m c) (put-groups m c) v i in
            subst (Moved m c) (sym e) (moved g j h l d);
        all = λ g j h l d. (
          move_of g (suc j) (O g j) (N g j),
          of-move m (put m c) (put-groups m c) g j h l (λ e. d (old-entry g j h l ∙ e ∙ sym (new-entry g j h l))),
          refl,
          omega arith,
        );
        one = one;
        rising = moves-rise (width_of m) (runs_of m) (runs_of (put m c)) (length (runs_of m));
      }
    where
      one : (u v : Move) → Memᴰ u (moves_of m (put m c)) → Memᴰ v (moves_of m (put m c)) → u.group ≡ v.group → u.place ≡ v.place → u ≡ v
      one u v i k p q =
          let (g, j, h, l, e, d) = move-of m (put m c) (put-groups m c) u i in
          let (g', j', h', l', e', d') = move-of m (put m c) (put-groups m c) v k in
          let a : g ≡ g' = sym (ap (λ (z : Move). z.group) e) ∙ p ∙ ap (λ (z : Move). z.group) e' in
          let b : j ≡ j' = omega (arith, ap (λ (z : Move). z.place) e, q, ap (λ (z : Move). z.place) e') in
          e ∙ ap₂ (λ (y z : ℕ). move_of y (suc z) (O y z) (N y z)) a b ∙ sym e'
