-- No definition depends on where its fuel ends: more fuel than the type changes neither a weight nor a descent, and a rank ends with an
-- item after fewer than 50 failures or with a hole after 50. Assumes nothing.
use Rattle.std.specs.Prelude.{◌≡◌, ◌⊎◌, Bool, cond, ◌&&◌, leb, eqb, Option, None, Some}
use Rattle.std.proofs.Math.Path.{refl, ap, ap₂, sym}
use Rattle.std.proofs.Common.{subst, inl, ⊎_elim, ltb-true, leb-true, leb-false, eqb-true, arith, add-zero}
use Rattle.std.proofs.Math.Logic.{inr}
use Rattle.std.proofs.Math.Bool.{true, false}
use Rattle.std.proofs.lemmas.Bool.{false≢true}
use mathlib.Core.List.{List, [], ◌∷◌, map}
use Prim.Native.Nat.{ℕ, zero, suc, ◌+◌, ◌<◌, ◌≤◌}
use Rattle.std.proofs.Math.Dec.{ltb}
use Rattle.definitions.specs.declared.Link.{Link}
use Rattle.definitions.specs.declared.Mode.{Mode}
use Rattle.definitions.specs.declared.Verdict.{Verdict}
use Rattle.definitions.specs.declared.Verdict.TheVariants.{Held, Rejected, Passed}
use Rattle.definitions.specs.declared.State.{State}
use Rattle.definitions.specs.declared.Turn.{Turn}
use Rattle.definitions.specs.declared.Turn.TheVariants.{Fill, Fail}
use Rattle.definitions.specs.Lists.{every, kept, sum}
use Rattle.definitions.specs.Map.{Map, bucket_item, is_bucket, bucket_number}
use Rattle.definitions.specs.View.{View, children_of, bucket_type, type_by, type_of, weight_by, weight_in, weight_of}
use Rattle.definitions.specs.Load.{falling}
use Rattle.definitions.specs.Walk.{hole, Descent, draw_at, landing, deeper, on_winner, on_drawn, descend_in, descend, Trial, try_number, failed_to, retry_at, rank_end, on_verdict, on_tried, tested, untested, onward, RankEvents, after_turn, on_turn, on_type, on_landed, on_descent, turn_of, rank_from}

-- ---- weights

-- two weights that agree on every item of a type below that of bucket b agree on the sum over its children
module _ (m : Map) (b : ℕ) (f g : ℕ → ℕ) (agree : (c : ℕ) → type_of m c < bucket_type m b → f c ≡ g c) where
  below : Link → Bool
  below l = ltb (type_of m l.child) (bucket_type m l.bucket)

  child_of : Link → ℕ
  child_of l = l.child

  in_b : Link → Bool
  in_b l = eqb l.bucket b

  sums : (ls : List Link) → every below ls ≡ true → sum (map f (map child_of (kept in_b ls))) ≡ sum (map g (map child_of (kept in_b ls)))
  unfolding every kept sum below child_of in_b
  sums [] e = refl
  sums (l ∷ ls) e = go (sums ls) (in_b l) refl (below l) refl e
    where
      go : (every below ls ≡ true → sum (map f (map child_of (kept in_b ls))) ≡ sum (map g (map child_of (kept in_b ls))))
          → (t : Bool) → in_b l ≡ t → (u : Bool) → below l ≡ u → u && every below ls ≡ true
          → sum (map f (map child_of (cond t (l ∷ kept in_b ls) (kept in_b ls)))) ≡ sum (map g (map child_of (cond t (l ∷ kept in_b ls) (kept in_b ls))))
      go rest true p true q r =
          ap₂ ◌+◌ (agree l.child (subst (λ (k : ℕ). type_of m l.child < bucket_type m k) (eqb-true _ _ p) (ltb-true _ _ q))) (rest r)
      go rest false p true q r = rest r
      go rest true p false q r = absurd (false≢true r)
      go rest false p false q r = absurd (false≢true r)

module _ (m : Map) (fall : falling m ≡ true) where
  -- the type of a bucket's item is the bucket's
  type-bucket : (i : ℕ) → is_bucket i ≡ true → type_of m i ≡ bucket_type m (bucket_number i)
  unfolding type_of type_by
  type-bucket i e = simp e

  by-children : (i : ℕ) (f g : ℕ → ℕ) → (is_bucket i ≡ true → (c : ℕ) → type_of m c < type_of m i → f c ≡ g c)
      → weight_by m f i (is_bucket i) ≡ weight_by m g i (is_bucket i)
  unfolding weight_by children_of falling below child_of in_b
  by-children i f g agree = go (is_bucket i) refl
    where
      go : (t : Bool) → is_bucket i ≡ t → weight_by m f i t ≡ weight_by m g i t
      go true e =
          sums m (bucket_number i) f g
          (λ c h. agree e c (subst (λ (k : ℕ). type_of m c < k) (sym (type-bucket i e)) h)) m.links fall
      go false e = refl

  -- any two amounts of fuel from the type on give one weight
  weight-same : (k l i : ℕ) → type_of m i ≤ k → type_of m i ≤ l → weight_in m k i ≡ weight_in m l i
  unfolding weight_in
  weight-same zero zero i p q = refl
  weight-same zero (suc l) i p q = by-children i (λ (c : ℕ). 0) (weight_in m l) (λ e c h. absurd (omega arith))
  weight-same (suc k) zero i p q = by-children i (weight_in m k) (λ (c : ℕ). 0) (λ e c h. absurd (omega arith))
  weight-same (suc k) (suc l) i p q =
      by-children i (weight_in m k) (weight_in m l) (λ e c h. weight-same k l c (omega arith) (omega arith))

  pub weight-enough : (k i : ℕ) → type_of m i ≤ k → weight_in m k i ≡ weight_of m i
  unfolding weight_of
  weight-enough k i h = weight-same k (type_of m i) i h (omega arith)

-- ---- descents

-- the winner of a draw has a smaller type than the bucket drawn from, and a device has type 0
pub record Sinks (v : View) : Type 0 where
  pub drawn : (x r b i : ℕ) → draw_at v x r b ≡ Some i → v.type i < v.type (bucket_item b)
  pub device : (i : ℕ) → i < 65536 → v.type i ≡ 0

module _ (v : View) (sinks : Sinks v) (x t r : ℕ) where
  -- an item of a type above t is a bucket's
  pub is-bucket : (i : ℕ) → t < v.type i → bucket_item (bucket_number i) ≡ i
  is-bucket i h = go (leb 65536 i) refl
    where
      go : (u : Bool) → leb 65536 i ≡ u → bucket_item (bucket_number i) ≡ i
      go true e = omega (arith, leb-true 65536 i e)
      go false e = absurd (omega (arith, sinks.device i (leb-false 65536 i e)))

  -- the two agree where the winner of the draw is gone down to
  by-drawn : (b : ℕ) (f g : ℕ → Descent)
      → ((i : ℕ) → draw_at v x r b ≡ Some i → t < v.type i → f (bucket_number i) ≡ g (bucket_number i))
      → (d : Option ℕ) → draw_at v x r b ≡ d → on_drawn v x t r f b d ≡ on_drawn v x t r g b d
  unfolding on_drawn on_winner
  by-drawn b f g agree None e = refl
  by-drawn b f g agree (Some i) e = go (ltb t (v.type i)) refl
    where
      go : (u : Bool) → ltb t (v.type i) ≡ u → on_winner f r b i u ≡ on_winner g r b i u
      go true h = ap (deeper r b (Some i)) (agree i e (ltb-true _ _ h))
      go false h = refl

  -- with nothing left to draw from
  at_zero : (b : ℕ) (f : ℕ → Descent) → v.type (bucket_item b) ≤ 0 → (d : Option ℕ) → draw_at v x r b ≡ d
      → landing r b None ≡ on_drawn v x t r f b d
  unfolding on_drawn
  at_zero b f h None e = refl
  at_zero b f h (Some i) e = absurd (omega (arith, sinks.drawn x r b i e))

  descend-same : (k l b : ℕ) → v.type (bucket_item b) ≤ k → v.type (bucket_item b) ≤ l → descend_in v x t r k b ≡ descend_in v x t r l b
  unfolding descend_in
  descend-same zero zero b p q = refl
  descend-same zero (suc l) b p q = at_zero b (descend_in v x t r l) p (draw_at v x r b) refl
  descend-same (suc k) zero b p q = sym (at_zero b (descend_in v x t r k) q (draw_at v x r b) refl)
  descend-same (suc k) (suc l) b p q =
      by-drawn b (descend_in v x t r k) (descend_in v x t r l)
      (λ i e h.
      let below = sinks.drawn x r b i e in
      let at = is-bucket i h in
      descend-same k l (bucket_number i) (rw at (omega arith)) (rw at (omega arith)))
      (draw_at v x r b) refl

  pub descend-enough : (k b : ℕ) → v.type (bucket_item b) ≤ k → descend_in v x t r k b ≡ descend v x t r b
  unfolding descend
  descend-enough k b h = descend-same k (v.type (bucket_item b)) b h (omega arith)

-- ---- ranks

-- one failure more
abbrev OneMore : State → State → Type 0
OneMore s s' = (s'.fr ≡ s.fr + 1) × (s'.f ≡ s.f + 1)

failed-is : (b j : ℕ) (s s' : State) → ◌≡◌ {A = Turn} (Fail (failed_to b j s)) (Fail s') → OneMore s s'
unfolding failed_to
failed-is b j s s' e = let q : failed_to b j s ≡ s' = cc in (ap (λ (z : State). z.fr) (sym q), ap (λ (z : State). z.f) (sym q))

filled-not : (i e k : ℕ) (s' : State) → ◌≡◌ {A = Turn} (Fill i e k) (Fail s') → ⊥
filled-not i e k s' q = let z : ◌≡◌ {A = ℕ} 0 1 = cc in omega arith

module _ (v : View) (x : ℕ) (mode : Mode) (n t : ℕ) (test : ℕ → ℕ → Trial) (start r : ℕ) where
  verdict-fails : (s s' : State) (b i e k : ℕ) (w : Verdict) → on_verdict start s b i e k w ≡ Fail s' → OneMore s s'
  unfolding on_verdict
  verdict-fails s s' b i e k Held q = failed-is (retry_at start b s) k s s' q
  verdict-fails s s' b i e k Rejected q = failed-is start k s s' q
  verdict-fails s s' b i e k Passed q = absurd (filled-not i e k s' q)

  landed-fails : (s s' : State) (q : ℕ) (c : Descent) (d : Option ℕ) → (on_landed v x mode n t test start r s q c.landed.bucket c.events d).turn ≡ Fail s' → OneMore s s'
  unfolding on_landed on_type tested untested on_tried
  landed-fails s s' q c None e = failed-is start 0 s s' e
  landed-fails s s' q c (Some i) e = go (eqb (v.type i) t) e
    where
      go : (u : Bool) → (on_type v x mode n t test start r s q c.landed.bucket c.events i u).turn ≡ Fail s' → OneMore s s'
      go true h = let w = (test q i).tried in verdict-fails s s' c.landed.bucket i w.entry w.inner w.verdict h
      go false h = failed-is start 0 s s' h

  pub turn-fails : (s s' : State) → (turn_of v x mode n t test start r s).turn ≡ Fail s' → OneMore s s'
  unfolding turn_of on_descent
  turn-fails s s' e = let q = try_number mode n r s in let c = descend v x t q s.at in landed-fails s s' q c c.landed.drawn e

  -- with k failures left, the rank ends before the last of them, or with a hole at the last
  pub rank-ends : (k : ℕ) (s : State)
      → ((rank_from v x mode n t test start r k s).ranked.fr < s.fr + k)
      ⊎ (((rank_from v x mode n t test start r k s).ranked.entry ≡ hole) × ((rank_from v x mode n t test start r k s).ranked.fr ≡ s.fr + k))
  unfolding rank_from rank_end on_turn after_turn onward
  rank-ends zero s = inr (refl, sym (add-zero _))
  rank-ends (suc k) s = go (turn_of v x mode n t test start r s).turn refl (rank-ends k)
    where
      after : State → RankEvents
      after = rank_from v x mode n t test start r k

      go : (u : Turn) → (turn_of v x mode n t test start r s).turn ≡ u
          → ((z : State) → ((after z).ranked.fr < z.fr + k) ⊎ (((after z).ranked.entry ≡ hole) × ((after z).ranked.fr ≡ z.fr + k)))
          → ((after_turn after s (turn_of v x mode n t test start r s).events u).ranked.fr < s.fr + suc k)
          ⊎ (((after_turn after s (turn_of v x mode n t test start r s).events u).ranked.entry ≡ hole) × ((after_turn after s (turn_of v x mode n t test start r s).events u).ranked.fr ≡ s.fr + suc k))
      go (Fill i j o) e rest = inl (omega arith)
      go (Fail z) e rest =
          let one = turn-fails s z e in
          ⊎_elim (λ h. inl (omega (arith, one.0))) (λ h. inr (h.0, omega (arith, one.0, h.1))) (rest z)
