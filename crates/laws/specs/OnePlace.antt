-- Document 02, "One drive, one place": what a select puts out is held by nothing before it, neither by what was emitted nor by a place of its
-- own; so in a loadable map no device stands twice in a group's list (proofs/OnePlace.antt shows both). Assumes nothing.
use Rattle.std.proofs.Math.Path.{◌≡◌, refl, subst}
use Rattle.std.proofs.Common.{sym, ◌∙◌, arith, ltb-true}
use Rattle.std.specs.Prelude.{Bool, ◌⊎◌, eqb, Some}
use Rattle.std.proofs.Math.Bool.{true, false, cond, false≢true}
use mathlib.Core.List.{List, ◌++◌, Memᴰ}
use Rattle.std.proofs.Math.Logic.{inl, inr, ⊎_elim}
use Prim.Native.Nat.{ℕ, ◌<◌}
use Rattle.std.proofs.Math.Decide.{dec_lt}
use Rattle.std.proofs.Math.ListN.{length, get_or}
use Rattle.definitions.specs.declared.Action.TheVariants.{Select}
use Rattle.definitions.specs.declared.Mode.{Mode}
use Rattle.definitions.specs.declared.Mode.TheVariants.{FirstN, Independent, Through}
use Rattle.definitions.specs.declared.Ranked.{Ranked}
use Rattle.definitions.specs.declared.Verdict.TheVariants.{Held, Rejected, Passed}
use Rattle.definitions.specs.Lists.{has}
use Rattle.definitions.specs.Map.{Map, bucket_item, bucket_number}
use Rattle.definitions.specs.View.{View, type_of, view_of}
use Rattle.definitions.specs.Walk.{hole, draw_at, accepted, verdict_of, plain, plain_test, inner_walk, found, sought, through_by, through_test, test_of, rank_of}
use Rattle.definitions.specs.Select.{Place, entries_of, items_of}
use Rattle.definitions.specs.Load.{through_typed}
use Rattle.laws.specs.Members.{Each}
use Rattle.laws.specs.Kinds.{drawn-child}
use Rattle.laws.specs.Fuel.{Sinks, is-bucket}
use Rattle.laws.specs.Forest.{Holds, is, above, kids_of, kids-bucket}
use Rattle.laws.specs.Found.{Passes, rank-ends-in}
use Rattle.laws.specs.Origins.{Beneath, drew, further, Below, inner_made}

-- ---- what a rank puts out

-- item i, of type t, and its entry e, which is i or was drawn beneath it: neither was held
pub record Fresh (v : View) (x t : ℕ) (held : List ℕ) (i e : ℕ) : Type 0 where
  pub type : v.type i ≡ t
  pub item : has i held ≡ false
  pub entry : has e held ≡ false
  pub below : (i ≡ e) ⊎ Below v x i e

-- a hole, or such
abbrev pub Puts : View → ℕ → ℕ → List ℕ → ℕ → ℕ → Type 0
Puts v x t held i e = ((i ≡ hole) × (e ≡ hole)) ⊎ Fresh v x t held i e

module _ (v : View) (sinks : Sinks v) (x : ℕ) (held : List ℕ) where
  -- what passes is not held
  passed-free : (i : ℕ) → verdict_of v x held i ≡ Passed → has i held ≡ false
  unfolding verdict_of
  passed-free i = go (has i held)
    where
      go : (b : Bool) → cond b Held (cond (accepted v x i) Passed Rejected) ≡ Passed → b ≡ false
      go true e = absurd (let z : ◌≡◌ {A = ℕ} 0 1 = cc in omega arith)
      go false e = refl

  plain-fresh : (t i e : ℕ) → Passes v x t (plain_test v x held) i e → Fresh v x t held i e
  unfolding plain_test plain
  plain-fresh t i e P =
      let free = passed-free i P.passed in
      record { type = P.type; item = free; entry = rw P.entry at free; below = inl P.entry }

  -- an inner walk finds none, or a device that is not held beneath the item
  inner-fresh : (n q i : ℕ) → 0 < v.type i
      → let e = (inner_walk v x n held q i).ranked.entry in (e ≡ hole) ⊎ ((has e held ≡ false) × Below v x i e)
  unfolding inner_walk plain_test plain
  inner-fresh n q i h =
      let k = (inner_walk v x n held q i).ranked in
      ⊎_elim (λ z. inl z.1)
      (λ P.
      ⊎_elim (λ z. inl (sym P.entry ∙ z)) (λ b. inr ((plain-fresh 0 k.item k.entry P).entry, (is-bucket v sinks x 0 q i h, subst (Beneath v x (bucket_number i)) P.entry b)))
      (inner_made v sinks x held n q i h).1)
      (rank-ends-in v x Independent n 0 (plain_test v x held) (bucket_number i) q 0)

  test-fresh : (mode : Mode) (n t i e : ℕ) → through_typed (Select mode n t) ≡ true → Passes v x t (test_of mode v x n held) i e → Fresh v x t held i e
  unfolding test_of through_test through_by plain sought found through_typed
  test-fresh FirstN n t i e g P = plain-fresh t i e P
  test-fresh Independent n t i e g P = plain-fresh t i e P
  test-fresh Through n t i e g P = go (has i held) refl P.passed P.entry
    where
      k : Ranked
      k = (inner_walk v x n held P.q i).ranked

      passes : (b : Bool) → cond b Rejected Passed ≡ Passed → b ≡ false
      passes true h = absurd (let z : ◌≡◌ {A = ℕ} 0 1 = cc in omega arith)
      passes false h = refl

      go : (u : Bool) → has i held ≡ u → (through_by v x n held P.q i u).tried.verdict ≡ Passed → (through_by v x n held P.q i u).tried.entry ≡ e
          → Fresh v x t held i e
      go true f p s = absurd (let z : ◌≡◌ {A = ℕ} 0 1 = cc in omega arith)
      go false f p s =
          ⊎_elim (λ z. absurd (false≢true (sym (passes (eqb k.entry hole) p) ∙ rw z))) (λ (free, b). record { type = P.type; item = f; entry = rw s at free; below = inr (rw s at b) })
          (inner-fresh n P.q i (omega (arith, P.type, ltb-true 0 t g)))

  -- a rank of a select puts out a hole, or what nothing held
  pub rank-puts : (mode : Mode) (n t start r f₀ : ℕ) → through_typed (Select mode n t) ≡ true
      → let k = (rank_of v x mode n t held start r f₀).ranked in Puts v x t held k.item k.entry
  unfolding rank_of
  rank-puts mode n t start r f₀ g =
      let k = (rank_of v x mode n t held start r f₀).ranked in
      ⊎_elim (λ h. inl h) (λ P. inr (test-fresh mode n t k.item k.entry g P)) (rank-ends-in v x mode n t (test_of mode v x n held) start r f₀)

-- ---- what a select puts out

-- no number but the hole stands in a list twice
abbrev pub Alone : List ℕ → Type 0
Alone es = (j l : ℕ) → j < l → l < length es → get_or es j 0 ≡ get_or es l 0 → get_or es l 0 ≡ hole

-- so a number that stands at two places stands at one
pub alone_at : (es : List ℕ) → Alone es → (e : ℕ) → (e ≡ hole → ⊥) → (j l : ℕ) → j < length es → l < length es → get_or es j 0 ≡ e → get_or es l 0 ≡ e → j ≡ l
alone_at es A e f j l g h p q = go (dec_lt j l) (dec_lt l j)
  where
    go : Dec (j < l) → Dec (l < j) → j ≡ l
    go (yes o) d = absurd (f (sym q ∙ A j l o h (p ∙ sym q)))
    go (no n) (yes o) = absurd (f (sym p ∙ A l j o g (q ∙ sym p)))
    go (no n) (no o) = omega arith

-- an item holds what was drawn beneath it
beneath-holds : (m : Map) {x b i : ℕ} → Beneath (view_of m) x b i → Holds (kids_of m) (bucket_item b) i
beneath-holds m {x} {b} {i} o = go o
  where
    kid : (r c j : ℕ) → draw_at (view_of m) x r c ≡ Some j → Memᴰ j (kids_of m (bucket_item c))
    kid r c j e = rw (kids-bucket m c) (drawn-child m x r c j e).0

    go : {j : ℕ} → Beneath (view_of m) x b j → Holds (kids_of m) (bucket_item b) j
    go {j} (drew r e) = above (kid r b j e) (is refl)
    go {j} (further r c p e) = above (kid r c j e) (go p)

pub below_holds : (m : Map) {x i j : ℕ} → Below (view_of m) x i j → Holds (kids_of m) i j
below_holds m {j} (same, b) = subst (λ (o : ℕ). Holds (kids_of m) o j) same (beneath-holds m b)

-- a place of a select for type t is a hole, or its item, of type t, is or holds its entry
abbrev pub Keeps : Map → ℕ → Place → Type 0
Keeps m t p = ((p.item ≡ hole) × (p.entry ≡ hole)) ⊎ ((type_of m p.item ≡ t) × Holds (kids_of m) p.item p.entry)

-- the places of a select for type t, behind the entries emitted before it: no number but the hole stands twice, be it an entry or an item
pub record Out (m : Map) (t : ℕ) (before : List ℕ) (ps : List Place) : Type 0 where
  pub entries : Alone (before ++ entries_of ps)
  pub items : Alone (before ++ items_of ps)
  pub keeps : Each (Keeps m t) ps
