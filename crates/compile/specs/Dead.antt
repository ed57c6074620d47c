-- Document 02, change 1: an inner walk among buckets in which no device that is drawn passes. Whatever is held, each of its turns fails, so "it
-- gives up after 50". Assumes nothing.
use Rattle.std.specs.Prelude.{◌≡◌, Bool, List, Option, None, Some}
use Rattle.std.proofs.Math.Path.{refl}
use Rattle.std.proofs.Common.{◌∙◌, ltb-true, eqb-true}
use Rattle.std.proofs.Math.Bool.{true, false, cond}
use Prim.Native.Nat.{ℕ, zero, suc, ◌+◌, ◌<◌}
use native.Mathlib.Omega.{arith}
use Rattle.std.proofs.Math.Dec.{ltb, eqb}
use Rattle.definitions.specs.declared.Event.{Event}
use Rattle.definitions.specs.declared.Mode.TheVariants.{Independent}
use Rattle.definitions.specs.declared.Ranked.{Ranked}
use Rattle.definitions.specs.declared.State.{State}
use Rattle.definitions.specs.declared.Turn.{Turn}
use Rattle.definitions.specs.declared.Turn.TheVariants.{Fail}
use Rattle.definitions.specs.declared.Verdict.TheVariants.{Held, Rejected, Passed}
use Rattle.definitions.specs.Lists.{has}
use Rattle.definitions.specs.Map.{bucket_item, bucket_number}
use Rattle.definitions.specs.View.{View}
use Rattle.definitions.specs.Walk.{hole, Descent, draw_at, landing, deeper, on_winner, on_drawn, descend_in, descend, accepted, verdict_of, plain, plain_test, try_number, failed_to, retry_at, rank_start, rank_end, on_verdict, on_tried, tested, untested, on_type, on_landed, on_descent, turn_of, rank_from, rank_by, inner_walk}
use Rattle.laws.specs.Walk.{rank-fail}
use Rattle.hierarchy.specs.Arrays.{given_up}

no-winner : (i : ℕ) → ◌≡◌ {A = Option ℕ} None (Some i) → ⊥
no-winner i e = let z : ◌≡◌ {A = ℕ} 0 1 = cc in omega arith

-- the buckets that are P: a bucket drawn in one is one, and a device drawn in one does not pass
module _ (v : View) (x : ℕ) (P : ℕ → Type 0) (goes : (r b i : ℕ) → P b → draw_at v x r b ≡ Some i → 0 < v.type i → P (bucket_number i))
    (fails : (r b i : ℕ) → P b → draw_at v x r b ≡ Some i → v.type i ≡ 0 → accepted v x i ≡ false) where
  -- a descent ends in one of them, with nothing that passes
  abbrev Ended : Descent → Type 0
  Ended d = P d.landed.bucket × ((i : ℕ) → d.landed.drawn ≡ Some i → v.type i ≡ 0 → accepted v x i ≡ false)

  descent-dead : (r k b : ℕ) → P b → Ended (descend_in v x 0 r k b)
  unfolding descend_in on_drawn on_winner landing deeper
  descent-dead r zero b p = (p, λ i e. absurd (no-winner i e))
  descent-dead r (suc k) b p = go (draw_at v x r b) refl (descent-dead r k)
    where
      on : (i : ℕ) → draw_at v x r b ≡ Some i → (u : Bool) → ltb 0 (v.type i) ≡ u → ((c : ℕ) → P c → Ended (descend_in v x 0 r k c))
          → Ended (on_winner (descend_in v x 0 r k) r b i u)
      on i e true q rest = rest (bucket_number i) (goes r b i p e (ltb-true 0 (v.type i) q))
      on i e false q rest = (p, λ j h. fails r b j p (e ∙ h))

      go : (d : Option ℕ) → draw_at v x r b ≡ d → ((c : ℕ) → P c → Ended (descend_in v x 0 r k c)) → Ended (on_drawn v x 0 r (descend_in v x 0 r k) b d)
      go None e rest = (p, λ i h. absurd (no-winner i h))
      go (Some i) e rest = on i e (ltb 0 (v.type i)) refl rest

  module _ (held : List ℕ) (n start q : ℕ) (p : P start) where
    -- a turn from s is one failure, and the next draw is in one of them
    record Fails (s : State) (u : Turn) : Type 0 where
      next : ℕ
      here : P next
      turn : u ≡ Fail (failed_to next 0 s)

    untested-dead : (s : State) (es : List Event) → Fails s (untested start s es).turn
    unfolding untested
    untested-dead s es = record { next = start; here = p; turn = refl }

    tested-dead : (s : State) (b i : ℕ) → P b → accepted v x i ≡ false → (u : Bool) → Fails s (on_verdict start s b i i 0 (cond u Held (cond (accepted v x i) Passed Rejected)))
    unfolding on_verdict retry_at
    tested-dead s b i h e true = record { next = cond (ltb (s.fr + 1) 3) b start; here = go (ltb (s.fr + 1) 3); turn = refl }
      where
        go : (u : Bool) → P (cond u b start)
        go true = h
        go false = p
    tested-dead s b i h e false = record { next = start; here = p; turn = rw e refl }

    landed-dead : (s : State) (r b : ℕ) (es : List Event) → P b → (d : Option ℕ) → ((i : ℕ) → d ≡ Some i → v.type i ≡ 0 → accepted v x i ≡ false)
        → Fails s (on_landed v x Independent n 0 (plain_test v x held) start q s r b es d).turn
    unfolding on_landed on_type tested on_tried plain_test plain verdict_of
    landed-dead s r b es h None f = untested-dead s es
    landed-dead s r b es h (Some i) f = go (eqb (v.type i) 0) refl
      where
        go : (u : Bool) → eqb (v.type i) 0 ≡ u → Fails s (on_type v x Independent n 0 (plain_test v x held) start q s r b es i u).turn
        go true e = tested-dead s b i h (f i refl (eqb-true (v.type i) 0 e)) (has i held)
        go false e = untested-dead s es

    turn-dead : (s : State) → P s.at → Fails s (turn_of v x Independent n 0 (plain_test v x held) start q s).turn
    unfolding turn_of on_descent descend
    turn-dead s h =
        let r = try_number Independent n q s in
        let d = descend v x 0 r s.at in
        let (g, f) = descent-dead r (v.type (bucket_item s.at)) s.at h in
        landed-dead s r d.landed.bucket d.events g d.landed.drawn f

    ended : {a b c d e f : ℕ} → a ≡ b → c ≡ d → e ≡ f
        → ◌≡◌ {A = Ranked} (record { item = hole; entry = hole; fr = a; f = c; inner = e }) (record { item = hole; entry = hole; fr = b; f = d; inner = f })
    ended p q r = λ i. record { item = hole; entry = hole; fr = p i; f = q i; inner = r i }

    -- k failures more
    rank-dead : (k : ℕ) (s : State) → P s.at
        → (rank_from v x Independent n 0 (plain_test v x held) start q k s).ranked
        ≡ record { item = hole; entry = hole; fr = s.fr + k; f = s.f + k; inner = s.inner }
    unfolding rank_from rank_end failed_to
    rank-dead zero s h = ended (omega arith) (omega arith) (omega arith)
    rank-dead (suc k) s h =
        let t = turn-dead s h in
        rank-fail v x Independent n 0 (plain_test v x held) start q k s _ t.turn ∙ rank-dead k _ t.here ∙ ended (omega arith) (omega arith) (omega arith)

  -- the walk from one of them
  pub walk-dead : (b : ℕ) → P b → (n q : ℕ) (held : List ℕ) → (inner_walk v x n held q (bucket_item b)).ranked ≡ given_up
  unfolding inner_walk rank_by rank_start
  walk-dead b p n q held =
      let e : bucket_number (bucket_item b) ≡ b = omega arith in
      rw e (rank-dead held n b q p 50 (rank_start b 0) p)
