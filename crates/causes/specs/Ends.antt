-- Two tests, turns and ranks made at once, as to what they end in. Assumes nothing.
use Rattle.definitions.specs.declared.Parting.{Parting}
use Rattle.definitions.specs.declared.Ranked.{Ranked}
use Rattle.definitions.specs.declared.Tried.{Tried}
use Rattle.definitions.specs.declared.Turn.{Turn}
use Rattle.std.specs.Prelude.{◌≡◌, refl, List, ℕ, Some, Result, Ok, Err, IfOk}
use Rattle.std.proofs.Common.{sym, ap, ◌∙◌}
use Rattle.definitions.specs.declared.Landed.{Landed}
use Rattle.definitions.specs.declared.State.{State}
use Rattle.definitions.specs.View.{View}
use Rattle.definitions.specs.Walk.{Trial, TurnEvents, RankEvents, descend}
use Rattle.laws.specs.Tries.{test_short}
use Rattle.laws.specs.Walk.{turn-tested}
use Rattle.walk.specs.declared.Search.{Search}
use Rattle.walk.specs.Searches.{try_at, test_at, turn_at}
use Rattle.lockstep.specs.Lockstep.{Tests, on_trials}
use Rattle.lockstep.specs.Rounds.{Short}

-- where the two come to one end, both end in this
abbrev pub EndsIn : {A L : Type 0} → (A → L) → Result L Parting → A → A → Type 0
EndsIn end m a b = IfOk m (λ l. (l ≡ end a) × (l ≡ end b))

abbrev pub TestEnds : Result Tried Parting → Trial → Trial → Type 0
TestEnds = EndsIn (λ a. a.tried)

abbrev pub TurnEnds : Result Turn Parting → TurnEvents → TurnEvents → Type 0
TurnEnds = EndsIn (λ a. a.turn)

abbrev pub RankEnds : Result Ranked Parting → RankEvents → RankEvents → Type 0
RankEnds = EndsIn (λ a. a.ranked)

-- tests that are one come to one end
pub tests-end : (k : Result Tried Parting) (a b : Trial) → Tests k a b → TestEnds k a b
tests-end (Err p) a b h = tt
tests-end (Ok w) a b (q, z) = (sym z, sym z ∙ ap (λ (t : Trial). t.tried) q)

module _ (v w : View) (x : ℕ) (k : Search) (held : List ℕ) (q i : ℕ) where
  -- they make no more than 50 tries within
  pub tests-brief : (m : Result Tried Parting) → TestEnds m (test_at v x k held q i) (test_at w x k held q i) → Short m
  tests-brief (Err p) h = tt
  tests-brief (Ok t) (a, b) = rw a (test_short v x k.wanted.n held k.wanted.mode q i)

  -- and lead both turns to one end, where both descents landed at l
  pub turns-end : (s : State) → q ≡ try_at k s → (l : Landed) → l ≡ (descend v x k.wanted.t q s.at).landed → l ≡ (descend w x k.wanted.t q s.at).landed
      → l.drawn ≡ Some i → v.type i ≡ k.wanted.t → w.type i ≡ k.wanted.t → (m : Result Tried Parting) → TestEnds m (test_at v x k held q i) (test_at w x k held q i)
      → TurnEnds (on_trials k.start s l.bucket i m) (turn_at v x k held s) (turn_at w x k held s)
  turns-end s try l e e' d h h' (Err p) t = tt
  turns-end s try l e e' d h h' (Ok t) (a, b) = (
    turn-tested v x k.wanted.mode k.wanted.n k.wanted.t (test_at v x k held) k.start k.r s q try l e i d h t a _ refl,
    turn-tested w x k.wanted.mode k.wanted.n k.wanted.t (test_at w x k held) k.start k.r s q try l e' i d h' t b _ refl,
  )
