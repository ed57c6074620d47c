-- What a place holds: in an independent select its item is its entry, so that there cause 03 speaks of entries. Assumes nothing.
use Rattle.std.specs.Prelude.{◌≡◌, Bool, cond, List, ◌++◌, eqb, length, take, Option, None, Some}
use Rattle.std.proofs.Math.Path.{refl}
use Rattle.std.proofs.Math.Bool.{true, false}
use Prim.Native.Nat.{ℕ, zero, suc, ◌/◌, ◌%◌, ◌+◌, ◌<◌}
use Rattle.std.proofs.Math.Decide.{dec_lt}
use Rattle.std.proofs.Common.{arith}
use Rattle.definitions.specs.declared.Mode.{Mode}
use Rattle.definitions.specs.declared.Mode.TheVariants.{Independent}
use Rattle.definitions.specs.declared.Action.TheVariants.{Select}
use Rattle.definitions.specs.declared.Event.{Event}
use Rattle.definitions.specs.declared.State.{State}
use Rattle.definitions.specs.declared.Turn.{Turn}
use Rattle.definitions.specs.declared.Turn.TheVariants.{Fill, Fail}
use Rattle.definitions.specs.declared.Verdict.{Verdict}
use Rattle.definitions.specs.declared.Verdict.TheVariants.{Held, Rejected, Passed}
use Rattle.definitions.specs.Map.{Map, bucket_number}
use Rattle.definitions.specs.View.{View, view_of}
use Rattle.definitions.specs.Walk.{RankEvents, descend, plain, plain_test, try_number, rank_start, rank_end, on_verdict, on_tried, tested, untested, onward, after_turn, on_turn, on_type, on_landed, on_descent, turn_of, rank_from, rank_by, test_of, rank_of, verdict_of}
use Rattle.definitions.specs.Select.{Place, entries_of, items_of, place_under, nowhere}
use Rattle.tracing.specs.Runs.{leaves, no_rank, rank_under, step_at, working_at, list_at, place_at, step-place, place-past}

-- what a turn fills the place with is the item itself
abbrev Itself : Turn → Type 0
Itself (Fill i e k) = i ≡ e
Itself (Fail s) = Unit {0}

module _ (v : View) (x : ℕ) (mode : Mode) (n t : ℕ) (held : List ℕ) (start r : ℕ) where
  verdict-itself : (s : State) (b i k : ℕ) (w : Verdict) → Itself (on_verdict start s b i i k w)
  unfolding on_verdict
  verdict-itself s b i k Held = tt
  verdict-itself s b i k Rejected = tt
  verdict-itself s b i k Passed = refl

  landed-itself : (s : State) (q b : ℕ) (es : List Event) (d : Option ℕ) → Itself (on_landed v x mode n t (plain_test v x held) start r s q b es d).turn
  unfolding on_landed on_type tested untested on_tried plain_test plain
  landed-itself s q b es None = tt
  landed-itself s q b es (Some i) = go (eqb (v.type i) t)
    where
      go : (u : Bool) → Itself (on_type v x mode n t (plain_test v x held) start r s q b es i u).turn
      go true = verdict-itself s b i 0 (verdict_of v x held i)
      go false = tt

  turn-itself : (s : State) → Itself (turn_of v x mode n t (plain_test v x held) start r s).turn
  unfolding turn_of on_descent
  turn-itself s =
      let q = try_number mode n r s in
      let d = descend v x t q s.at in
      landed-itself s q d.landed.bucket d.events d.landed.drawn

  -- a rank whose test is plain ends in one number
  rank-itself : (k : ℕ) (s : State)
      → let o = (rank_from v x mode n t (plain_test v x held) start r k s).ranked in o.item ≡ o.entry
  unfolding rank_from rank_end on_turn after_turn onward
  rank-itself zero s = refl
  rank-itself (suc k) s = go (turn_of v x mode n t (plain_test v x held) start r s).turn (turn-itself s) (rank-itself k)
    where
      after : State → RankEvents
      after = rank_from v x mode n t (plain_test v x held) start r k

      go : (u : Turn) → Itself u → ((z : State) → (after z).ranked.item ≡ (after z).ranked.entry)
          → let o = (after_turn after s (turn_of v x mode n t (plain_test v x held) start r s).events u).ranked in o.item ≡ o.entry
      go (Fill i e j) h rest = h
      go (Fail z) h rest = rest z

under-itself : (v : View) (x n t : ℕ) (held : List ℕ) (up : Place) (r : ℕ)
    → let o = (rank_under v x Independent n t held up r).ranked in o.item ≡ o.entry
unfolding rank_under rank_of rank_by test_of
under-itself v x n t held up r = go (eqb up.entry _)
  where
    start : ℕ
    start = bucket_number up.entry

    go : (b : Bool)
        → let o = (cond b no_rank (rank_of v x Independent n t held start r 0)).ranked in o.item ≡ o.entry
    go true = refl
    go false = rank-itself v x Independent n t held start r 50 (rank_start start 0)

-- after an independent select the item of each place is its entry
pub item-entry : (m : Map) (x k n t p : ℕ) → step_at m k ≡ Select Independent n t
    → (place_at m x (suc k) p).item ≡ (place_at m x (suc k) p).entry
unfolding place_under nowhere leaves
item-entry m x k n t p e = go (dec_lt p (length (working_at m x (suc k))))
  where
    same : (a b : Place) → a ≡ b → b.item ≡ b.entry → a.item ≡ a.entry
    same a b q h = rw q h

    go : Dec (p < length (working_at m x (suc k))) → (place_at m x (suc k) p).item ≡ (place_at m x (suc k) p).entry
    go (yes h) =
        let up = place_at m x k (p / n) in
        same (place_at m x (suc k) p) _ (step-place m x k Independent n t e refl p h)
        (under-itself (view_of m) x n t (entries_of (list_at m x k) ++ items_of (take p (working_at m x (suc k)))) up (p % n + 1))
    go (no f) = same (place_at m x (suc k) p) nowhere (place-past m x (suc k) p (omega arith)) refl
