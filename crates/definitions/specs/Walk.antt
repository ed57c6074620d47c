-- Document 01, "Walk, select and rule": the walk of a rank, and, by document 02, change 1, the inner walk of a select through. A descent, a
-- test, a turn and a rank come with their events, in the order made.
use Rattle.std.specs.Prelude.{Bool, true, false, cond, ◌||◌, List, [], ◌∷◌, ◌++◌, ℕ, zero, suc, ◌+◌, ◌*◌, ◌%◌, ltb, eqb, Option, None, Some}
use Rattle.definitions.specs.declared.Kind.{Kind}
use Rattle.definitions.specs.declared.Kind.TheVariants.{Straw, Tree}
use Rattle.definitions.specs.declared.Mode.{Mode}
use Rattle.definitions.specs.declared.Mode.TheVariants.{FirstN, Independent, Through}
use Rattle.definitions.specs.declared.Verdict.{Verdict}
use Rattle.definitions.specs.declared.Verdict.TheVariants.{Held, Rejected, Passed}
use Rattle.definitions.specs.declared.Event.{Event}
use Rattle.definitions.specs.declared.Event.TheVariants.{Drew, Tested}
use Rattle.definitions.specs.declared.Landed.{Landed}
use Rattle.definitions.specs.declared.State.{State}
use Rattle.definitions.specs.declared.Tried.{Tried}
use Rattle.definitions.specs.declared.Turn.{Turn}
use Rattle.definitions.specs.declared.Turn.TheVariants.{Fill, Fail}
use Rattle.definitions.specs.declared.Ranked.{Ranked}
use Rattle.definitions.specs.Lists.{has}
use Rattle.definitions.specs.Hash.{hash2}
use Rattle.definitions.specs.Straw.{draw_of}
use Rattle.definitions.specs.Tree.{tree_of}
use Rattle.definitions.specs.Map.{bucket_item, is_bucket, bucket_number}
use Rattle.definitions.specs.View.{View}

-- "a hole (ffff)": the number of no item
abbrev pub hole : ℕ
hole = 65535

-- ---- descent

pub record Descent : Type 0 where
  pub landed : Landed
  pub events : List Event

-- "Lists are compared with the definition of each bucket's own kind.": the draw of a bucket of this kind and item number, with these
-- children and weights
unfoldable pub draw_by : Kind → ℕ → ℕ → ℕ → ℕ → List ℕ → List ℕ → Option ℕ
draw_by Straw seed x r item items weights = draw_of seed x r items weights
draw_by Tree seed x r item items weights = tree_of seed x r item weights items

-- the draw of group x at bucket b with try number r
unfoldable pub draw_at : View → ℕ → ℕ → ℕ → Option ℕ
draw_at v x r b = draw_by (v.kind b) v.seed x r (bucket_item b) (v.children b) (v.weights b)

-- the descent ends with this draw
unfoldable pub landing : ℕ → ℕ → Option ℕ → Descent
landing r b d = record { landed = record { bucket = b; drawn = d }; events = Drew b r d ∷ [] }

-- this draw, and then the rest of the descent
unfoldable pub deeper : ℕ → ℕ → Option ℕ → Descent → Descent
deeper r b d rest = record { landed = rest.landed; events = Drew b r d ∷ rest.events }

-- "If the winner's type is above the wanted type t, the walk goes on in the bucket drawn": go is the descent from there, and the
-- last argument says whether the type is above t
unfoldable pub on_winner : (ℕ → Descent) → ℕ → ℕ → ℕ → Bool → Descent
on_winner go r b i true = deeper r b (Some i) (go (bucket_number i))
on_winner go r b i false = landing r b (Some i)

-- v, the group x, the wanted type t and the try number r
module _ (v : View) (x t r : ℕ) where
  unfoldable pub on_drawn : (ℕ → Descent) → ℕ → Option ℕ → Descent
  on_drawn go b (Some i) = on_winner go r b i (ltb t (v.type i))
  on_drawn go b None = landing r b None

  -- the descent from bucket b, whose type is at most k. The bucket drawn has a smaller type (question 9), so k does not run out, and more
  -- than the type changes nothing (`sinks` and `descend-enough`, crate laws).
  unfoldable pub descend_in : ℕ → ℕ → Descent
  descend_in zero b = landing r b None
  descend_in (suc k) b = on_drawn (descend_in k) b (draw_at v x r b)

  unfoldable pub descend : ℕ → Descent
  descend b = descend_in (v.type (bucket_item b)) b

-- ---- test

-- "(hash of two (x, device)) mod 65,536 is less than its acceptance": h is the hash
unfoldable pub accepts : ℕ → ℕ → Bool
accepts h acceptance = ltb (h % 65536) acceptance

unfoldable pub device_accepts : View → ℕ → ℕ → Bool
device_accepts v x d = accepts (hash2 v.seed x d) (v.acceptance d)

-- "a device must pass acceptance"
unfoldable pub accepted : View → ℕ → ℕ → Bool
accepted v x i = is_bucket i || device_accepts v x i

-- "the item is tested: it must not be held already by this select, for any bucket of the working list; and a device must pass
-- acceptance": held are the items that this select holds so far, and the devices that an earlier block has emitted
unfoldable pub verdict_of : View → ℕ → List ℕ → ℕ → Verdict
verdict_of v x held i = cond (has i held) Held (cond (accepted v x i) Passed Rejected)

-- ---- what a test comes to

-- a test, and its events
pub record Trial : Type 0 where
  pub tried : Tried
  pub events : List Event

-- the test of an item that is itself the entry
unfoldable pub plain : ℕ → Verdict → Trial
plain i w = record { tried = record { verdict = w; entry = i; inner = 0 }; events = Tested i w ∷ [] }

unfoldable pub plain_test : View → ℕ → List ℕ → ℕ → ℕ → Trial
plain_test v x held q i = plain i (verdict_of v x held i)

-- ---- rank

pub record TurnEvents : Type 0 where
  pub turn : Turn
  pub events : List Event

pub record RankEvents : Type 0 where
  pub ranked : Ranked
  pub events : List Event

-- "In each draw r' is r + f_r × n (independent) or r + f (first-n)."; of a select through: "independent mode"
unfoldable pub try_number : Mode → ℕ → ℕ → State → ℕ
try_number FirstN n r s = r + s.f
try_number Independent n r s = r + s.fr * n
try_number Through n r s = r + s.fr * n

-- "adds 1 to f_r and to f"; the next draw is at bucket b, and k tries were made within the test
unfoldable pub failed_to : ℕ → ℕ → State → State
failed_to b k s = record { at = b; fr = s.fr + 1; f = s.f + 1; inner = s.inner + k }

-- "After a held item, with f_r now below 3, the next draw is in the same bucket; otherwise it is at the rank's starting bucket."
unfoldable pub retry_at : ℕ → ℕ → State → ℕ
retry_at start b s = cond (ltb (s.fr + 1) 3) b start

-- "A rank starts with f_r = 0 at that bucket."
unfoldable pub rank_start : ℕ → ℕ → State
rank_start b f₀ = record { at = b; fr = 0; f = f₀; inner = 0 }

-- item i is held and e put out, k tries having been made within the test
unfoldable pub rank_end : ℕ → ℕ → ℕ → State → Ranked
rank_end i e k s = record { item = i; entry = e; fr = s.fr; f = s.f; inner = s.inner + k }

-- "A pass fills the place. A failed test .. adds 1 to f_r and to f.": item i, drawn from bucket b; e is what a pass puts out, and k tries were
-- made within the test
unfoldable pub on_verdict : ℕ → State → ℕ → ℕ → ℕ → ℕ → Verdict → Turn
on_verdict start s b i e k Held = Fail (failed_to (retry_at start b s) k s)
on_verdict start s b i e k Rejected = Fail (failed_to start k s)
on_verdict start s b i e k Passed = Fill i e k

unfoldable pub on_tried : ℕ → State → ℕ → ℕ → Tried → Turn
on_tried start s b i w = on_verdict start s b i w.entry w.inner w.verdict

unfoldable pub tested : ℕ → State → ℕ → List Event → ℕ → Trial → TurnEvents
tested start s b es i w = record { turn = on_tried start s b i w.tried; events = es ++ w.events }

-- "a type below t, or a draw that finds none adds 1 to f_r and to f"
unfoldable pub untested : ℕ → State → List Event → TurnEvents
untested start s es = record { turn = Fail (failed_to start 0 s); events = es }

-- these events, and then the rest of the rank
unfoldable pub onward : List Event → RankEvents → RankEvents
onward es rest = record { ranked = rest.ranked; events = es ++ rest.events }

-- what a turn leads to: go is the rest of the rank
unfoldable pub after_turn : (State → RankEvents) → State → List Event → Turn → RankEvents
after_turn go s es (Fill i e k) = record { ranked = rank_end i e k s; events = es }
after_turn go s es (Fail s') = onward es (go s')

unfoldable pub on_turn : (State → RankEvents) → State → TurnEvents → RankEvents
on_turn go s k = after_turn go s k.events k.turn

-- v, the group x, the select (mode, count n, type t), what the test of an item drawn with r' comes to, the rank's starting bucket and the
-- rank r
module _ (v : View) (x : ℕ) (mode : Mode) (n t : ℕ) (test : ℕ → ℕ → Trial) (start r : ℕ) where
  -- "If the type is t, the item is tested": q is r', and the last argument says whether the type is t
  unfoldable pub on_type : State → ℕ → ℕ → List Event → ℕ → Bool → TurnEvents
  on_type s q b es i true = tested start s b es i (test q i)
  on_type s q b es i false = untested start s es

  unfoldable pub on_landed : State → ℕ → ℕ → List Event → Option ℕ → TurnEvents
  on_landed s q b es (Some i) = on_type s q b es i (eqb (v.type i) t)
  on_landed s q b es None = untested start s es

  unfoldable pub on_descent : State → ℕ → Descent → TurnEvents
  on_descent s q d = on_landed s q d.landed.bucket d.events d.landed.drawn

  -- one turn: a descent, and the test of what it comes to
  unfoldable pub turn_of : State → TurnEvents
  turn_of s = let q = try_number mode n r s in on_descent s q (descend v x t q s.at)

  -- the rank from s on, with k failures left: k is 50 less f_r, since a turn that does not end the rank is one failure (`rank-ends`, crate laws)
  unfoldable pub rank_from : ℕ → State → RankEvents
  rank_from zero s = record { ranked = rank_end hole hole 0 s; events = [] }
  rank_from (suc k) s = on_turn (rank_from k) s (turn_of s)

  -- "At f_r = 50 the rank ends: independent leaves a hole": f₀ is f as the rank starts
  unfoldable pub rank_by : ℕ → RankEvents
  rank_by f₀ = rank_from 50 (rank_start start f₀)

-- "every rise of f_r, and every pass"; "Each inner failure and inner pass is a try too."
unfoldable pub tries_in : Ranked → ℕ
tries_in k = k.fr + cond (eqb k.entry hole) 0 1 + k.inner

-- ---- select through

-- "an independent inner walk looks for one device beneath it. It begins at the item with the r' that drew it, each inner failure adds n, and
-- it gives up after 50.": a rank for type 0 at item i, whose r is the r' that drew i, and whose f_r are the inner failures. Of a device that
-- an earlier block has emitted: "In a select through this happens in the inner test, the inner failures standing for f_r."
unfoldable pub inner_walk : View → ℕ → ℕ → List ℕ → ℕ → ℕ → RankEvents
inner_walk v x n held q i = rank_by v x Independent n 0 (plain_test v x held) (bucket_number i) q 0

-- "Finding none counts as a failed test of the item.": the inner walk ended in k
unfoldable pub found : Ranked → Tried
found k = record { verdict = cond (eqb k.entry hole) Rejected Passed; entry = k.entry; inner = tries_in k }

-- item i passed the held test, and k is the inner walk
unfoldable pub sought : ℕ → RankEvents → Trial
sought i k = record { tried = found k.ranked; events = Tested i Passed ∷ k.events }

-- "After an item passes the held test": the last argument says whether it is held
unfoldable pub through_by : View → ℕ → ℕ → List ℕ → ℕ → ℕ → Bool → Trial
through_by v x n held q i true = plain i Held
through_by v x n held q i false = sought i (inner_walk v x n held q i)

unfoldable pub through_test : View → ℕ → ℕ → List ℕ → ℕ → ℕ → Trial
through_test v x n held q i = through_by v x n held q i (has i held)

-- the test of a select: held is as in `verdict_of`
unfoldable pub test_of : Mode → View → ℕ → ℕ → List ℕ → ℕ → ℕ → Trial
test_of FirstN v x n held q i = plain_test v x held q i
test_of Independent v x n held q i = plain_test v x held q i
test_of Through v x n held q i = through_test v x n held q i

-- a rank of a select
unfoldable pub rank_of : View → ℕ → Mode → ℕ → ℕ → List ℕ → ℕ → ℕ → ℕ → RankEvents
rank_of v x mode n t held start r f₀ = rank_by v x mode n t (test_of mode v x n held) start r f₀
