-- Document 01, "Walk, select and rule": a select over the working list. A place comes with its walk.
use Rattle.std.specs.Prelude.{Bool, true, false, cond, List, [], ◌∷◌, ◌++◌, map, ℕ, zero, suc, ◌+◌, eqb, length, get_or, replicate}
use Rattle.definitions.specs.declared.Mode.{Mode}
use Rattle.definitions.specs.declared.Mode.TheVariants.{FirstN, Independent, Through}
use Rattle.definitions.specs.declared.Event.{Event}
use Rattle.definitions.specs.Map.{bucket_number}
use Rattle.definitions.specs.View.{View}
use Rattle.definitions.specs.Walk.{hole, RankEvents, tries_in, rank_of}

-- "A select's own places are the entries it puts out, holes included"; "A place's walk is every draw and test made for it, those of the
-- selects above it included." The item is what the select holds: the entry itself, or in a select through the item that the entry lies
-- beneath.
pub record Place : Type 0 where
  pub item : ℕ
  pub entry : ℕ
  pub walk : List Event

-- the places put out so far, f, and the tries so far
pub record Selected : Type 0 where
  pub places : List Place
  pub f : ℕ
  pub tries : ℕ

unfoldable pub entries_of : List Place → List ℕ
entries_of ps = map (λ (p : Place). p.entry) ps

unfoldable pub items_of : List Place → List ℕ
items_of ps = map (λ (p : Place). p.item) ps

-- the place that a rank puts out, under the place above it
unfoldable pub place_under : Place → RankEvents → Place
place_under above k = record { item = k.ranked.item; entry = k.ranked.entry; walk = above.walk ++ k.events }

-- "independent leaves a hole (ffff), first-n leaves out the place"; of a select through: "independent mode"
unfoldable pub put_out : Mode → Place → List Place
put_out Independent p = p ∷ []
put_out Through p = p ∷ []
put_out FirstN p = cond (eqb p.entry hole) [] (p ∷ [])

-- "A hole in the working list gives n holes to an independent select and nothing to a first-n."
unfoldable pub holes_under : Mode → ℕ → Place → List Place
holes_under Independent n above = replicate n (record { item = hole; entry = hole; walk = above.walk })
holes_under Through n above = replicate n (record { item = hole; entry = hole; walk = above.walk })
holes_under FirstN n above = []

unfoldable pub nowhere : Place
nowhere = record { item = hole; entry = hole; walk = [] }

-- v, the group x, the select (mode, count n, type t), and the entries of the list emitted before it
module _ (v : View) (x : ℕ) (mode : Mode) (n t : ℕ) (before : List ℕ) where
  unfoldable pub with_rank : Place → Selected → RankEvents → Selected
  with_rank above s k =
      record {
        places = s.places ++ put_out mode (place_under above k);
        f = k.ranked.f;
        tries = s.tries + tries_in k.ranked;
      }

  -- the rank r at the bucket of the place above. Held are the items of the select's own places so far, and: "A device test now also fails for
  -- a device that an earlier block has emitted, and it counts as held, local retry included."
  unfoldable pub next_rank : Place → ℕ → Selected → Selected
  next_rank above r s =
      with_rank above s (rank_of v x mode n t (before ++ items_of s.places) (bucket_number above.entry) r s.f)

  -- "for each bucket in it, f = 0 and ranks r = 1 to n follow": the ranks 1 to k
  unfoldable pub ranks_to : Place → Selected → ℕ → Selected
  ranks_to above s zero = record { places = s.places; f = 0; tries = s.tries }
  ranks_to above s (suc k) = next_rank above (suc k) (ranks_to above s k)

  unfoldable pub with_holes : Place → Selected → Selected
  with_holes above s = record { places = s.places ++ holes_under mode n above; f = s.f; tries = s.tries }

  -- the last argument says whether the place above is a hole
  unfoldable pub select_at : Place → Selected → Bool → Selected
  select_at above s true = with_holes above s
  select_at above s false = ranks_to above s n

  -- "Select runs over that list": over the first k places of the working list
  unfoldable pub select_to : List Place → ℕ → Selected
  select_to working zero = record { places = []; f = 0; tries = 0 }
  select_to working (suc k) =
      select_at (get_or working k nowhere) (select_to working k) (eqb (get_or working k nowhere).entry hole)

  unfoldable pub select_of : List Place → Selected
  select_of working = select_to working (length working)
