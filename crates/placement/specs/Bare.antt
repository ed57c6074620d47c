-- A run without its walks: what code keeps of it. The laws say that nothing but the walks is left out.
use Rattle.std.specs.Prelude.{◌≡◌, Bool, cond, eqb, length, replicate}
use Rattle.std.proofs.Math.Path.{refl, sym, ap}
use Rattle.std.proofs.Common.{◌∙◌, arith, add-one}
use Rattle.std.proofs.Math.Bool.{true, false}
use mathlib.Core.List.{List, [], ◌∷◌, ◌++◌, map, map-append, append-nil, append_assoc}
use Prim.Native.Nat.{ℕ, zero, suc, ◌+◌, ◌-◌}
use Rattle.std.proofs.Math.ListN.{get_or, get_or-map}
use Rattle.std.proofs.lemmas.List.{replicate-append-replicate, length-map}
use Rattle.definitions.specs.declared.Mode.{Mode}
use Rattle.definitions.specs.declared.Mode.TheVariants.{FirstN, Independent, Through}
use Rattle.definitions.specs.declared.Action.{Action}
use Rattle.definitions.specs.declared.Action.TheVariants.{Take, Select, Emit, Idle}
use Rattle.definitions.specs.declared.Event.{Event}
use Rattle.definitions.specs.declared.Ranked.{Ranked}
use Rattle.definitions.specs.Map.{Map, bucket_item, bucket_number, actions_of}
use Rattle.definitions.specs.View.{View, view_of}
use Rattle.definitions.specs.Walk.{hole, tries_in, rank_of}
use Rattle.definitions.specs.Select.{Place, Selected, entries_of, items_of, place_under, put_out, holes_under, nowhere, with_rank, next_rank, ranks_to, with_holes, select_at, select_to, select_of}
use Rattle.definitions.specs.Rule.{Run, taken, selected, act, run_to, width_of, padded, placed_by, placed_of}

-- ---- select

-- the items held and the entries put out so far, and the tries so far
pub record Bare : Type 0 where
  pub items : List ℕ
  pub entries : List ℕ
  pub tries : ℕ

abbrev pub bare_of : Selected → Bare
bare_of s = record { items = items_of s.places; entries = entries_of s.places; tries = s.tries }

-- is a place with entry e left out?
unfoldable pub left_out : Mode → ℕ → Bool
left_out FirstN e = eqb e hole
left_out Independent e = false
left_out Through e = false

-- a number i of a place with entry e behind those of the places before it
unfoldable pub put_behind : Mode → ℕ → List ℕ → ℕ → List ℕ
put_behind mode e is i = cond (left_out mode e) is (is ++ (i ∷ []))

-- f beside them: it starts anew under each entry of the working list
pub record BareRanks : Type 0 where
  pub bare : Bare
  pub f : ℕ

-- one rank more, which ended in k
unfoldable pub bare_with : Mode → BareRanks → Ranked → BareRanks
bare_with mode s k =
    record {
      bare = record {
        items = put_behind mode k.entry s.bare.items k.item;
        entries = put_behind mode k.entry s.bare.entries k.entry;
        tries = s.bare.tries + tries_in k;
      };
      f = k.f;
    }

-- a rank under a hole: no draw is made
unfoldable pub unranked : ℕ → Ranked
unranked f = record { item = hole; entry = hole; fr = 0; f = f; inner = 0 }

module _ (v : View) (x : ℕ) (mode : Mode) (n t : ℕ) where
  -- what rank r makes under entry a of the working list, these numbers being held so far and f being what it is
  unfoldable pub ranked_under : ℕ → ℕ → List ℕ → ℕ → Ranked
  ranked_under a r held f = cond (eqb a hole) (unranked f) (rank_of v x mode n t held (bucket_number a) r f).ranked

-- with the entries emitted before the select
module _ (v : View) (x : ℕ) (mode : Mode) (n t : ℕ) (before : List ℕ) where
  unfoldable pub bare_rank : ℕ → ℕ → BareRanks → BareRanks
  bare_rank a r s = bare_with mode s (ranked_under v x mode n t a r (before ++ s.bare.items) s.f)

  -- the ranks 1 to k
  unfoldable pub bare_ranks : ℕ → Bare → ℕ → BareRanks
  bare_ranks a s zero = record { bare = s; f = 0 }
  bare_ranks a s (suc k) = bare_rank a (suc k) (bare_ranks a s k)

  -- over the first k entries of the working list
  unfoldable pub bare_to : List ℕ → ℕ → Bare
  bare_to working zero = record { items = []; entries = []; tries = 0 }
  bare_to working (suc k) = (bare_ranks (get_or working k hole) (bare_to working k) n).bare

  unfoldable pub bare_select : List ℕ → Bare
  bare_select working = bare_to working (length working)

abbrev ranks_of : Selected → BareRanks
ranks_of s = record { bare = bare_of s; f = s.f }

-- what is put out, by one number of each place
put-numbers : (g : Place → ℕ) (mode : Mode) (ps : List Place) (p : Place) → map g (ps ++ put_out mode p) ≡ put_behind mode p.entry (map g ps) (g p)
unfolding put_out put_behind left_out
put-numbers g Independent ps p = map-append g ps (p ∷ [])
put-numbers g Through ps p = map-append g ps (p ∷ [])
put-numbers g FirstN ps p = go (eqb p.entry hole)
  where
    go : (b : Bool) → map g (ps ++ cond b [] (p ∷ [])) ≡ cond b (map g ps) (map g ps ++ (g p ∷ []))
    go true = ap (map g) (append-nil ps)
    go false = map-append g ps (p ∷ [])

copies-more : (k : ℕ) (p : Place) → replicate k p ++ (p ∷ []) ≡ replicate (suc k) p
copies-more k p = replicate-append-replicate k 1 p ∙ ap (λ (i : ℕ). replicate i p) (add-one k)

-- no hole, and one more
holes-none : (mode : Mode) (above : Place) → holes_under mode 0 above ≡ []
unfolding holes_under
holes-none Independent above = refl
holes-none Through above = refl
holes-none FirstN above = refl

holes-more : (mode : Mode) (k : ℕ) (above : Place)
    → holes_under mode k above ++ put_out mode (record { item = hole; entry = hole; walk = above.walk }) ≡ holes_under mode (suc k) above
unfolding holes_under put_out
holes-more Independent k above = copies-more k _
holes-more Through k above = copies-more k _
holes-more FirstN k above = refl

module _ (v : View) (x : ℕ) (mode : Mode) (n t : ℕ) (before : List ℕ) where
  -- one rank more, which ended in k
  with-bare : (s : Selected) (walk : List Event) (k : Ranked) (w : ℕ) → w ≡ s.tries + tries_in k
      → ranks_of (record { places = s.places ++ put_out mode (record { item = k.item; entry = k.entry; walk = walk }); f = k.f; tries = w })
      ≡ bare_with mode (ranks_of s) k
  unfolding bare_with items_of entries_of
  with-bare s walk k w e =
      let p : Place = record { item = k.item; entry = k.entry; walk = walk } in
      rw (e, put-numbers (λ (q : Place). q.item) mode s.places p, put-numbers (λ (q : Place). q.entry) mode s.places p)

  -- the ranks under a hole
  under-hole : (above : Place) → eqb above.entry hole ≡ true → (s : Selected) (k : ℕ)
      → ranks_of (record { places = s.places ++ holes_under mode k above; f = 0; tries = s.tries }) ≡ bare_ranks v x mode n t before above.entry (bare_of s) k
  unfolding bare_ranks bare_rank ranked_under unranked tries_in
  under-hole above e s zero = rw (holes-none mode above, append-nil s.places)
  under-hole above e s (suc k) =
      let hs = holes_under mode k above in
      ap (λ (ps : List Place). ranks_of (record { places = ps; f = 0; tries = s.tries }))
      (ap (λ (ps : List Place). s.places ++ ps) (sym (holes-more mode k above)) ∙ sym (append_assoc s.places hs _))
      ∙ with-bare (record { places = s.places ++ hs; f = 0; tries = s.tries }) above.walk (unranked 0) s.tries (omega arith)
      ∙ rw (e, ← under-hole above e s k)

  -- and under a bucket
  under-bucket : (above : Place) → eqb above.entry hole ≡ false → (s : Selected) (k : ℕ)
      → ranks_of (ranks_to v x mode n t before above s k) ≡ bare_ranks v x mode n t before above.entry (bare_of s) k
  unfolding ranks_to next_rank with_rank place_under bare_ranks bare_rank ranked_under
  under-bucket above e s zero = refl
  under-bucket above e s (suc k) =
      let q = ranks_to v x mode n t before above s k in
      let r = rank_of v x mode n t (before ++ items_of q.places) (bucket_number above.entry) (suc k) q.f in
      with-bare q (above.walk ++ r.events) r.ranked _ refl ∙ rw (e, ← under-bucket above e s k)

  at_bare : (above : Place) (s : Selected) (b : Bool) → eqb above.entry hole ≡ b
      → bare_of (select_at v x mode n t before above s b) ≡ (bare_ranks v x mode n t before above.entry (bare_of s) n).bare
  unfolding select_at with_holes
  at_bare above s true e = ap (λ (r : BareRanks). r.bare) (under-hole above e s n)
  at_bare above s false e = ap (λ (r : BareRanks). r.bare) (under-bucket above e s n)

  entry_at : (ps : List Place) (k : ℕ) → get_or (entries_of ps) k hole ≡ (get_or ps k nowhere).entry
  unfolding entries_of nowhere
  entry_at ps k = get_or-map (λ (p : Place). p.entry) ps k nowhere

  to-bare : (ps : List Place) (k : ℕ) → bare_of (select_to v x mode n t before ps k) ≡ bare_to v x mode n t before (entries_of ps) k
  unfolding select_to bare_to items_of entries_of
  to-bare ps zero = refl
  to-bare ps (suc k) =
      let above = get_or ps k nowhere in
      at_bare above (select_to v x mode n t before ps k) (eqb above.entry hole) refl
      ∙ rw (to-bare ps k, ← entry_at ps k)

  -- what a select holds, its entries and its tries follow from the entries of the working list
  pub select-bare : (ps : List Place) → bare_of (select_of v x mode n t before ps) ≡ bare_select v x mode n t before (entries_of ps)
  unfolding select_of bare_select entries_of
  select-bare ps = to-bare ps (length ps) ∙ ap (bare_to v x mode n t before (entries_of ps)) (sym (length-map ps (λ (p : Place). p.entry)))

-- every list of entries is that of some places
pub walkless : (es : List ℕ) → (ps : List Place) × (entries_of ps ≡ es)
unfolding entries_of
walkless [] = ([], refl)
walkless (e ∷ es) = let (ps, q) = walkless es in (record { item = e; entry = e; walk = [] } ∷ ps, ap (λ (l : List ℕ). e ∷ l) q)

-- ---- rule

-- the items and the entries of the working list, the entries emitted so far, and the tries so far
pub record BareRun : Type 0 where
  pub items : List ℕ
  pub working : List ℕ
  pub list : List ℕ
  pub tries : ℕ

abbrev pub bare_run_of : Run → BareRun
bare_run_of s = record { items = items_of s.working; working = entries_of s.working; list = entries_of s.list; tries = s.tries }

unfoldable pub bare_selected : BareRun → Bare → BareRun
bare_selected s k = record { items = k.items; working = k.entries; list = s.list; tries = s.tries + k.tries }

unfoldable pub bare_act : View → ℕ → BareRun → Action → BareRun
bare_act v x s (Take b) = record { items = bucket_item b ∷ []; working = bucket_item b ∷ []; list = s.list; tries = s.tries }
bare_act v x s (Select mode n t) = bare_selected s (bare_select v x mode n t s.list s.working)
bare_act v x s Emit = record { items = s.items; working = s.working; list = s.list ++ s.working; tries = s.tries }
bare_act v x s Idle = s

-- the first k steps
unfoldable pub bare_run_to : View → ℕ → List Action → ℕ → BareRun
bare_run_to v x actions zero = record { items = []; working = []; list = []; tries = 0 }
bare_run_to v x actions (suc k) = bare_act v x (bare_run_to v x actions k) (get_or actions k Idle)

-- a list of w places
unfoldable pub filled_up : ℕ → List ℕ → List ℕ
filled_up w es = es ++ replicate (w - length es) hole

module _ (v : View) (x : ℕ) where
  pub act-bare : (s : Run) (a : Action) → bare_run_of (act v x s a) ≡ bare_act v x (bare_run_of s) a
  unfolding act bare_act taken items_of entries_of selected bare_selected
  act-bare s (Take b) = refl
  act-bare s (Select mode n t) = ap (bare_selected (bare_run_of s)) (select-bare v x mode n t (entries_of s.list) s.working)
  act-bare s Emit = ap (λ (l : List ℕ). record { items = items_of s.working; working = entries_of s.working; list = l; tries = s.tries }) (map-append (λ (p : Place). p.entry) s.list s.working)
  act-bare s Idle = refl

  pub run-bare : (actions : List Action) (k : ℕ) → bare_run_of (run_to v x actions k) ≡ bare_run_to v x actions k
  unfolding run_to bare_run_to items_of entries_of
  run-bare actions zero = refl
  run-bare actions (suc k) = act-bare (run_to v x actions k) (get_or actions k Idle) ∙ ap (λ (s : BareRun). bare_act v x s (get_or actions k Idle)) (run-bare actions k)

-- the run of group x by map m
abbrev pub bare_run : Map → ℕ → BareRun
bare_run m x = bare_run_to (view_of m) x (actions_of m) (length (actions_of m))

map-replicate : (g : Place → ℕ) (n : ℕ) (p : Place) → map g (replicate n p) ≡ replicate n (g p)
map-replicate g zero p = refl
map-replicate g (suc n) p = ap (λ (l : List ℕ). g p ∷ l) (map-replicate g n p)

-- a group's list and its tries
pub list-bare : (m : Map) (x : ℕ) → entries_of (placed_of m x).places ≡ filled_up (width_of m) (bare_run m x).list
unfolding placed_of placed_by padded filled_up nowhere entries_of
list-bare m x =
    let s = run_to (view_of m) x (actions_of m) (length (actions_of m)) in
    let e : entries_of s.list ≡ (bare_run m x).list = ap (λ (r : BareRun). r.list) (run-bare (view_of m) x (actions_of m) (length (actions_of m))) in
    map-append (λ (p : Place). p.entry) s.list (replicate (width_of m - length s.list) nowhere)
    ∙ rw (map-replicate (λ (p : Place). p.entry) (width_of m - length s.list) nowhere, ← length-map s.list (λ (p : Place). p.entry), ← e)

pub tries-bare : (m : Map) (x : ℕ) → (placed_of m x).tries ≡ (bare_run m x).tries
unfolding placed_of placed_by
tries-bare m x = ap (λ (r : BareRun). r.tries) (run-bare (view_of m) x (actions_of m) (length (actions_of m)))
