-- What the code keeps of a select, as the select without its walks. Assumes nothing.
use Rattle.std.specs.Prelude.{◌≡◌, true, false, List, [], ◌∷◌, ◌++◌, ℕ, suc, ◌+◌, ◌-◌, ◌<◌, ◌≤◌, length, take, set, replicate}
use Rattle.std.proofs.Math.Path.{refl, sym, ap}
use Rattle.std.proofs.Common.{◌∙◌, append-nil, append_assoc, add-zero, arith, take_at, length-take-le, eq-eqb, ne_eqb}
use Rattle.std.proofs.Math.Numerals.{add-one}
use Rattle.std.proofs.Math.ListN.{get_or}
use Rattle.std.proofs.lemmas.List.{set-get_or}
use Rattle.std.proofs.Math.Seq.{take-suc-set, get_or-take}
use Rattle.definitions.specs.declared.Mode.{Mode}
use Rattle.definitions.specs.declared.Ranked.{Ranked}
use Rattle.definitions.specs.View.{View}
use Rattle.definitions.specs.Map.{bucket_number}
use Rattle.definitions.specs.Walk.{hole, tries_in, rank_of}
use Rattle.laws.specs.Tries.{rank-tries}
use Rattle.placement.specs.declared.select.Chosen.{Chosen}
use Rattle.placement.specs.Entries.{same_at}
use Rattle.placement.specs.Bare.{Bare, BareRanks, left_out, put_behind, bare_with, unranked, ranked_under, bare_rank, bare_ranks, bare_to, bare_select, filled_up}

-- the places put out are the first of the two arrays
abbrev pub bare_in : Chosen → Bare
bare_in c = record { items = take c.len c.items; entries = take c.len c.entries; tries = c.tries }

-- f beside them
abbrev pub ranks_in : Chosen → ℕ → BareRanks
ranks_in c f = record { bare = bare_in c; f = f }

-- the counts of a rank that started with f
abbrev pub UnderBounds : ℕ → Ranked → Type 0
UnderBounds f k = (k.fr ≤ 50) × (k.f ≤ f + 50) × (k.inner ≤ 2500) × (tries_in k ≤ 2550)

-- ---- a rank under entry a

pub hole-bounds : (f : ℕ) → UnderBounds f (unranked f)
unfolding unranked tries_in
hole-bounds f = (omega arith, omega arith, omega arith, omega arith)

module _ (v : View) (x : ℕ) (mode : Mode) (n t a r : ℕ) (held : List ℕ) (f : ℕ) where
  pub hole-ranked : a ≡ hole → unranked f ≡ ranked_under v x mode n t a r held f
  unfolding ranked_under
  hole-ranked e = rw (eq-eqb a hole e)

  -- the rank starts at bucket b, and ended in k
  module _ (b : ℕ) (k : Ranked) (at : b ≡ bucket_number a) (is : k ≡ (rank_of v x mode n t held b r f).ranked) where
    pub bucket-ranked : (a ≡ hole → ⊥) → k ≡ ranked_under v x mode n t a r held f
    unfolding ranked_under
    bucket-ranked e = rw (ne_eqb a hole e, ← at) is

    pub bucket-tries : tries_in k ≤ 2550
    bucket-tries = rw is (rank-tries v x n held mode t b r f)

-- ---- a rank that ended in k, and its tries w

module _ (mode : Mode) (c : Chosen) (f : ℕ) (k : Ranked) (w : ℕ) (e : w ≡ tries_in k) where
  pub put-nothing : left_out mode k.entry ≡ true
      → ranks_in (record { items = c.items; entries = c.entries; len = c.len; tries = c.tries + w }) k.f ≡ bare_with mode (ranks_in c f) k
  unfolding bare_with put_behind
  put-nothing h = rw (h, e)

  pub put-place : left_out mode k.entry ≡ false → c.len < length c.items → c.len < length c.entries
      → ranks_in (record { items = set c.items c.len k.item; entries = set c.entries c.len k.entry; len = c.len + 1; tries = c.tries + w }) k.f
      ≡ bare_with mode (ranks_in c f) k
  unfolding bare_with put_behind
  put-place h i j = rw (h, e, add-one c.len, take-suc-set c.items c.len k.item i, take-suc-set c.entries c.len k.entry j)

-- ---- what is held: the entries emitted before the select, and behind them the items of its places

held-front : (before held : List ℕ) → held ≡ filled_up 48 before → take (length before) held ≡ before
unfolding filled_up
held-front before held e = rw e (take_at before (replicate (48 - length before) hole) (length before) refl)

-- the entries emitted are the first of an array
pub held-list : (list : List ℕ) (a : ℕ) (held : List ℕ) → a ≤ length list → held ≡ filled_up 48 (take a list) → take a held ≡ take a list
held-list list a held h e = ap (λ (k : ℕ). take k held) (sym (length-take-le a list h)) ∙ held-front (take a list) held e

-- no place yet
pub held_none : (before held items : List ℕ) (a : ℕ) → take a held ≡ before → take (a + 0) held ≡ before ++ take 0 items
held_none before held items a e = rw (add-zero a, append-nil before) e

pub held_start : (before held items : List ℕ) → held ≡ filled_up 48 before → take (length before + 0) held ≡ before ++ take 0 items
held_start before held items e = held_none before held items (length before) (held-front before held e)

-- one place more
pub held_more : (before held items : List ℕ) (a m i : ℕ) → take (a + m) held ≡ before ++ take m items → a + m < length held → m < length items
    → take (a + (m + 1)) (set held (a + m) i) ≡ before ++ take (m + 1) (set items m i)
held_more before held items a m i e h l =
    let q : a + (m + 1) ≡ suc (a + m) = omega arith in
    rw (q, add-one m, take-suc-set held (a + m) i h, take-suc-set items m i l, e) (append_assoc before (take m items) (i ∷ []))

-- and where the items are there already
pub held_next : (before held items : List ℕ) (a m : ℕ) → take (a + m) held ≡ before ++ take m items → a + m < length held → m < length items
    → take (a + (m + 1)) (set held (a + m) (get_or items m 0)) ≡ before ++ take (m + 1) items
held_next before held items a m e h l =
    held_more before held items a m (get_or items m 0) e h l ∙ ap (λ (is : List ℕ). before ++ take (m + 1) is) (set-get_or items m 0)

-- a rank against what is held
pub held-ranked : (v : View) (x : ℕ) (mode : Mode) (n t a r f : ℕ) (held ns : List ℕ) (k : Ranked) → held ≡ ns → k ≡ ranked_under v x mode n t a r held f
    → k ≡ ranked_under v x mode n t a r ns f
held-ranked v x mode n t a r f held ns k e q = q ∙ ap (λ (h : List ℕ). ranked_under v x mode n t a r h f) e

-- ---- loops over the ranks and over the working list

module _ (v : View) (x : ℕ) (mode : Mode) (n t : ℕ) (before : List ℕ) where
  -- no rank yet, and one more
  pub ranks-start : (a : ℕ) (s : Bare) → record { bare = s; f = 0 } ≡ bare_ranks v x mode n t before a s 0
  unfolding bare_ranks
  ranks-start a s = refl

  pub ranks-more : (a : ℕ) (s : Bare) (r : ℕ) (c d : BareRanks) (k : Ranked) → c ≡ bare_ranks v x mode n t before a s r
      → k ≡ ranked_under v x mode n t a (r + 1) (before ++ c.bare.items) c.f → d ≡ bare_with mode c k → d ≡ bare_ranks v x mode n t before a s (r + 1)
  unfolding bare_ranks bare_rank
  ranks-more a s r c d k e g q = rw (add-one r, ← e) (q ∙ ap (bare_with mode c) (rw (add-one r) at g))

  -- no entry of the working list yet, one more, and all
  pub to_start : (working : List ℕ) → record { items = []; entries = []; tries = 0 } ≡ bare_to v x mode n t before working 0
  unfolding bare_to
  to_start working = refl

  pub to-more : (working : List ℕ) (len i r : ℕ) (d : BareRanks) → i < len → len ≤ length working → r ≡ n
      → d ≡ bare_ranks v x mode n t before (get_or working i 0) (bare_to v x mode n t before (take len working) i) r
      → d.bare ≡ bare_to v x mode n t before (take len working) (i + 1)
  unfolding bare_to
  to-more working len i r d h l e q =
      let s = bare_to v x mode n t before (take len working) i in
      let at : get_or (take len working) i hole ≡ get_or working i 0 = get_or-take len working i hole h ∙ same_at working i hole 0 (omega arith) in
      rw (add-one i)
      (ap (λ (z : BareRanks). z.bare) (q ∙ ap (bare_ranks v x mode n t before (get_or working i 0) s) e) ∙ ap (λ (a : ℕ). (bare_ranks v x mode n t before a s n).bare) (sym at))

  pub to-all : (working : List ℕ) (len i : ℕ) (d : Bare) → i ≡ len → len ≤ length working → d ≡ bare_to v x mode n t before (take len working) i
      → d ≡ bare_select v x mode n t before (take len working)
  unfolding bare_select
  to-all working len i d e l q = q ∙ ap (bare_to v x mode n t before (take len working)) (e ∙ sym (length-take-le len working l))
