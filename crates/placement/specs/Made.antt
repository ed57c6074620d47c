-- A select as its loops go, whatever makes its ranks. Assumes nothing.
use Rattle.std.specs.Prelude.{◌≡◌, true, false, List, ◌++◌, ℕ, ◌+◌, ◌*◌, ◌<◌, ◌≤◌, length, get_or, take, set}
use Rattle.std.proofs.Common.{refl, ap, length-set, arith}
use Rattle.definitions.specs.declared.Ranked.{Ranked}
use Rattle.definitions.specs.View.{View}
use Rattle.definitions.specs.Walk.{tries_in}
use Rattle.walk.specs.declared.Wanted.{Wanted}
use Rattle.placement.specs.declared.select.Chosen.{Chosen}
use Rattle.placement.specs.Bare.{Bare, BareRanks, left_out, bare_with, ranked_under, bare_ranks, bare_to, bare_select, filled_up}
use Rattle.placement.specs.Chosen.{bare_in, ranks_in, UnderBounds, put-nothing, put-place, held_start, held_more, held-ranked, ranks-more, to-more, to-all}

-- the first i entries of the working list are worked on, and under the next the ranks 1 to r are made
abbrev pub ranks_to : View → ℕ → Wanted → List ℕ → List ℕ → ℕ → ℕ → ℕ → BareRanks
ranks_to v x s before working len i r = bare_ranks v x s.mode s.n s.t before (get_or working i 0) (bare_to v x s.mode s.n s.t before (take len working) i) r

-- d and f are as large as so many ranks make them, and `held` begins with what the next rank finds held
pub record Kept (n : ℕ) (before : List ℕ) (i r : ℕ) (held : List ℕ) (d : Chosen) (f : ℕ) : Type 0 where
  pub counts : (d.len ≤ i * n + r) × (d.tries ≤ 2550 * (i * n + r)) × (f ≤ 50 * r)
  pub sized : (length d.items ≡ 16) × (length d.entries ≡ 16) × (length held ≡ 48)
  pub holds : take (length before + d.len) held ≡ before ++ take d.len d.items

pub kept_none : (n : ℕ) (before held items entries : List ℕ) → held ≡ filled_up 48 before
    → (length items ≡ 16) × (length entries ≡ 16) × (length held ≡ 48) → Kept n before 0 0 held (record { items = items; entries = entries; len = 0; tries = 0 }) 0
kept_none n before held items entries e l = record { counts = omega arith; sized = l; holds = held_start before held items e }

pub kept-entry : {n : ℕ} {before : List ℕ} {i r : ℕ} {held : List ℕ} {d : Chosen} {f : ℕ} → Kept n before i r held d f → r ≡ n → Kept n before (i + 1) 0 held d 0
kept-entry so e = record { counts = omega (arith, so.counts, e); sized = so.sized; holds = so.holds }

module _ {n : ℕ} {before : List ℕ} {i r : ℕ} {held : List ℕ} {d : Chosen} {f : ℕ} (so : Kept n before i r held d f) (k : Ranked) (t : ℕ)
    (u : UnderBounds f k) (e : t ≡ tries_in k) where
  pub kept-nothing : Kept n before i (r + 1) held (record { items = d.items; entries = d.entries; len = d.len; tries = d.tries + t }) k.f
  kept-nothing = record { counts = omega (arith, so.counts, u, e); sized = so.sized; holds = so.holds }

  pub kept-place : length before ≤ 32 → d.len < 16 → Kept n before i (r + 1) (set held (length before + d.len) k.item)
      (record { items = set d.items d.len k.item; entries = set d.entries d.len k.entry; len = d.len + 1; tries = d.tries + t }) k.f
  kept-place b l =
      let w = so.sized in
      record {
        counts = omega (arith, so.counts, u, e);
        sized = simp length-set w;
        holds = held_more before held d.items (length before) d.len k.item so.holds (omega (arith, b, l, w.2)) (omega (arith, l, w.0));
      }

module _ (v : View) (x : ℕ) (s : Wanted) (before working : List ℕ) (len i r : ℕ) (held : List ℕ) (d : Chosen) (f : ℕ)
    (is : ranks_in d f ≡ ranks_to v x s before working len i r) where
  pub is-entry : i < len → len ≤ length working → r ≡ s.n → ranks_in d 0 ≡ ranks_to v x s before working len (i + 1) 0
  unfolding bare_ranks
  is-entry h l e = ap (λ (b : Bare). record { bare = b; f = 0 }) (to-more v x s.mode s.n s.t before working len i r (ranks_in d f) h l e is)

  module _ (so : Kept s.n before i r held d f) (k : Ranked) (t : ℕ)
      (at : k ≡ ranked_under v x s.mode s.n s.t (get_or working i 0) (r + 1) (take (length before + d.len) held) f) (e : t ≡ tries_in k) where
    next : (q : BareRanks) → q ≡ bare_with s.mode (ranks_in d f) k → q ≡ ranks_to v x s before working len i (r + 1)
    next q =
        ranks-more v x s.mode s.n s.t before (get_or working i 0) _ r (ranks_in d f) q k is
        (held-ranked v x s.mode s.n s.t (get_or working i 0) (r + 1) f (take (length before + d.len) held) (before ++ take d.len d.items) k so.holds at)

    pub is-nothing : left_out s.mode k.entry ≡ true
        → ranks_in (record { items = d.items; entries = d.entries; len = d.len; tries = d.tries + t }) k.f ≡ ranks_to v x s before working len i (r + 1)
    is-nothing h = next _ (put-nothing s.mode d f k t e h)

    pub is-place : left_out s.mode k.entry ≡ false → d.len < 16
        → ranks_in (record { items = set d.items d.len k.item; entries = set d.entries d.len k.entry; len = d.len + 1; tries = d.tries + t }) k.f
        ≡ ranks_to v x s before working len i (r + 1)
    is-place h l = let w = so.sized in next _ (put-place s.mode d f k t e h (omega (arith, l, w.0)) (omega (arith, l, w.1)))

pub is_none : (v : View) (x : ℕ) (s : Wanted) (before working items entries : List ℕ) (len : ℕ)
    → ranks_in (record { items = items; entries = entries; len = 0; tries = 0 }) 0 ≡ ranks_to v x s before working len 0 0
unfolding bare_ranks bare_to
is_none v x s before working items entries len = refl

pub is_all : (v : View) (x : ℕ) (s : Wanted) (before working : List ℕ) (len i : ℕ) (d : Chosen) (f : ℕ) → ranks_in d f ≡ ranks_to v x s before working len i 0
    → i ≡ len → len ≤ length working → bare_in d ≡ bare_select v x s.mode s.n s.t before (take len working)
unfolding bare_ranks
is_all v x s before working len i d f is e l = to-all v x s.mode s.n s.t before working len i (bare_in d) e l (ap (λ (b : BareRanks). b.bare) is)
