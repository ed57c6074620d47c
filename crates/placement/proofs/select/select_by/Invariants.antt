use Rattle.std.specs.Prelude.{◌≡◌, ℕ, Ok}
use Rattle.definitions.specs.declared.Ranked.{Ranked}
use Rattle.definitions.specs.View.{View}
use Rattle.placement.specs.declared.select.Chosen.{Chosen}
use Rattle.placement.specs.Bare.{ranked_under}
use Rattle.placement.specs.Chosen.{ranks_in}
use Rattle.placement.specs.Made.{Kept, ranks_to}
use Rattle.placement.proofs.select.select_by.Given as goal

abbrev pub invariant-loop-r : goal.invariant-loop-r
invariant-loop-r g l =
    let d : Chosen = record { items = l.items; entries = l.entries; len = l.m; tries = l.tries } in
    let s = l.fn.wanted in
    Kept s.n l.before l.i l.r l.held d l.f
    × ((v : View) (x : ℕ)
    → ((a r f : ℕ) (held : _) (k : Ranked) → goal.F-post g l.rank a r held f (Ok k) → k ≡ ranked_under v x s.mode s.n s.t a r held.now f)
    → ranks_in d l.f ≡ ranks_to v x s l.before l.working l.len l.i l.r)

abbrev pub invariant-loop-i : goal.invariant-loop-i
invariant-loop-i g l =
    let d : Chosen = record { items = l.items; entries = l.entries; len = l.m; tries = l.tries } in
    let s = l.fn.wanted in
    Kept s.n l.before l.i 0 l.held d 0
    × ((v : View) (x : ℕ)
    → ((a r f : ℕ) (held : _) (k : Ranked) → goal.F-post g l.rank a r held f (Ok k) → k ≡ ranked_under v x s.mode s.n s.t a r held.now f)
    → ranks_in d 0 ≡ ranks_to v x s l.before l.working l.len l.i 0)
