-- What the daemon's call and the call for a day's drives answer, question by question: laws of the definitions in `Calls`. Assumes nothing.
use Rattle.std.specs.Prelude.{◌≡◌, refl, List, [], ◌∷◌, ℕ, zero, suc, ◌*◌, ◌<◌, ◌≤◌, length}
use Rattle.std.proofs.Common.{sym, ap, ◌∙◌}
use borrow.Author.Tests.{lt-ltb, le-ltb, le-leb, lt-leb}
use Rattle.definitions.specs.Lists.{over, first_no}
use Rattle.definitions.specs.Map.{map_of}
use Rattle.definitions.specs.Select.{entries_of}
use Rattle.definitions.specs.Rule.{width_of, placed_of}
use Rattle.definitions.specs.Writing.{day_group, two_bytes}
use Rattle.definitions.specs.Load.{load_number}
use Rattle.definitions.specs.Calls.{group_below, room_for_bytes, after_load, daemon_number, DaemonAnswer, daemon_by, daemon_of, drives_by, drives_of}
use Rattle.loaded.specs.Day.{day-below}

-- ---- the daemon's call

pub daemon-load : (f : List ℕ) (g : ℕ) (out : List ℕ) → (load_number f ≡ 0 → ⊥) → daemon_of f g out ≡ record { number = load_number f; places = 0; tries = 0; out = out }
unfolding daemon_of daemon_number after_load daemon_by
daemon-load f g out h = go (load_number f) h
  where
    go : (n : ℕ) → (n ≡ 0 → ⊥)
        → daemon_by (width_of (map_of f)) (placed_of (map_of f) g) out (after_load n (first_no ((15, group_below (map_of f) g) ∷ (16, room_for_bytes (map_of f) out) ∷ [])))
        ≡ record { number = n; places = 0; tries = 0; out = out }
    go zero k = absurd (k refl)
    go (suc n) k = refl

module _ (f : List ℕ) (g : ℕ) (out : List ℕ) (e : load_number f ≡ 0) where
  pub daemon-15 : (map_of f).groups ≤ g → daemon_of f g out ≡ record { number = 15; places = 0; tries = 0; out = out }
  unfolding daemon_of daemon_number after_load daemon_by first_no group_below
  daemon-15 h = simp (e, le-ltb g (map_of f).groups h)

  pub daemon-16 : g < (map_of f).groups → length out < 2 * width_of (map_of f) → daemon_of f g out ≡ record { number = 16; places = 0; tries = 0; out = out }
  unfolding daemon_of daemon_number after_load daemon_by first_no group_below room_for_bytes
  daemon-16 h l = simp (e, lt-ltb g (map_of f).groups h, lt-leb (2 * width_of (map_of f)) (length out) l)

  pub daemon-0 : g < (map_of f).groups → 2 * width_of (map_of f) ≤ length out
      → daemon_of f g out ≡ record { number = 0; places = width_of (map_of f); tries = (placed_of (map_of f) g).tries; out = over (two_bytes (entries_of (placed_of (map_of f) g).places)) out }
  unfolding daemon_of daemon_number after_load daemon_by first_no group_below room_for_bytes
  daemon-0 h l = simp (e, lt-ltb g (map_of f).groups h, le-leb (2 * width_of (map_of f)) (length out) l)

-- what a good call of the daemon's answers
pub daemon-done : (f : List ℕ) (g : ℕ) (out new part : List ℕ) (w n : ℕ) → load_number f ≡ 0 → g < (map_of f).groups → w ≡ width_of (map_of f) → 2 * w ≤ length out
    → part ≡ entries_of (placed_of (map_of f) g).places → n ≡ (placed_of (map_of f) g).tries → new ≡ over (two_bytes part) out
    → ◌≡◌ {A = DaemonAnswer} (record { number = 0; places = w; tries = n; out = new }) (daemon_of f g out)
daemon-done f g out new part w n e h p l q r o =
    rw (o, q, r) (ap (λ (a : ℕ). record { number = 0; places = a; tries = (placed_of (map_of f) g).tries; out = over (two_bytes (entries_of (placed_of (map_of f) g).places)) out }) p
    ∙ sym (daemon-0 f g out e h (rw (← p) l)))

-- ---- the drives of a day

-- a refused placing refuses them
pub drives-refused : (f : List ℕ) (show day : ℕ) (out : List ℕ) (a : DaemonAnswer) → a ≡ daemon_of f (day_group (map_of f) show day) out → (a.number ≡ 0 → ⊥)
    → drives_of f show day out ≡ record { number = a.number; group = 0; places = 0; tries = 0; out = a.out }
unfolding drives_of drives_by daemon_of daemon_by
drives-refused f show day out a e h = go (daemon_number f g out) e
  where
    g : ℕ
    g = day_group (map_of f) show day

    d : ℕ → DaemonAnswer
    d n = daemon_by (width_of (map_of f)) (placed_of (map_of f) g) out n

    go : (n : ℕ) → a ≡ d n → drives_by g (d n) out (d n).number ≡ record { number = a.number; group = 0; places = 0; tries = 0; out = a.out }
    go zero p = absurd (h (ap (λ (x : DaemonAnswer). x.number) p))
    go (suc n) p = ap (λ (x : DaemonAnswer). record { number = x.number; group = 0; places = 0; tries = 0; out = x.out }) (sym p)

-- and so does load
pub drives-load : (f : List ℕ) (show day : ℕ) (out : List ℕ) (n : ℕ) → n ≡ load_number f → (n ≡ 0 → ⊥)
    → drives_of f show day out ≡ record { number = n; group = 0; places = 0; tries = 0; out = out }
drives-load f show day out n p h =
    drives-refused f show day out (record { number = n; places = 0; tries = 0; out = out }) (rw p (sym (daemon-load f _ out (λ e. h (p ∙ e))))) h

pub drives-0 : (f : List ℕ) (show day : ℕ) (out : List ℕ) (a : DaemonAnswer) → a ≡ daemon_of f (day_group (map_of f) show day) out → a.number ≡ 0
    → drives_of f show day out ≡ record { number = 0; group = day_group (map_of f) show day; places = a.places; tries = a.tries; out = a.out }
unfolding drives_of drives_by
drives-0 f show day out a e z =
    ap (λ (x : DaemonAnswer). drives_by (day_group (map_of f) show day) x out x.number) (sym e) ∙ ap (drives_by (day_group (map_of f) show day) a out) z

-- so of a map that loads 16 alone can be answered no
pub drives-number : (f : List ℕ) (show day : ℕ) (out : List ℕ) → load_number f ≡ 0 → (drives_of f show day out).number ≡ first_no ((16, room_for_bytes (map_of f) out) ∷ [])
unfolding drives_of drives_by daemon_of daemon_by daemon_number after_load first_no group_below
drives-number f show day out e =
    number (daemon_number f g out) ∙ simp (e, lt-ltb g (map_of f).groups (day-below f show day e))
  where
    g : ℕ
    g = day_group (map_of f) show day

    d : ℕ → DaemonAnswer
    d n = daemon_by (width_of (map_of f)) (placed_of (map_of f) g) out n

    number : (n : ℕ) → (drives_by g (d n) out (d n).number).number ≡ n
    number zero = refl
    number (suc n) = refl
