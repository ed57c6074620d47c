-- Lists of calls on a map with a first-n select are what `Unaltered` of specs/FirstN.antt says. Assumes nothing.
use Rattle.std.specs.Prelude.{◌≡◌, true, List, ℕ, ◌*◌, length}
use Rattle.std.proofs.Math.Path.{refl, ap}
use Rattle.std.proofs.Common.{◌∙◌}
use borrow.Author.Tests.{eq-eqb, le-leb}
use Rattle.definitions.specs.Lists.{first_no}
use Rattle.definitions.specs.Map.{Map}
use Rattle.definitions.specs.Rule.{width_of}
use Rattle.definitions.specs.Load.{load_number}
use Rattle.definitions.specs.Calls.{whole, room_for_table, EditAnswer, case_of, edit_number, edit_by, edit_answer, edit_of, return_case, return_number, return_by, return_answer, return_of}
use Rattle.history.specs.Step.{Refused}
use Rattle.history.specs.States.{asked, store-stated}
use Rattle.history.specs.Calls.{Site, map_at, states_at, Call, editing, storing, returning, Comes, left, Run, none, then, where_good, map_after, states_after}
use Rattle.history.proofs.Calls.{remembers, keeps, told-store, store-after, stores-it}
use Rattle.history.specs.FirstN.{Fixed, Refuses, EachRefused, nothing, and, Unaltered}

module _ (s : Site) (S : Fixed s) where
  abbrev m : Map
  m = map_at s

  asked-14 : whole s.frames ≡ true
  unfolding whole
  asked-14 = eq-eqb (load_number s.frames) 0 S.loads

  asked-16 : room_for_table m s.table ≡ true
  unfolding room_for_table
  asked-16 = le-leb (m.groups * width_of m) (length s.table) S.room

  edit-number : (edit space : List ℕ) → edit_number (case_of s.frames s.table edit space) ≡ 17
  unfolding edit_number case_of first_no
  edit-number edit space = simp (asked-14, asked-16, S.first-n)

  return-number : (name : ℕ) (space : List ℕ) → return_number (return_case s.frames s.table s.states name space) ≡ 17
  unfolding return_number return_case first_no
  return-number name space = simp (asked s.frames s.states S.loads S.stated, asked-16, S.first-n)

  edit-17 : (edit space : List ℕ) (o : EditAnswer) → o ≡ edit_of s.frames s.table edit space → Refused 17 s.frames s.table space o
  unfolding edit_of edit_answer edit_by case_of
  edit-17 edit space o e =
      let q : o ≡ edit_by (case_of s.frames s.table edit space) 17 = e ∙ ap (edit_by (case_of s.frames s.table edit space)) (edit-number edit space) in
      rw q (record { number = refl; none = refl; same-frames = refl; same-table = refl; same-space = refl })

  return-17 : (name : ℕ) (space : List ℕ) (o : EditAnswer) → o ≡ return_of s.frames s.table s.states name space
      → Refused 17 s.frames s.table space o
  unfolding return_of return_answer return_by return_case
  return-17 name space o e =
      let k = return_case s.frames s.table s.states name space in
      let q : o ≡ return_by k 17 = e ∙ ap (return_by k) (return-number name space) in
      rw q (record { number = refl; none = refl; same-frames = refl; same-table = refl; same-space = refl })

  -- ONE CALL
  pub refuses : (c : Call) → Comes s c → Refuses s c
  refuses (editing edit space o) e = edit-17 edit space o e
  refuses (storing name o) (h, e) = stores-it s S.loads S.stated name o e
  refuses (returning name space o) e = return-17 name space o e

  same-site : (c : Call) → Comes s c → ((left s c).frames ≡ s.frames) × ((left s c).table ≡ s.table)
  same-site (editing edit space o) e = let r = edit-17 edit space o e in (r.same-frames, r.same-table)
  same-site (storing name o) e = (refl, refl)
  same-site (returning name space o) e = let r = return-17 name space o e in (r.same-frames, r.same-table)

  fixed-after : (c : Call) → Comes s c → Fixed (left s c)
  fixed-after (editing edit space o) e =
      let r = edit-17 edit space o e in
      rw (r.same-frames, r.same-table) (record { loads = S.loads; room = S.room; first-n = S.first-n; stated = S.stated })
  fixed-after (storing name o) (h, e) =
      record {
        loads = S.loads;
        room = S.room;
        first-n = S.first-n;
        stated = store-stated s.frames s.states name S.loads S.stated h o (told-store s S.loads S.stated name o e);
      }
  fixed-after (returning name space o) e =
      let r = return-17 name space o e in
      rw (r.same-frames, r.same-table) (record { loads = S.loads; room = S.room; first-n = S.first-n; stated = S.stated })

  map-after : (c : Call) → Comes s c → map_at (left s c) ≡ map_after m (states_at s) c
  unfolding map_after where_good
  map-after (editing edit space o) e = let r = edit-17 edit space o e in rw (r.number, r.same-frames) refl
  map-after (storing name o) e = refl
  map-after (returning name space o) e = let r = return-17 name space o e in rw (r.number, r.same-frames) refl

  states-after : (c : Call) → Comes s c → states_at (left s c) ≡ states_after m (states_at s) c
  unfolding states_after
  states-after (editing edit space o) e = refl
  states-after (storing name o) (h, e) = store-after s S.loads S.stated name o e h (told-store s S.loads S.stated name o e)
  states-after (returning name space o) e = refl

same-all : {s s' : Site} {cs : List Call} → Fixed s → Run s cs s' → (s'.frames ≡ s.frames) × (s'.table ≡ s.table)
same-all S none = (refl, refl)
same-all {s} S (then c e r) =
    let (p, q) = same-all (fixed-after s S c e) r in
    let (a, b) = same-site s S c e in
    (p ∙ a, q ∙ b)

each-refused : {s s' : Site} {cs : List Call} → Fixed s → Run s cs s' → EachRefused s cs
each-refused S none = nothing
each-refused {s} S (then c e r) = and (refuses s S c e) (each-refused (fixed-after s S c e) r)

-- EVERY LIST OF CALLS on such a map
pub unaltered : {s s' : Site} {cs : List Call} → Fixed s → Run s cs s' → Unaltered s cs s'
unaltered S r =
    let (p, q) = same-all S r in
    record {
      same-frames = p;
      same-table = q;
      stated = (keeps Fixed fixed-after map-after states-after S r).stated;
      remembered = remembers Fixed fixed-after map-after states-after S r;
      each = each-refused S r;
    }
