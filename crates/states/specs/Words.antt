-- The words of named states, read at their places. Assumes nothing.
use Rattle.std.specs.Prelude.{◌≡◌, Bool, cond, not, ◌&&◌, ◌||◌, List, [], ◌∷◌, ℕ, zero, suc, ◌+◌, ◌-◌, ◌*◌, ◌<◌, ◌≤◌, eqb, get_or, set, take, drop}
use Rattle.std.proofs.Math.Path.{refl, sym, ap}
use Rattle.std.proofs.Common.{◌∙◌, arith, add-one, add_assoc, length-drop, drop-drop, get_or-drop, take-suc, take-suc-set}
use Rattle.std.proofs.Math.Bool.{true, false, and-false}
use Rattle.std.proofs.Math.Dec.{leb, ltb}
use Rattle.std.proofs.Math.ListN.{length, drop_of_length-le}
use Rattle.std.proofs.lemmas.List.{length-map}
use Rattle.std.proofs.Math.Seq.{drop-cons}
use borrow.Author.Tests.{leb-true, ltb-true, ltb-false, le-leb, lt-leb, eq-eqb, ne_eqb, lt-ltb, le-ltb}
use Rattle.definitions.specs.declared.Device.{Device}
use Rattle.definitions.specs.Lists.{every, has, distinct, same}
use Rattle.definitions.specs.Map.{Map}
use Rattle.definitions.specs.Load.{device_ranged}
use Rattle.definitions.specs.States.{NamedState, drives_in, state_size, states_in, states_of, numbers_of, state_fits, count_fits, names_of, stated, named, room_for_name, devices_named}
use Rattle.laws.specs.Lists.{every-at, every_map, every-mono, get_d-mapped}
use Rattle.laws.specs.Loadable.{device-ranged}
use Rattle.keeping.specs.States.{drives-count, drive_at, drive-at, states-count, how-many, Stated, each-has}
use Rattle.text.specs.Records.{no_device}

-- ---- the drives of a state

-- the drives es have these numbers, and values that load takes
abbrev pub drives_fit : List ℕ → List Device → Bool
drives_fit ns es = same ns (numbers_of es) && every device_ranged es

-- a loop over the drives from word a on: i so far
module _ (ns ws : List ℕ) (a i : ℕ) where
  abbrev n : ℕ
  n = length ns

  abbrev es : List Device
  es = drives_in n (drop a ws)

  abbrev fit_left : Bool
  fit_left = drives_fit (drop i ns) (drop i es)

  pub fit-end : n ≤ i → fit_left ≡ true
  unfolding same every
  fit-end h = rw (drop_of_length-le ns {i = i} h, drop_of_length-le es {i = i} (omega (arith, drives-count n (drop a ws)))) refl

  module _ (h : i < n) where
    abbrev x : ℕ
    x = get_or ns i 0

    fit-cons : fit_left
        ≡ (eqb x (get_or ws (a + 3 * i) 0) && same (drop (i + 1) ns) (numbers_of (drop (i + 1) es))
        && (device_ranged (drive_at ws (a + 3 * i)) && every device_ranged (drop (i + 1) es)))
    unfolding same every
    fit-cons = rw (add-one i, drop-cons ns i 0 h, drop-cons es i no_device (omega (arith, drives-count n (drop a ws))), drive-at n ws a i no_device h) refl

    -- another number, or a value out of range
    pub number-stop : (x ≡ get_or ws (a + 3 * i) 0 → ⊥) → fit_left ≡ false
    number-stop f = fit-cons ∙ rw (ne_eqb x (get_or ws (a + 3 * i) 0) f) refl

    range-stop : device_ranged (drive_at ws (a + 3 * i)) ≡ false → fit_left ≡ false
    range-stop e = fit-cons ∙ rw e (and-false (eqb x (get_or ws (a + 3 * i) 0) && same (drop (i + 1) ns) (numbers_of (drop (i + 1) es))))

    pub weight-stop : 65535 < get_or ws (a + 3 * i + 1) 0 → fit_left ≡ false
    unfolding device_ranged
    weight-stop l = range-stop (rw (lt-leb (get_or ws (a + 3 * i + 1) 0) 65535 l, and-false (leb (get_or ws (a + 3 * i) 0) 1023)) refl)

    pub acceptance-stop : 65536 < get_or ws (a + 3 * i + 2) 0 → fit_left ≡ false
    unfolding device_ranged
    acceptance-stop l =
        range-stop
        (rw (lt-leb (get_or ws (a + 3 * i + 2) 0) 65536 l) (and-false (leb (get_or ws (a + 3 * i) 0) 1023 && leb (get_or ws (a + 3 * i + 1) 0) 65535)))

    -- one more fits: its number is in range, as all of these are
    pub fit_next : every (λ (y : ℕ). leb y 1023) ns ≡ true → x ≡ get_or ws (a + 3 * i) 0 → get_or ws (a + 3 * i + 1) 0 ≤ 65535 → get_or ws (a + 3 * i + 2) 0 ≤ 65536
        → drives_fit (drop (i + 1) ns) (drop (i + 1) es) ≡ fit_left
    unfolding device_ranged
    fit_next f e p q =
        let r : x ≤ 1023 = leb-true x 1023 (every-at (λ (y : ℕ). leb y 1023) ns i 0 f h) in
        sym (fit-cons
        ∙ rw (eq-eqb x (get_or ws (a + 3 * i) 0) e)
        (rw (le-leb (get_or ws (a + 3 * i) 0) 1023 (omega (arith, e, r)), le-leb (get_or ws (a + 3 * i + 1) 0) 65535 p, le-leb (get_or ws (a + 3 * i + 2) 0) 65536 q) refl))

-- the numbers of a map's drives: one more is read
pub number_more : (ds : List Device) (own : List ℕ) (i v : ℕ) → i < length ds → i < length own → v ≡ (get_or ds i no_device).number
    → take i own ≡ take i (numbers_of ds) → take (i + 1) (set own i v) ≡ take (i + 1) (numbers_of ds)
number_more ds own i v h l e t =
    let ns = numbers_of ds in
    let g : v ≡ get_or ns i 0 = e ∙ sym (get_d-mapped (λ (d : Device). d.number) ds i no_device 0 h) in
    rw (add-one i) (take-suc-set own i v l ∙ rw (t, g) (sym (take-suc ns i 0 (omega (arith, length-map ds (λ (d : Device). d.number))))))

-- they are in range where the drives are
pub numbers-ranged : (ds : List Device) → every device_ranged ds ≡ true → every (λ (x : ℕ). leb x 1023) (numbers_of ds) ≡ true
numbers-ranged ds h =
    every_map (λ (x : ℕ). leb x 1023) (λ (d : Device). d.number) ds
    ∙ every-mono device_ranged (λ (d : Device). leb d.number 1023) ds (λ d e. le-leb d.number 1023 (device-ranged d e).number) h

-- ---- the states

-- the state of n drives from word a on
abbrev pub state_in : ℕ → List ℕ → ℕ → NamedState
state_in n ws a = record { name = get_or ws a 0; devices = drives_in n (drop (a + 1) ws) }

-- no state
abbrev pub no_state : NamedState
no_state = record { name = 0; devices = [] }

-- at which word state k of n drives each starts
abbrev pub slot_at : ℕ → ℕ → ℕ
slot_at n k = 2 + k * (1 + 3 * n)

state-drop : (n : ℕ) (ws : List ℕ) (b a : ℕ) → state_in n (drop b ws) a ≡ state_in n ws (b + a)
state-drop n ws b a = rw (get_or-drop b ws a 0, drop-drop (a + 1) b ws, add_assoc b a 1) refl

state-at : (n c : ℕ) (vs : List ℕ) (k : ℕ) → k < c → get_or (states_in n c vs) k no_state ≡ state_in n vs (k * state_size n)
unfolding states_in
state-at n zero vs k h = absurd (omega arith)
state-at n (suc c) vs zero h = let e : 0 ≡ 0 * state_size n = omega arith in ap (state_in n vs) e
state-at n (suc c) vs (suc k) h =
    let z = state_size n in
    let e : z + k * z ≡ suc k * z = omega arith in
    state-at n c (drop z vs) k (omega arith) ∙ state-drop n vs z (k * z) ∙ ap (state_in n vs) e

-- state k of c
pub state-from : (n c : ℕ) (ws : List ℕ) (k : ℕ) → k < c → get_or (states_in n c (drop 2 ws)) k no_state ≡ state_in n ws (slot_at n k)
state-from n c ws k h = state-at n c (drop 2 ws) k h ∙ state-drop n ws 2 (k * state_size n)

-- it and those behind it
state-cons : (n c : ℕ) (ws : List ℕ) (k : ℕ) → k < c
    → drop k (states_in n c (drop 2 ws)) ≡ state_in n ws (slot_at n k) ∷ drop (k + 1) (states_in n c (drop 2 ws))
state-cons n c ws k h =
    let ss = states_in n c (drop 2 ws) in
    drop-cons ss k no_state (omega (arith, states-count n c (drop 2 ws)))
    ∙ ap (λ (s : NamedState). s ∷ drop (suc k) ss) (state-from n c ws k h) ∙ ap (λ (i : ℕ). state_in n ws (slot_at n k) ∷ drop i ss) (sym (add-one k))

-- at most eight
pub few-states : (m : Map) (ws : List ℕ) → Stated m ws → get_or ws 0 0 ≤ 8
few-states m ws s = omega (arith, s.few, how-many ws)

-- so they are read by the map's number of drives
pub states-are : (m : Map) (ws : List ℕ) → Stated m ws → states_of ws ≡ states_in (length m.devices) (get_or ws 0 0) (drop 2 ws)
unfolding states_of states_in
states-are m ws s = go (get_or ws 0 0) (each-has m ws s)
  where
    go : (c : ℕ) → (0 < c → get_or ws 1 0 ≡ length m.devices) → states_in (get_or ws 1 0) c (drop 2 ws) ≡ states_in (length m.devices) c (drop 2 ws)
    go zero f = refl
    go (suc c) f = ap (λ (n : ℕ). states_in n (suc c) (drop 2 ws)) (f (omega arith))

-- ---- the place of a name

-- at which place a number stands first, and behind all where it is not there
unfoldable pub place_of : ℕ → List ℕ → ℕ
place_of x [] = 0
place_of x (y ∷ ys) = cond (eqb y x) 0 (suc (place_of x ys))

pub place-most : (x : ℕ) (ys : List ℕ) → place_of x ys ≤ length ys
unfolding place_of
place-most x [] = omega arith
place-most x (y ∷ ys) = go (eqb y x) (place-most x ys)
  where
    go : (b : Bool) → place_of x ys ≤ length ys → cond b 0 (suc (place_of x ys)) ≤ suc (length ys)
    go true h = omega arith
    go false h = omega arith

suc-ltb : (a b : ℕ) → ltb a b ≡ ltb (suc a) (suc b)
suc-ltb a b = go (ltb a b) refl
  where
    go : (t : Bool) → ltb a b ≡ t → t ≡ ltb (suc a) (suc b)
    go true e = sym (lt-ltb (suc a) (suc b) (omega (arith, ltb-true a b e)))
    go false e = sym (le-ltb (suc a) (suc b) (omega (arith, ltb-false a b e)))

-- it is there if that is a place
place-has : (x : ℕ) (ys : List ℕ) → has x ys ≡ ltb (place_of x ys) (length ys)
unfolding place_of has
place-has x [] = refl
place-has x (y ∷ ys) = go (eqb y x) (place-has x ys)
  where
    go : (b : Bool) → has x ys ≡ ltb (place_of x ys) (length ys) → (b || has x ys) ≡ ltb (cond b 0 (suc (place_of x ys))) (suc (length ys))
    go true h = sym (lt-ltb 0 (suc (length ys)) (omega arith))
    go false h = h ∙ suc-ltb (place_of x ys) (length ys)

module _ (x : ℕ) (ss : List NamedState) where
  abbrev at : ℕ
  at = place_of x (names_of ss)

  pub names-length : length (names_of ss) ≡ length ss
  names-length = length-map ss (λ (s : NamedState). s.name)

  -- a state has the name if that is a state's place
  pub named-place : named x ss ≡ ltb at (length ss)
  unfolding named
  named-place = place-has x (names_of ss) ∙ ap (ltb at) names-length

  -- there is room for it if that is one of eight
  pub room-place : length ss ≤ 8 → room_for_name x ss ≡ ltb at 8
  unfolding room_for_name
  room-place h = rw named-place (go (ltb at (length ss)) refl)
    where
      go : (b : Bool) → ltb at (length ss) ≡ b → (b || ltb (length ss) 8) ≡ ltb at 8
      go true e = sym (lt-ltb at 8 (omega (arith, ltb-true at (length ss) e)))
      go false e =
          let l : length ss ≡ at = omega (arith, ltb-false at (length ss) e, place-most x (names_of ss), names-length) in
          ap (λ (i : ℕ). ltb i 8) l

-- the drives of the state at that place
placed-devices : (x : ℕ) (ss : List NamedState) → place_of x (names_of ss) < length ss → devices_named x ss ≡ (get_or ss (place_of x (names_of ss)) no_state).devices
unfolding devices_named place_of
placed-devices x [] h = absurd (omega arith)
placed-devices x (s ∷ ss) h = go (eqb s.name x) h (placed-devices x ss)
  where
    k : ℕ
    k = place_of x (names_of ss)

    go : (b : Bool) → cond b 0 (suc k) < suc (length ss) → (k < length ss → devices_named x ss ≡ (get_or ss k no_state).devices)
        → cond b s.devices (devices_named x ss) ≡ (get_or (s ∷ ss) (cond b 0 (suc k)) no_state).devices
    go true l ih = refl
    go false l ih = ih (omega arith)

-- THE DRIVES OF A NAME: those behind the name at its place
pub devices-named : (ws : List ℕ) (x n k : ℕ) → n ≡ get_or ws 1 0 → k ≡ place_of x (names_of (states_of ws)) → k < get_or ws 0 0
    → devices_named x (states_of ws) ≡ drives_in n (drop (3 + k * (1 + 3 * n)) ws)
unfolding states_of
devices-named ws x n k e p h =
    let a : slot_at n k + 1 ≡ 3 + k * (1 + 3 * n) = omega arith in
    placed-devices x (states_of ws) (omega (arith, p, h, how-many ws))
    ∙ rw (← p, ← e) (ap (λ (s : NamedState). s.devices) (state-from n (get_or ws 0 0) ws k h)) ∙ ap (λ (i : ℕ). drives_in n (drop i ws)) a

-- a loop over c states that looks for a name: k so far
module _ (ws : List ℕ) (n c k x : ℕ) where
  abbrev ss : List NamedState
  ss = states_in n c (drop 2 ws)

  pub place-next : k < c → (get_or ws (slot_at n k) 0 ≡ x → ⊥) → k + 1 + place_of x (names_of (drop (k + 1) ss)) ≡ k + place_of x (names_of (drop k ss))
  unfolding place_of
  place-next h f = rw (state-cons n c ws k h, ne_eqb (get_or ws (slot_at n k) 0) x f) (omega arith)

  pub place_here : k < c → get_or ws (slot_at n k) 0 ≡ x → k ≡ k + place_of x (names_of (drop k ss))
  unfolding place_of
  place_here h e = rw (state-cons n c ws k h, eq-eqb (get_or ws (slot_at n k) 0) x e) (omega arith)

  pub place_end : c ≤ k → k ≡ k + place_of x (names_of (drop k ss))
  unfolding place_of
  place_end h = rw (drop_of_length-le ss {i = k} (omega (arith, states-count n c (drop 2 ws)))) (omega arith)

  -- the name stands behind state k, by where it is found from there on
  module _ (r : ℕ) (e : r ≡ k + 1 + place_of x (names_of (drop (k + 1) ss))) where
    abbrev later : List NamedState
    later = drop (k + 1) ss

    later-has : has x (names_of later) ≡ ltb (place_of x (names_of later)) (c - (k + 1))
    later-has =
        place-has x (names_of later)
        ∙ ap (ltb (place_of x (names_of later)))
        (length-map later (λ (s : NamedState). s.name) ∙ length-drop (k + 1) ss ∙ ap (λ (i : ℕ). i - (k + 1)) (states-count n c (drop 2 ws)))

    pub later-yes : r < c → has x (names_of later) ≡ true
    later-yes h = later-has ∙ lt-ltb (place_of x (names_of later)) (c - (k + 1)) (omega (arith, e))

    pub later-no : c ≤ r → has x (names_of later) ≡ false
    later-no h = later-has ∙ le-ltb (place_of x (names_of later)) (c - (k + 1)) (omega (arith, e))

-- ---- question 14

-- a state fits a map whose drives have these numbers
abbrev pub fits_by : List ℕ → NamedState → Bool
fits_by ns s = leb s.name 65535 && same ns (numbers_of s.devices) && every device_ranged s.devices

-- each does, and the names are all different
abbrev pub good_states : List ℕ → List NamedState → Bool
good_states ns ss = every (fits_by ns) ss && distinct (names_of ss)

-- a state at word a: its name, and its drives
module _ (ns ws : List ℕ) (n a : ℕ) where
  pub name-stop : 65535 < get_or ws a 0 → fits_by ns (state_in n ws a) ≡ false
  name-stop h = rw (lt-leb (get_or ws a 0) 65535 h) refl

  pub name-fits : get_or ws a 0 ≤ 65535 → drives_fit ns (drives_in n (drop (a + 1) ws)) ≡ fits_by ns (state_in n ws a)
  name-fits h = rw (le-leb (get_or ws a 0) 65535 h) refl

-- a loop over c states: k so far
module _ (ns ws : List ℕ) (n c k : ℕ) where
  abbrev states : List NamedState
  states = states_in n c (drop 2 ws)

  abbrev good_left : Bool
  good_left = good_states ns (drop k states)

  pub good-end : c ≤ k → good_left ≡ true
  unfolding every distinct
  good-end h = rw (drop_of_length-le states {i = k} (omega (arith, states-count n c (drop 2 ws)))) refl

  module _ (h : k < c) where
    good-cons : good_left
        ≡ (fits_by ns (state_in n ws (slot_at n k)) && every (fits_by ns) (drop (k + 1) states)
        && (not (has (get_or ws (slot_at n k) 0) (names_of (drop (k + 1) states))) && distinct (names_of (drop (k + 1) states))))
    unfolding every distinct
    good-cons = rw (state-cons n c ws k h) refl

    pub state-stop : fits_by ns (state_in n ws (slot_at n k)) ≡ false → good_left ≡ false
    state-stop p = good-cons ∙ rw p refl

    pub again-stop : has (get_or ws (slot_at n k) 0) (names_of (drop (k + 1) states)) ≡ true → good_left ≡ false
    again-stop q = good-cons ∙ rw q (and-false (fits_by ns (state_in n ws (slot_at n k)) && every (fits_by ns) (drop (k + 1) states)))

    pub good-next : fits_by ns (state_in n ws (slot_at n k)) ≡ true → has (get_or ws (slot_at n k) 0) (names_of (drop (k + 1) states)) ≡ false
        → good_states ns (drop (k + 1) states) ≡ good_left
    good-next p q = sym (good-cons ∙ rw (p, q) refl)

-- the question, by its parts
module _ (m : Map) (ws : List ℕ) where
  pub stated-many : 8 < get_or ws 0 0 → stated m ws ≡ false
  unfolding stated
  stated-many h = rw (lt-leb (get_or ws 0 0) 8 h) refl

  pub stated-none : get_or ws 0 0 ≡ 0 → stated m ws ≡ true
  unfolding stated count_fits states_of states_in every distinct
  stated-none e = rw e refl

  -- states of another number of drives are not of this map
  pub stated-other : 0 < get_or ws 0 0 → (get_or ws 1 0 ≡ length m.devices → ⊥) → stated m ws ≡ false
  unfolding stated count_fits
  stated-other h f =
      rw (ne_eqb (get_or ws 0 0) 0 (λ e. omega (arith, e)), ne_eqb (get_or ws 1 0) (length m.devices) f, and-false (leb (get_or ws 0 0) 8)) refl

  pub stated-good : (n : ℕ) → 0 < get_or ws 0 0 → get_or ws 0 0 ≤ 8 → get_or ws 1 0 ≡ n → n ≡ length m.devices
      → good_states (numbers_of m.devices) (states_in n (get_or ws 0 0) (drop 2 ws)) ≡ stated m ws
  unfolding stated count_fits state_fits states_of
  stated-good n z h e k =
      sym (rw (le-leb (get_or ws 0 0) 8 h, ne_eqb (get_or ws 0 0) 0 (λ y. omega (arith, y, z)), eq-eqb (get_or ws 1 0) (length m.devices) (e ∙ k), e) refl)
