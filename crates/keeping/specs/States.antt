-- Document 02, change 8: what holds of named states, of the words that they are lent in, and of the one that a return goes to. Assumes nothing.
use Rattle.std.specs.Prelude.{◌≡◌, Bool, ◌&&◌, ◌||◌, ℕ, zero, suc, ◌+◌, ◌*◌, ◌<◌, ◌≤◌, leb, get_or, drop}
use Rattle.std.proofs.Math.Path.{refl, sym, ap, subst}
use Rattle.std.proofs.Common.{ap₂, ◌∙◌, arith, mul-le-mul_right, get_or-drop}
use Rattle.std.proofs.Math.Bool.{true, false, cond}
use Rattle.std.proofs.lemmas.Bool.{false≢true}
use mathlib.Core.List.{List, [], ◌∷◌, ◌++◌, map, append_assoc}
use Rattle.std.proofs.Math.Dec.{ltb, eqb}
use Rattle.std.proofs.Math.ListN.{length}
use Rattle.std.proofs.lemmas.List.{length-map}
use Rattle.std.proofs.Math.Seq.{drop_at}
use borrow.Author.Tests.{leb-true, ltb-true, eqb-true, eqb-false, le-leb, eq-eqb, ne_eqb}
use Rattle.definitions.specs.declared.Device.{Device}
use Rattle.definitions.specs.Lists.{every, joined, has, distinct, same, over}
use Rattle.definitions.specs.Map.{Map}
use Rattle.definitions.specs.Load.{device_ranged}
use Rattle.definitions.specs.States.{NamedState, drive_words, state_words, drives_each, words_of, drives_in, state_size, states_in, states_of, numbers_of, state_fits, count_fits, names_of, stated, named, room_for_name, store_in, state_now, stored, devices_named, put_state}
use Rattle.laws.specs.Lists.{both, and_both, every-head, every-tail, same-is, is_same}
use Rattle.laws.specs.Counting.{distinct_head, distinct_tail}
use Rattle.laws.specs.Loadable.{Loadable, numbers, ranged-is, bounds}
use Rattle.keeping.specs.Returned.{state-loadable}

-- ---- states in words, and out of them again

pub drives-count : (n : ℕ) (ws : List ℕ) → length (drives_in n ws) ≡ n
unfolding drives_in
drives-count zero ws = refl
drives-count (suc n) ws = rw (drives-count n (drop 3 ws))

pub drive-words-length : (ds : List Device) → length (drive_words ds) ≡ 3 * length ds
unfolding drive_words
drive-words-length [] = refl
drive-words-length (d ∷ ds) = omega (arith, drive-words-length ds)

-- the drive whose words begin at word w
abbrev pub drive_at : List ℕ → ℕ → Device
drive_at ws w = record { number = get_or ws w 0; weight = get_or ws (w + 1) 0; acceptance = get_or ws (w + 2) 0 }

drive-behind : (ws : List ℕ) (a w : ℕ) → drive_at (drop a ws) w ≡ drive_at ws (a + w)
drive-behind ws a w =
    let p : a + (w + 1) ≡ a + w + 1 = omega arith in
    let q : a + (w + 2) ≡ a + w + 2 = omega arith in
    rw (get_or-drop a ws w 0, get_or-drop a ws (w + 1) 0, get_or-drop a ws (w + 2) 0, p, q)

drive-front : (n : ℕ) (ws : List ℕ) (k : ℕ) (d : Device) → k < n → get_or (drives_in n ws) k d ≡ drive_at ws (3 * k)
unfolding drives_in
drive-front zero ws k d h = absurd (omega arith)
drive-front (suc n) ws zero d h = refl
drive-front (suc n) ws (suc k) d h =
    let e : 3 + 3 * k ≡ 3 * suc k = omega arith in
    drive-front n (drop 3 ws) k d (omega arith) ∙ drive-behind ws 3 (3 * k) ∙ ap (drive_at ws) e

-- drive k of those from word a on
pub drive-at : (n : ℕ) (ws : List ℕ) (a k : ℕ) (d : Device) → k < n → get_or (drives_in n (drop a ws)) k d ≡ drive_at ws (a + 3 * k)
drive-at n ws a k d h = drive-front n (drop a ws) k d h ∙ drive-behind ws a (3 * k)

-- the words of drives spell these drives
pub drives-again : (ds : List Device) (ws : List ℕ) → drives_in (length ds) (drive_words ds ++ ws) ≡ ds
unfolding drives_in drive_words
drives-again [] ws = refl
drives-again (d ∷ ds) ws = rw (drives-again ds ws)

pub states-count : (n k : ℕ) (ws : List ℕ) → length (states_in n k ws) ≡ k
unfolding states_in
states-count n zero ws = refl
states-count n (suc k) ws = rw (states-count n k (drop (state_size n) ws))

-- each of these states has n drives
abbrev pub Sized : ℕ → List NamedState → Type 0
Sized n [] = Unit {0}
Sized n (s ∷ ss) = (length s.devices ≡ n) × Sized n ss

-- the words of a state, with others behind them
module _ (n : ℕ) (s : NamedState) (rest : List ℕ) (e : length s.devices ≡ n) where
  words-front : record { name = get_or (state_words s ++ rest) 0 0; devices = drives_in n (drop 1 (state_words s ++ rest)) } ≡ s
  unfolding state_words
  words-front = rw (← e, drives-again s.devices rest)

  words-behind : drop (state_size n) (state_words s ++ rest) ≡ rest
  unfolding state_words
  words-behind = drop_at (state_words s) rest (state_size n) (omega (arith, drive-words-length s.devices, e))

-- the words of states spell these states
states-again : (n : ℕ) (ss : List NamedState) (ws : List ℕ) → Sized n ss → states_in n (length ss) (joined (map state_words ss) ++ ws) ≡ ss
unfolding states_in joined
states-again n [] ws o = refl
states-again n (s ∷ ss) ws o =
    let rest = joined (map state_words ss) ++ ws in
    rw (append_assoc (state_words s) (joined (map state_words ss)) ws)
    (ap₂ (λ (a : NamedState) (b : List NamedState). a ∷ b) (words-front n s rest o.0)
    (rw (words-behind n s rest o.0) (states-again n ss ws o.1)))

-- so do they over any others
pub written-states : (n : ℕ) (ss : List NamedState) (ws : List ℕ) → Sized n ss → states_of (over (words_of ss) ws) ≡ ss
unfolding states_of words_of drives_each states_in
written-states n [] ws o = refl
written-states n (s ∷ ss) ws o =
    let rest = drop (length (words_of (s ∷ ss))) ws in
    subst (λ (k : ℕ). states_in k (length (s ∷ ss)) (joined (map state_words (s ∷ ss)) ++ rest) ≡ s ∷ ss) (sym o.0) (states-again n (s ∷ ss) rest o)

-- ---- a state stored

or-again : (a b : Bool) → (a || b) ≡ (a || (a || b))
or-again true b = refl
or-again false b = refl

or_swap : (a b c : Bool) → (a || (b || c)) ≡ (b || (a || c))
or_swap true true c = refl
or_swap true false c = refl
or_swap false true c = refl
or_swap false false c = refl

cond-again : {A : Type 0} (b : Bool) (x y z : A) → cond b x z ≡ cond b x (cond b y z)
cond-again true x y z = refl
cond-again false x y z = refl

cond-swap : {A : Type 0} (a b : Bool) (x y z : A) → (a ≡ true → b ≡ true → ⊥) → cond a x (cond b y z) ≡ cond b y (cond a x z)
cond-swap true true x y z h = absurd (h refl refl)
cond-swap true false x y z h = refl
cond-swap false true x y z h = refl
cond-swap false false x y z h = refl

module _ (t : NamedState) where
  -- a name is there if it was, and its own
  pub store-named : (n : ℕ) (ss : List NamedState) → named n (store_in t ss) ≡ (eqb t.name n || named n ss)
  unfolding named has store_in
  store-named n [] = refl
  store-named n (s ∷ ss) = go (eqb s.name t.name) refl (store-named n ss)
    where
      go : (b : Bool) → eqb s.name t.name ≡ b → named n (store_in t ss) ≡ (eqb t.name n || named n ss)
          → named n (cond b (t ∷ ss) (s ∷ store_in t ss)) ≡ (eqb t.name n || (eqb s.name n || named n ss))
      go true e ih = rw (eqb-true s.name t.name e) (or-again (eqb t.name n) (named n ss))
      go false e ih = ap (λ (b : Bool). eqb s.name n || b) ih ∙ or_swap (eqb s.name n) (eqb t.name n) (named n ss)

  -- the state of its name is that one, and of another what it was
  pub store-devices : (n : ℕ) (ss : List NamedState) → devices_named n (store_in t ss) ≡ cond (eqb t.name n) t.devices (devices_named n ss)
  unfolding devices_named store_in
  store-devices n [] = refl
  store-devices n (s ∷ ss) = go (eqb s.name t.name) refl (store-devices n ss)
    where
      go : (b : Bool) → eqb s.name t.name ≡ b → devices_named n (store_in t ss) ≡ cond (eqb t.name n) t.devices (devices_named n ss)
          → devices_named n (cond b (t ∷ ss) (s ∷ store_in t ss)) ≡ cond (eqb t.name n) t.devices (cond (eqb s.name n) s.devices (devices_named n ss))
      go true e ih = rw (eqb-true s.name t.name e) (cond-again (eqb t.name n) t.devices s.devices (devices_named n ss))
      go false e ih =
          ap (cond (eqb s.name n) s.devices) ih
          ∙ cond-swap (eqb s.name n) (eqb t.name n) s.devices t.devices (devices_named n ss)
          (λ p q. eqb-false s.name t.name e (eqb-true s.name n p ∙ sym (eqb-true t.name n q)))

  pub store-count : (ss : List NamedState) → length (store_in t ss) ≡ cond (named t.name ss) (length ss) (suc (length ss))
  unfolding store_in named has
  store-count [] = refl
  store-count (s ∷ ss) = go (eqb s.name t.name) (named t.name ss) (store-count ss)
    where
      go : (b c : Bool) → length (store_in t ss) ≡ cond c (length ss) (suc (length ss))
          → length (cond b (t ∷ ss) (s ∷ store_in t ss)) ≡ cond (b || c) (suc (length ss)) (suc (suc (length ss)))
      go true c ih = refl
      go false true ih = rw ih
      go false false ih = rw ih

  store-fits : (m : Map) (ss : List NamedState) → state_fits m t ≡ true → every (state_fits m) ss ≡ true → every (state_fits m) (store_in t ss) ≡ true
  unfolding store_in every
  store-fits m [] r e = and_both r refl
  store-fits m (s ∷ ss) r e = go (eqb s.name t.name) (store-fits m ss r (every-tail (state_fits m) s ss e))
    where
      go : (b : Bool) → every (state_fits m) (store_in t ss) ≡ true → every (state_fits m) (cond b (t ∷ ss) (s ∷ store_in t ss)) ≡ true
      go true ih = and_both r (every-tail (state_fits m) s ss e)
      go false ih = and_both (every-head (state_fits m) s ss e) ih

  store-distinct : (ss : List NamedState) → distinct (names_of ss) ≡ true → distinct (names_of (store_in t ss)) ≡ true
  unfolding store_in distinct named has
  store-distinct [] d = refl
  store-distinct (s ∷ ss) d = go (eqb s.name t.name) refl (store-distinct ss (distinct_tail s.name (names_of ss) d))
    where
      go : (b : Bool) → eqb s.name t.name ≡ b → distinct (names_of (store_in t ss)) ≡ true → distinct (names_of (cond b (t ∷ ss) (s ∷ store_in t ss))) ≡ true
      go true e ih = rw (← eqb-true s.name t.name e) d
      go false e ih =
          let h : has s.name (names_of (store_in t ss)) ≡ false =
          store-named s.name ss ∙ rw (ne_eqb t.name s.name (λ p. eqb-false s.name t.name e (sym p))) (distinct_head s.name (names_of ss) d) in
          rw h ih

-- ---- question 14 of states

-- a state that fits the map: its name has 16 bits, its drives are the map's, by their numbers, and their values are such as load takes
pub record Fits (m : Map) (s : NamedState) : Type 0 where
  pub small : s.name ≤ 65535
  pub drives : numbers m ≡ numbers_of s.devices
  pub values : every device_ranged s.devices ≡ true

pub fits-is : (m : Map) (s : NamedState) → state_fits m s ≡ true → Fits m s
unfolding state_fits
fits-is m s e =
    let a = leb s.name 65535 in
    let b = same (numbers m) (numbers_of s.devices) in
    let (p, q) = both (a && b) (every device_ranged s.devices) e in
    let (u, v) = both a b p in
    record { small = leb-true s.name 65535 u; drives = same-is _ _ v; values = q }

pub is-fits : (m : Map) (s : NamedState) → Fits m s → state_fits m s ≡ true
unfolding state_fits
is-fits m s f = and_both (and_both (le-leb s.name 65535 f.small) (is_same _ _ f.drives)) f.values

-- it has as many drives as the map
pub fits_count : (m : Map) (s : NamedState) → Fits m s → length s.devices ≡ length m.devices
fits_count m s f =
    sym (length-map s.devices (λ (d : Device). d.number)) ∙ sym (ap length f.drives) ∙ length-map m.devices (λ (d : Device). d.number)

pub fit-sized : (m : Map) (ss : List NamedState) → every (state_fits m) ss ≡ true → Sized (length m.devices) ss
fit-sized m [] e = tt
fit-sized m (s ∷ ss) e =
    (fits_count m s (fits-is m s (every-head (state_fits m) s ss e)), fit-sized m ss (every-tail (state_fits m) s ss e))

-- what it says of them
pub record Stated (m : Map) (ws : List ℕ) : Type 0 where
  pub few : length (states_of ws) ≤ 8
  pub each : every (state_fits m) (states_of ws) ≡ true
  pub names : distinct (names_of (states_of ws)) ≡ true

-- the first word tells how many there are
pub how-many : (ws : List ℕ) → length (states_of ws) ≡ get_or ws 0 0
unfolding states_of
how-many ws = states-count (get_or ws 1 0) (get_or ws 0 0) (drop 2 ws)

-- and so taken apart
pub stated-is : (m : Map) (ws : List ℕ) → stated m ws ≡ true → Stated m ws
unfolding stated
stated-is m ws e =
    let ss = states_of ws in
    let a = leb (get_or ws 0 0) 8 in
    let q2 = both (a && count_fits m ws && every (state_fits m) ss) (distinct (names_of ss)) e in
    let q1 = both (a && count_fits m ws) (every (state_fits m) ss) q2.0 in
    let q0 = both a (count_fits m ws) q1.0 in
    record {
      few = omega (arith, leb-true (get_or ws 0 0) 8 q0.0, how-many ws);
      each = q1.1;
      names = q2.1;
    }

-- the second word, where there are any that fit the map
pub each-has : (m : Map) (ws : List ℕ) → Stated m ws → 0 < get_or ws 0 0 → get_or ws 1 0 ≡ length m.devices
unfolding states_of states_in
each-has m ws s h = go (get_or ws 0 0) h (fit-sized m (states_of ws) s.each)
  where
    go : (c : ℕ) → 0 < c → Sized (length m.devices) (states_in (get_or ws 1 0) c (drop 2 ws)) → get_or ws 1 0 ≡ length m.devices
    go zero h o = absurd (omega arith)
    go (suc c) h o = sym (drives-count (get_or ws 1 0) _) ∙ o.0

count_fits_lem : (m : Map) (ws : List ℕ) → Stated m ws → count_fits m ws ≡ true
unfolding count_fits
count_fits_lem m ws s = go (get_or ws 0 0) (each-has m ws s)
  where
    go : (c : ℕ) → (0 < c → get_or ws 1 0 ≡ length m.devices) → eqb c 0 || eqb (get_or ws 1 0) (length m.devices) ≡ true
    go zero f = refl
    go (suc c) f = rw (ne_eqb (suc c) 0 (λ e. omega (arith, e)), eq-eqb (get_or ws 1 0) (length m.devices) (f (omega arith))) refl

-- and put together
pub is-stated : (m : Map) (ws : List ℕ) → Stated m ws → stated m ws ≡ true
unfolding stated
is-stated m ws s = rw (le-leb (get_or ws 0 0) 8 (omega (arith, s.few, how-many ws)), count_fits_lem m ws s, s.each, s.names)

-- all that it answers yes of lies within the words that are lent: no default is read behind them
pub stated-inside : (m : Map) (ws : List ℕ) → Loadable m → length ws ≡ 24586 → Stated m ws → 2 + length (states_of ws) * state_size (length m.devices) ≤ length ws
stated-inside m ws l w s =
    let k : length m.devices ≤ 1024 = (bounds m l).devices in
    let a : length (states_of ws) * state_size (length m.devices) ≤ 8 * state_size (length m.devices) = mul-le-mul_right (state_size (length m.devices)) s.few in
    omega (arith, w, k, a)

-- it goes by the numbers of the map's drives alone
pub kept-stated : (m n : Map) (ws : List ℕ) → numbers m ≡ numbers n → Stated m ws → Stated n ws
unfolding every
kept-stated m n ws e s =
    record {
      few = s.few;
      each = go (states_of ws) s.each;
      names = s.names;
    }
  where
    go : (ss : List NamedState) → every (state_fits m) ss ≡ true → every (state_fits n) ss ≡ true
    go [] h = refl
    go (t ∷ ts) h =
        let f = fits-is m t (every-head (state_fits m) t ts h) in
        and_both (is-fits n t (record { small = f.small; drives = sym e ∙ f.drives; values = f.values })) (go ts (every-tail (state_fits m) t ts h))

-- no state is none to ask about
pub emptied : (ws : List ℕ) → states_of (over (words_of []) ws) ≡ []
emptied ws = written-states 0 [] ws tt

pub emptied-stated : (m : Map) (ws : List ℕ) → Stated m (over (words_of []) ws)
unfolding every distinct
emptied-stated m ws = record { few = rw (emptied ws) (omega arith); each = rw (emptied ws); names = rw (emptied ws) }

-- what a store leaves, of a map that load takes, where question 14 is answered yes
module _ (m : Map) (ws : List ℕ) (n : ℕ) (l : Loadable m) (h : n ≤ 65535) (s : Stated m ws) where
  abbrev ss : List NamedState
  ss = states_of ws

  each_fits : every (state_fits m) (store_in (state_now m n) ss) ≡ true
  each_fits =
      store-fits (state_now m n) m ss (is-fits m (state_now m n) (record { small = h; drives = refl; values = (ranged-is m l.ranged).devices })) s.each

  -- the states with the map's drives under the name
  pub stored-states : states_of (stored m n ws) ≡ store_in (state_now m n) ss
  unfolding stored
  stored-states = written-states (length m.devices) (store_in (state_now m n) ss) ws (fit-sized m _ each_fits)

  -- not a ninth name: question 14 is answered yes again
  pub stored-stated : room_for_name n ss ≡ true → Stated m (stored m n ws)
  unfolding room_for_name
  stored-stated r =
      record {
        few = rw stored-states (count (named n ss) refl r);
        each = rw stored-states each_fits;
        names = rw stored-states (store-distinct (state_now m n) ss s.names);
      }
    where
      count : (b : Bool) → named n ss ≡ b → (b || ltb (length ss) 8) ≡ true → length (store_in (state_now m n) ss) ≤ 8
      count true e q = rw (store-count (state_now m n) ss, e) s.few
      count false e q = rw (store-count (state_now m n) ss, e) (ltb-true (length ss) 8 q)

-- ---- the state of a name

-- one of those that are there
pub named-fits : (m : Map) (n : ℕ) (ss : List NamedState) → every (state_fits m) ss ≡ true → named n ss ≡ true
    → (numbers_of (devices_named n ss) ≡ numbers m) × (every device_ranged (devices_named n ss) ≡ true)
unfolding named has devices_named
named-fits m n [] e h = absurd (false≢true h)
named-fits m n (s ∷ ss) e h = go (eqb s.name n) h (named-fits m n ss (every-tail (state_fits m) s ss e))
  where
    go : (b : Bool) → b || named n ss ≡ true
        → (named n ss ≡ true → (numbers_of (devices_named n ss) ≡ numbers m) × (every device_ranged (devices_named n ss) ≡ true))
        → (numbers_of (cond b s.devices (devices_named n ss)) ≡ numbers m) × (every device_ranged (cond b s.devices (devices_named n ss)) ≡ true)
    go true q ih = let f = fits-is m s (every-head (state_fits m) s ss e) in (sym f.drives, f.values)
    go false q ih = ih q

-- A RETURN: the map with the drives of a state that is there is one that load takes
module _ (m : Map) (ws : List ℕ) (n : ℕ) (h : named n (states_of ws) ≡ true) (s : Stated m ws) where
  pub return-numbers : numbers_of (devices_named n (states_of ws)) ≡ numbers m
  return-numbers = (named-fits m n (states_of ws) s.each h).0

  pub return-loadable : Loadable m → Loadable (put_state m (devices_named n (states_of ws)))
  return-loadable l = state-loadable m (devices_named n (states_of ws)) return-numbers l (named-fits m n (states_of ws) s.each h).1
