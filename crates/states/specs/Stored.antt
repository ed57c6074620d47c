-- The words after a store: the state in its place, and all else as it was. Assumes nothing.
use Rattle.std.specs.Prelude.{◌≡◌, Bool, true, false, cond, ltb, eqb, length, get_or, take, drop, set}
use Rattle.std.proofs.Math.Path.{refl, ap₂}
use Rattle.std.proofs.Common.{sym, ap, ◌∙◌, subst, add-one, mul-le-mul_right, zero-add, length-append, length-drop, take-append-drop, drop-drop, take-add, length-take-le, take-suc-set, drop-set-lt, lt-ltb, le-ltb}
use mathlib.Core.List.{List, [], ◌∷◌, ◌++◌, map, append_assoc, append-nil}
use Prim.Native.Nat.{ℕ, zero, suc, ◌+◌, ◌*◌, ◌<◌, ◌≤◌}
use native.Mathlib.Omega.{arith}
use Rattle.std.proofs.Math.Seq.{paste, paste-suc, take-length}
use Rattle.definitions.specs.declared.Device.{Device}
use Rattle.definitions.specs.Lists.{joined, over}
use Rattle.definitions.specs.Map.{Map}
use Rattle.definitions.specs.States.{NamedState, drive_words, state_words, drives_each, words_of, drives_in, state_size, states_in, states_of, names_of, store_in, state_now, stored}
use Rattle.keeping.specs.States.{drive-words-length, drive_at, drive-at, drives-again, how-many, store-count, Sized, fit-sized, Stated}
use Rattle.text.specs.Records.{no_device}
use Rattle.states.specs.Words.{state_in, slot_at, place_of, place-most, names-length, named-place, states-are}

-- ---- words that are read spell the same words again

drives-spelled : (n : ℕ) (ws : List ℕ) → 3 * n ≤ length ws → drive_words (drives_in n ws) ≡ take (3 * n) ws
unfolding drive_words drives_in
drives-spelled zero ws h = refl
drives-spelled (suc n) [] h = absurd (omega arith)
drives-spelled (suc n) (x ∷ []) h = absurd (omega arith)
drives-spelled (suc n) (x ∷ y ∷ []) h = absurd (omega arith)
drives-spelled (suc n) (x ∷ y ∷ z ∷ ws) h =
    let e : 3 * suc n ≡ suc (suc (suc (3 * n))) = omega arith in
    rw e (ap (λ (l : List ℕ). x ∷ y ∷ z ∷ l) (drives-spelled n ws (omega arith)))

state-spelled : (n : ℕ) (ws : List ℕ) → state_size n ≤ length ws → state_words (state_in n ws 0) ≡ take (state_size n) ws
unfolding state_words
state-spelled n [] h = absurd (omega arith)
state-spelled n (x ∷ ws) h =
    let e : state_size n ≡ suc (3 * n) = omega arith in
    rw e (ap (λ (l : List ℕ). x ∷ l) (drives-spelled n ws (omega arith)))

states-spelled : (n c : ℕ) (ws : List ℕ) → c * state_size n ≤ length ws → joined (map state_words (states_in n c ws)) ≡ take (c * state_size n) ws
unfolding states_in joined
states-spelled n zero ws h = let e : 0 * state_size n ≡ 0 = omega arith in rw e refl
states-spelled n (suc c) ws h =
    let z = state_size n in
    let e : suc c * z ≡ z + c * z = omega arith in
    ap₂ (λ (a b : List ℕ). a ++ b) (state-spelled n ws (omega arith)) (states-spelled n c (drop z ws) (omega (arith, length-drop z ws)))
    ∙ sym (take-add z (c * z) ws) ∙ ap (λ (i : ℕ). take i ws) (sym e)

-- ---- the states after a store, over the words before it

-- a front and what follows it
over-front : (p q ws : List ℕ) (n : ℕ) → length p ≡ n → over (p ++ q) ws ≡ p ++ over q (drop n ws)
over-front p q ws n e =
    append_assoc p q (drop (length (p ++ q)) ws)
    ∙ ap (λ (l : List ℕ). p ++ (q ++ l)) (ap (λ (i : ℕ). drop i ws) (length-append p q ∙ ap (λ (i : ℕ). i + length q) e) ∙ sym (drop-drop (length q) n ws))

module _ (n : ℕ) (t : NamedState) (size : length (state_words t) ≡ state_size n) where
  abbrev z : ℕ
  z = state_size n

  abbrev placed : ℕ → List ℕ → ℕ
  placed c vs = place_of t.name (names_of (states_in n c vs))

  -- written over what was there, the state stands at its place, and all else as it was
  store-over : (c : ℕ) (vs : List ℕ) → c * z ≤ length vs → (placed c vs + 1) * z ≤ length vs
      → over (joined (map state_words (store_in t (states_in n c vs)))) vs ≡ take (placed c vs * z) vs ++ (state_words t ++ drop (placed c vs * z + z) vs)
  unfolding states_in store_in place_of joined
  store-over zero vs h l =
      let e : 0 * z ≡ 0 = omega arith in
      let f : 0 * z + z ≡ z = omega arith in
      over-front (state_words t) [] vs z size ∙ rw (f, e) refl
  store-over (suc c) vs h l = go (eqb (get_or vs 0 0) t.name) l (store-over c (drop z vs))
    where
      s : NamedState
      s = state_in n vs 0

      ss : List NamedState
      ss = states_in n c (drop z vs)

      k : ℕ
      k = placed c (drop z vs)

      go : (b : Bool) → (cond b 0 (suc k) + 1) * z ≤ length vs
          → (c * z ≤ length (drop z vs) → (k + 1) * z ≤ length (drop z vs)
          → over (joined (map state_words (store_in t ss))) (drop z vs) ≡ take (k * z) (drop z vs) ++ (state_words t ++ drop (k * z + z) (drop z vs)))
          → over (joined (map state_words (cond b (t ∷ ss) (s ∷ store_in t ss)))) vs ≡ take (cond b 0 (suc k) * z) vs ++ (state_words t ++ drop (cond b 0 (suc k) * z + z) vs)
      go true r ih =
          let e : 0 * z ≡ 0 = omega arith in
          let f : 0 * z + z ≡ z = omega arith in
          let a = states-spelled n c (drop z vs) (omega (arith, length-drop z vs, h)) in
          let b : over (joined (map state_words ss)) (drop z vs) ≡ drop z vs =
          ap (λ (q : List ℕ). q ++ drop (length q) (drop z vs)) a
          ∙ ap (λ (i : ℕ). take (c * z) (drop z vs) ++ drop i (drop z vs)) (length-take-le (c * z) (drop z vs) (omega (arith, length-drop z vs, h)))
          ∙ take-append-drop (c * z) (drop z vs) in
          over-front (state_words t) (joined (map state_words ss)) vs z size ∙ rw (b, f, e) refl
      go false r ih =
          let e : suc k * z ≡ z + k * z = omega arith in
          let f : suc k * z + z ≡ z + (k * z + z) = omega arith in
          let w = state-spelled n vs (omega (arith, h)) in
          let len : length (state_words s) ≡ z = ap length w ∙ length-take-le z vs (omega (arith, h)) in
          over-front (state_words s) (joined (map state_words (store_in t ss))) vs z len
          ∙ ap₂ (λ (a b : List ℕ). a ++ b) w (ih (omega (arith, length-drop z vs, h)) (omega (arith, length-drop z vs, r)))
          ∙ sym (append_assoc (take z vs) (take (k * z) (drop z vs)) (state_words t ++ drop (k * z + z) (drop z vs)))
          ∙ ap₂ (λ (a b : List ℕ). a ++ (state_words t ++ b)) (sym (take-add z (k * z) vs) ∙ ap (λ (i : ℕ). take i vs) (sym e))
          (drop-drop (k * z + z) z vs ∙ ap (λ (i : ℕ). drop i vs) (sym f))

-- each has as many drives as before, where the one that is stored has
store-each : (n : ℕ) (t : NamedState) (ss : List NamedState) → length t.devices ≡ n → Sized n ss → drives_each (store_in t ss) ≡ n
unfolding drives_each store_in
store-each n t [] e o = e
store-each n t (s ∷ ss) e o = go (eqb s.name t.name)
  where
    go : (b : Bool) → drives_each (cond b (t ∷ ss) (s ∷ store_in t ss)) ≡ n
    go true = e
    go false = o.0

-- THE WORDS AFTER A STORE: the state in its place, the number of its drives, and where the name is a new one, one state more
module _ (m : Map) (x : ℕ) where
  abbrev n : ℕ
  n = length m.devices

  abbrev t : NamedState
  t = state_now m x

  now-size : length (state_words t) ≡ state_size n
  unfolding state_words
  now-size = omega (arith, drive-words-length m.devices)

  -- words behind the first two, of c states
  abbrev slot : ℕ → List ℕ → ℕ
  slot c vs = place_of x (names_of (states_in n c vs))

  behind-two : (c : ℕ) (vs : List ℕ) → c * state_size n ≤ length vs → (slot c vs + 1) * state_size n ≤ length vs
      → over (joined (map state_words (store_in t (states_in n c vs)))) vs ≡ paste vs (slot c vs * state_size n) (state_words t) (state_size n)
  behind-two c vs h l =
      let z = state_size n in
      let w : state_words t ≡ take z (state_words t) = sym (take-length (state_words t)) ∙ ap (λ (i : ℕ). take i (state_words t)) now-size in
      store-over n t now-size c vs h l
      ∙ ap (λ (q : List ℕ). take (slot c vs * z) vs ++ (q ++ drop (slot c vs * z + z) vs)) w
      ∙ sym (append_assoc (take (slot c vs * z) vs) (take z (state_words t)) (drop (slot c vs * z + z) vs))

  module _ (c e k : ℕ) (vs : List ℕ) (long : length (c ∷ e ∷ vs) ≡ 24586) (few : n ≤ 1024) (s : Stated m (c ∷ e ∷ vs))
      (place : k ≡ place_of x (names_of (states_of (c ∷ e ∷ vs)))) (room : k < 8) where
    abbrev ss : List NamedState
    ss = states_of (c ∷ e ∷ vs)

    are : ss ≡ states_in n c vs
    are = states-are m (c ∷ e ∷ vs) s

    count : length (store_in t ss) ≡ cond (ltb k c) c (suc c)
    count = store-count t ss ∙ rw (named-place x ss, ← place, how-many (c ∷ e ∷ vs)) refl

    states-over : over (joined (map state_words (store_in t ss))) vs ≡ paste vs (k * state_size n) (state_words t) (state_size n)
    states-over =
        let z = state_size n in
        let at : k ≡ slot c vs = place ∙ ap (λ (l : List NamedState). place_of x (names_of l)) are in
        let p : c * z ≤ 8 * z = mul-le-mul_right z (omega (arith, s.few, how-many (c ∷ e ∷ vs))) in
        let q : (k + 1) * z ≤ 8 * z = mul-le-mul_right z (omega arith) in
        ap (λ (l : List NamedState). over (joined (map state_words (store_in t l))) vs) are
        ∙ behind-two c vs (omega arith) (subst (λ (i : ℕ). (i + 1) * z ≤ length vs) at (omega arith))
        ∙ ap (λ (i : ℕ). paste vs (i * z) (state_words t) z) (sym at)

    stored-cons : stored m x (c ∷ e ∷ vs) ≡ cond (ltb k c) c (suc c) ∷ n ∷ paste vs (k * state_size n) (state_words t) (state_size n)
    unfolding stored words_of
    stored-cons =
        ap₂ (λ (i : ℕ) (l : List ℕ). i ∷ l) count
        (ap₂ (λ (i : ℕ) (l : List ℕ). i ∷ l) (store-each n t ss refl (fit-sized m ss s.each)) states-over)

    -- as the code writes it
    written-cons : paste (c ∷ e ∷ vs) (slot_at n k) (x ∷ drive_words m.devices) (1 + 3 * n)
        ≡ c ∷ e ∷ paste vs (k * state_size n) (state_words t) (state_size n)
    unfolding state_words
    written-cons =
        let a : slot_at n k + (1 + 3 * n) ≡ suc (suc (k * state_size n + state_size n)) = omega arith in
        let b : slot_at n k ≡ suc (suc (k * state_size n)) = omega arith in
        rw (a, b) refl

  abbrev written : ℕ → List ℕ → List ℕ
  written k ws = paste ws (slot_at n k) (x ∷ drive_words m.devices) (1 + 3 * n)

  -- a new name
  pub stored-new : (k : ℕ) (ws : List ℕ) → length ws ≡ 24586 → n ≤ 1024 → Stated m ws → k ≡ place_of x (names_of (states_of ws)) → k < 8
      → k ≡ get_or ws 0 0 → set (set (written k ws) 1 n) 0 (get_or ws 0 0 + 1) ≡ stored m x ws
  stored-new k [] long few s place room q = absurd (omega (arith, long))
  stored-new k (c ∷ []) long few s place room q = absurd (omega (arith, long))
  stored-new k (c ∷ e ∷ vs) long few s place room q =
      ap (λ (l : List ℕ). set (set l 1 n) 0 (c + 1)) (written-cons c e k vs long few s place room)
      ∙ sym (stored-cons c e k vs long few s place room
      ∙ rw (le-ltb k c (omega (arith, q)), add-one c) refl)

  -- one that is there
  pub stored_same : (k : ℕ) (ws : List ℕ) → length ws ≡ 24586 → n ≤ 1024 → Stated m ws → k ≡ place_of x (names_of (states_of ws)) → k < 8
      → (k ≡ get_or ws 0 0 → ⊥) → set (written k ws) 1 n ≡ stored m x ws
  stored_same k [] long few s place room f = absurd (omega (arith, long))
  stored_same k (c ∷ []) long few s place room f = absurd (omega (arith, long))
  stored_same k (c ∷ e ∷ vs) long few s place room f =
      let l = place-most x (names_of (states_of (c ∷ e ∷ vs))) in
      let i = names-length x (states_of (c ∷ e ∷ vs)) in
      ap (λ (l : List ℕ). set l 1 n) (written-cons c e k vs long few s place room)
      ∙ sym (stored-cons c e k vs long few s place room
      ∙ rw (lt-ltb k c (below (omega (arith, place, l, i, how-many (c ∷ e ∷ vs))))) refl)
    where
      below : k ≤ c → k < c
      below l = omega (arith, l, f)

-- ---- a loop that writes the words of drives from word b on: i drives so far

-- the words of drive k
drive-words : (ds : List Device) (k : ℕ) → k < length ds → drive_at (drive_words ds) (3 * k) ≡ get_or ds k no_device
drive-words ds k h =
    let ws = drive_words ds ++ [] in
    ap₂ drive_at (sym (append-nil (drive_words ds))) (sym (zero-add (3 * k))) ∙ sym (drive-at (length ds) ws 0 k no_device h)
    ∙ ap (λ (es : List Device). get_or es k no_device) (drives-again ds [])

module _ (s₀ : List ℕ) (b : ℕ) (ds : List Device) where
  abbrev ws : List ℕ
  ws = drive_words ds

  -- one word more
  word_more : (s : List ℕ) (j p v : ℕ) → p ≡ b + j → v ≡ get_or ws j 0 → p < length s₀ → j < length ws → s ≡ paste s₀ b ws j → set s p v ≡ paste s₀ b ws (j + 1)
  word_more s j p v e f h l q = rw (q, e, f, add-one j) (paste-suc s₀ b ws j 0 (omega (arith, e)) l)

  -- one drive more
  pub drive-more : (s : List ℕ) (i : ℕ) (d : Device) → i < length ds → b + 3 * i + 2 < length s₀ → d ≡ get_or ds i no_device → s ≡ paste s₀ b ws (3 * i)
      → set (set (set s (b + 3 * i) d.number) (b + 3 * i + 1) d.weight) (b + 3 * i + 2) d.acceptance ≡ paste s₀ b ws (3 * (i + 1))
  drive-more s i d h l e q =
      let g : d ≡ drive_at ws (3 * i) = e ∙ sym (drive-words ds i h) in
      let j : 3 * i + 1 + 1 ≡ 3 * i + 2 = omega arith in
      let one = word_more s (3 * i) (b + 3 * i) d.number refl (ap (λ (y : Device). y.number) g) (omega arith) (omega (arith, drive-words-length ds)) q in
      let two = word_more _ (3 * i + 1) (b + 3 * i + 1) d.weight (omega arith) (ap (λ (y : Device). y.weight) g) (omega arith) (omega (arith, drive-words-length ds)) one in
      word_more _ (3 * i + 2) (b + 3 * i + 2) d.acceptance (omega arith) (ap (λ (y : Device). y.acceptance) g) (omega arith) (omega (arith, drive-words-length ds))
      (two ∙ ap (paste s₀ b ws) j)
      ∙ ap (paste s₀ b ws) (let u : 3 * i + 2 + 1 ≡ 3 * (i + 1) = omega arith in u)

-- a word ahead of them
pub name-ahead : (s vs : List ℕ) (a x k : ℕ) → a + 1 + k ≤ length s → paste (set s a x) (a + 1) vs k ≡ paste s a (x ∷ vs) (1 + k)
name-ahead s vs a x k h =
    let p : take (a + 1) (set s a x) ≡ take a s ++ (x ∷ []) = ap (λ (i : ℕ). take i (set s a x)) (add-one a) ∙ take-suc-set s a x (omega arith) in
    let e : a + 1 + k ≡ a + (1 + k) = omega arith in
    let q : drop (a + 1 + k) (set s a x) ≡ drop (a + (1 + k)) s = drop-set-lt (a + 1 + k) s a x (omega arith) ∙ ap (λ (i : ℕ). drop i s) e in
    let r : 1 + k ≡ suc k = omega arith in
    ap₂ (λ (y z : List ℕ). (y ++ take k vs) ++ z) p q
    ∙ ap (λ (y : List ℕ). y ++ drop (a + (1 + k)) s) (append_assoc (take a s) (x ∷ []) (take k vs) ∙ ap (λ (i : ℕ). take a s ++ take i (x ∷ vs)) (sym r))
