-- A text whose drives get other values, one after the other. Assumes nothing.
use Rattle.std.specs.Prelude.{◌≡◌, refl, List, ◌++◌, ℕ, ◌+◌, ◌*◌, ◌<◌, ◌≤◌, length, get_or, take, drop}
use Rattle.std.proofs.Common.{sym, ap₂, ◌∙◌, subst, append-nil, arith, length-set, drop_of_length-le, take_all, get_or-set_same, get_or-append-add, length-take-le, get_or-drop}
use Rattle.std.proofs.Math.Path.{ap}
use Rattle.std.proofs.Math.ListN.{set, get_or-map}
use Rattle.std.proofs.lemmas.List.{length-map}
use Rattle.std.proofs.Math.Seq.{set-set}
use Rattle.definitions.specs.declared.Device.{Device}
use Rattle.definitions.specs.Map.{Map, map_of}
use Rattle.definitions.specs.Edit.{with_devices}
use Rattle.definitions.specs.States.{drives_in, numbers_of}
use Rattle.laws.specs.Lists.{front-more, length_front}
use Rattle.keeping.specs.States.{drive-at}
use Rattle.text.specs.RoundTrip.{Framed}
use Rattle.text.specs.Records.{no_device}
use Rattle.text.specs.Edit.{with_device, accepting, weighing, Edited, unedited}

-- the map with the first i drives replaced
abbrev pub partly : Map → List Device → ℕ → Map
partly m es i = with_devices m (take i es ++ drop i m.devices)

-- none yet
pub values-none : (t : List ℕ) (es : List Device) → Framed t → Edited t (partly (map_of t) es 0)
values-none t es h = unedited t h

module _ (m : Map) (es : List Device) (same : length es ≡ length m.devices) (i : ℕ) where
  -- as many as before
  pub partly-length : i ≤ length m.devices → length (partly m es i).devices ≡ length m.devices
  partly-length h = length_front es m.devices i (omega (arith, same)) h

  -- all of them
  pub values-all : (u : List ℕ) → i ≡ length m.devices → Edited u (partly m es i) → Edited u (with_devices m es)
  values-all u e E =
      let q : take i es ++ drop i m.devices ≡ es =
      ap₂ (λ (a b : List Device). a ++ b) (take_all i es (omega (arith, same, e))) (drop_of_length-le m.devices {i = i} (omega (arith, e))) ∙ append-nil es in
      subst (λ (ds : List Device). Edited u (with_devices m ds)) q E

  -- one more: its weight and its acceptance
  module _ (h : i < length m.devices) (t u v : List ℕ) (w a : ℕ) (E : Edited t (partly m es i))
      (F : Edited u (with_device i (weighing (get_or (map_of t).devices i no_device) w) (map_of t)))
      (G : Edited v (with_device i (accepting (get_or (map_of u).devices i no_device) a) (map_of u)))
      (e : get_or es i no_device ≡ record { number = (get_or m.devices i no_device).number; weight = w; acceptance = a }) where
    abbrev xs : List Device
    xs = take i es ++ drop i m.devices

    abbrev d : Device
    d = get_or m.devices i no_device

    there : get_or xs i no_device ≡ d
    there =
        let k : length (take i es) ≡ i = length-take-le i es (omega (arith, same, h)) in
        let z : i ≡ length (take i es) + 0 = omega (arith, k) in
        ap (λ (j : ℕ). get_or xs j no_device) z ∙ get_or-append-add (take i es) (drop i m.devices) 0 no_device ∙ get_or-drop i m.devices 0 no_device
        ∙ ap (λ (j : ℕ). get_or m.devices j no_device) (let y : i + 0 ≡ i = omega arith in y)

    inside : i < length xs
    inside = omega (arith, partly-length (omega arith), h)

    second : map_of u ≡ with_devices m (set xs i (weighing d w))
    unfolding with_device
    second =
        F.holds ∙ ap (λ (n : Map). with_devices n (set n.devices i (weighing (get_or n.devices i no_device) w))) E.holds
        ∙ ap (λ (x : Device). with_devices m (set xs i (weighing x w))) there

    third : map_of v ≡ with_devices m (set xs i (accepting (weighing d w) a))
    unfolding with_device
    third =
        G.holds ∙ ap (λ (n : Map). with_devices n (set n.devices i (accepting (get_or n.devices i no_device) a))) second
        ∙ ap (with_devices m) (ap (λ (x : Device). set (set xs i (weighing d w)) i (accepting x a)) (get_or-set_same xs i (weighing d w) no_device inside) ∙ set-set xs i (weighing d w) (accepting (weighing d w) a))

    more : map_of v ≡ partly m es (i + 1)
    more =
        third ∙ ap (with_devices m) (ap (set xs i) (sym e) ∙ front-more es m.devices i (get_or es i no_device) no_device (omega (arith, same, h)) h refl)

    pub values-more : Edited v (partly m es (i + 1))
    values-more = subst (Edited v) (sym G.holds ∙ more) G

-- as many drives after a weight
pub weighed-length : (t u : List ℕ) (i w : ℕ) → Edited u (with_device i (weighing (get_or (map_of t).devices i no_device) w) (map_of t))
    → length (map_of u).devices ≡ length (map_of t).devices
unfolding with_device
weighed-length t u i w E =
    ap (λ (n : Map). length n.devices) E.holds ∙ length-set (map_of t).devices i (weighing (get_or (map_of t).devices i no_device) w)

-- the drives from word a on, of the numbers that the text's have
module _ (t s : List ℕ) (n a : ℕ) (same : numbers_of (drives_in n (drop a s)) ≡ numbers_of (map_of t).devices) where
  pub given-length : length (drives_in n (drop a s)) ≡ length (map_of t).devices
  given-length =
      let f : Device → ℕ = λ (d : Device). d.number in
      sym (length-map (drives_in n (drop a s)) f) ∙ ap length same ∙ length-map (map_of t).devices f

  pub given-at : (i : ℕ) → i < n
      → get_or (drives_in n (drop a s)) i no_device
      ≡ record { number = (get_or (map_of t).devices i no_device).number; weight = get_or s (a + 3 * i + 1) 0; acceptance = get_or s (a + 3 * i + 2) 0 }
  given-at i h =
      let f : Device → ℕ = λ (d : Device). d.number in
      let e : get_or s (a + 3 * i) 0 ≡ (get_or (map_of t).devices i no_device).number =
      ap f (sym (drive-at n s a i no_device h)) ∙ sym (get_or-map f (drives_in n (drop a s)) i no_device)
      ∙ ap (λ (ns : List ℕ). get_or ns i 0) same ∙ get_or-map f (map_of t).devices i no_device in
      drive-at n s a i no_device h ∙ ap (λ (k : ℕ). record { number = k; weight = get_or s (a + 3 * i + 1) 0; acceptance = get_or s (a + 3 * i + 2) 0 }) e
