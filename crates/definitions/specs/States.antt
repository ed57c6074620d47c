-- Document 02, change 8, "Back to the map of a campaign": the named states. They are lent beside the map's frames, as words of 32 bits: how
-- many states there are, how many drives each of them has, and then the states, each its name ahead of its drives, and of each drive its
-- number, its weight and its acceptance. What lies beyond them is free. (24,586 words are lent, room for eight states of 1,024 drives, so that no
-- state that question 14 takes reaches beyond them: `keeping/States.stated-inside`.)
use Rattle.std.specs.Prelude.{Bool, cond, ◌&&◌, ◌||◌, List, [], ◌∷◌, map, ℕ, zero, suc, ◌+◌, ◌*◌, leb, ltb, eqb, length, get_or, drop}
use Rattle.definitions.specs.declared.Device.{Device}
use Rattle.definitions.specs.declared.Move.{Move}
use Rattle.definitions.specs.Lists.{every, joined, has, distinct, same, over}
use Rattle.definitions.specs.Map.{Map}
use Rattle.definitions.specs.Edit.{with_devices, with_sums}
use Rattle.definitions.specs.Load.{device_ranged}

-- "named states, the name a 16-bit number": the drives with "the weight and acceptance of the moment of storing"
pub record NamedState : Type 0 where
  pub name : ℕ
  pub devices : List Device

-- ---- words

unfoldable pub drive_words : List Device → List ℕ
drive_words [] = []
drive_words (d ∷ ds) = d.number ∷ d.weight ∷ d.acceptance ∷ drive_words ds

unfoldable pub state_words : NamedState → List ℕ
state_words s = s.name ∷ drive_words s.devices

-- how many drives each of these states has: all have as many
unfoldable pub drives_each : List NamedState → ℕ
drives_each [] = 0
drives_each (s ∷ ss) = length s.devices

unfoldable pub words_of : List NamedState → List ℕ
words_of ss = length ss ∷ drives_each ss ∷ joined (map state_words ss)

-- n drives that words spell
unfoldable pub drives_in : ℕ → List ℕ → List Device
drives_in zero ws = []
drives_in (suc n) ws = record { number = get_or ws 0 0; weight = get_or ws 1 0; acceptance = get_or ws 2 0 } ∷ drives_in n (drop 3 ws)

-- how many words a state of n drives has
abbrev pub state_size : ℕ → ℕ
state_size n = 1 + 3 * n

-- k states of n drives each that words spell
unfoldable pub states_in : ℕ → ℕ → List ℕ → List NamedState
states_in n zero ws = []
states_in n (suc k) ws = record { name = get_or ws 0 0; devices = drives_in n (drop 1 ws) } ∷ states_in n k (drop (state_size n) ws)

unfoldable pub states_of : List ℕ → List NamedState
states_of ws = states_in (get_or ws 1 0) (get_or ws 0 0) (drop 2 ws)

-- ---- question 14: "Keep up to eight named states"; "question 14 covers them: names all different, values that load takes"

-- the numbers of drives
abbrev pub numbers_of : List Device → List ℕ
numbers_of ds = map (λ (d : Device). d.number) ds

-- "every drive": a state of exactly the map's drives
unfoldable pub state_fits : Map → NamedState → Bool
state_fits m s = leb s.name 65535 && same (numbers_of m.devices) (numbers_of s.devices) && every device_ranged s.devices

abbrev pub names_of : List NamedState → List ℕ
names_of ss = map (λ (s : NamedState). s.name) ss

-- as many drives as the map has, where there is a state: so no more of them are read
unfoldable pub count_fits : Map → List ℕ → Bool
count_fits m ws = eqb (get_or ws 0 0) 0 || eqb (get_or ws 1 0) (length m.devices)

unfoldable pub stated : Map → List ℕ → Bool
stated m ws = leb (get_or ws 0 0) 8 && count_fits m ws && every (state_fits m) (states_of ws) && distinct (names_of (states_of ws))

-- ---- storing

-- a state has this name
unfoldable pub named : ℕ → List NamedState → Bool
named n ss = has n (names_of ss)

-- 25. "answers 25 for a ninth name"
unfoldable pub room_for_name : ℕ → List NamedState → Bool
room_for_name n ss = named n ss || ltb (length ss) 8

-- "Storing under a name replaces what was there."
unfoldable pub store_in : NamedState → List NamedState → List NamedState
store_in t [] = t ∷ []
store_in t (s ∷ ss) = cond (eqb s.name t.name) (t ∷ ss) (s ∷ store_in t ss)

-- the map's drives, under a name
abbrev pub state_now : Map → ℕ → NamedState
state_now m n = record { name = n; devices = m.devices }

-- the words after it
unfoldable pub stored : Map → ℕ → List ℕ → List ℕ
stored m n ws = over (words_of (store_in (state_now m n) (states_of ws))) ws

-- ---- returning

-- the drives of the state of a name
unfoldable pub devices_named : ℕ → List NamedState → List Device
devices_named n [] = []
devices_named n (s ∷ ss) = cond (eqb s.name n) s.devices (devices_named n ss)

-- "Returning to a name gives every drive the weight and acceptance of the moment of storing"; bucket weights stay the sums
unfoldable pub put_state : Map → List Device → Map
put_state m ds = with_sums (with_devices m ds)

-- "reports each place that differs, and no other, as a move with cause 04": moves, all of one cause
abbrev pub with_cause : ℕ → Move → Move
with_cause k v = record { group = v.group; place = v.place; old = v.old; new = v.new; cause = k }

unfoldable pub return_moves : List Move → List Move
return_moves vs = map (with_cause 4) vs
