-- Load's number: 0 where each question is answered yes. Assumes nothing.
use Rattle.std.specs.Prelude.{◌≡◌, refl, true, List, ◌++◌, ℕ}
use Rattle.definitions.specs.Lists.{every, first_no}
use Rattle.definitions.specs.Map.{map_of}
use Rattle.definitions.specs.Load.{ranged, rising, present, once, falling, filled, narrow, in_blocks, typed, slim, summed, light, text_questions, map_questions, load_number}
use Rattle.laws.specs.Questions.{answer_to, answered}
use Rattle.text.specs.RoundTrip.{Framed}

-- behind questions 1 to 4 the number is that of the map's questions
pub behind-text : (t : List ℕ) → Framed t → load_number t ≡ first_no (map_questions (map_of t))
unfolding load_number text_questions first_no
behind-text t h = simp (h.sized, h.formed, h.ordered, h.counted)

-- each question answered yes
pub record Loaded (t : List ℕ) : Type 0 where
  pub framed : Framed t
  pub ranged : ranged (map_of t) ≡ true
  pub rising : rising (map_of t) ≡ true
  pub present : present (map_of t) ≡ true
  pub once : once (map_of t) ≡ true
  pub falling : falling (map_of t) ≡ true
  pub filled : filled (map_of t) ≡ true
  pub narrow : narrow (map_of t) ≡ true
  pub in_blocks : in_blocks (map_of t) ≡ true
  pub typed : typed (map_of t) ≡ true
  pub slim : slim (map_of t) ≡ true
  pub summed : summed (map_of t) ≡ true
  pub light : light (map_of t) ≡ true

-- a text of number 0 has each answer yes
pub loaded : (t : List ℕ) → load_number t ≡ 0 → Loaded t
unfolding load_number text_questions map_questions every answer_to
loaded t e =
    let y = answered (text_questions t ++ map_questions (map_of t)) refl e in
    record {
      framed = record { sized = y 1; formed = y 2; ordered = y 3; counted = y 4 };
      ranged = y 5;
      rising = y 6;
      present = y 7;
      once = y 8;
      falling = y 9;
      filled = y 22;
      narrow = y 10;
      in_blocks = y 11;
      typed = y 21;
      slim = y 12;
      summed = y 23;
      light = y 13;
    }
