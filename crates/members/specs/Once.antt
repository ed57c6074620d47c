-- Question 8, by a table of the slots of the children seen. Assumes nothing.
use Rattle.std.specs.Prelude.{◌≡◌, refl, Bool, true, false, not, ◌&&◌, ◌||◌, List, [], ◌∷◌, map, ℕ, ◌+◌, ◌<◌, ◌≤◌, eqb, length, get_or, drop, set, replicate}
use Rattle.std.proofs.Common.{◌∙◌, add-one, length-set, drop_of_length-le, get_or-set_same, get_or-set_other, eqb-true}
use Rattle.std.proofs.lemmas.List.{length-replicate, get_or-replicate}
use Rattle.std.proofs.Math.Seq.{drop-cons}
use Rattle.std.proofs.lemmas.Bool.{eqb-false}
use Rattle.definitions.specs.declared.Link.{Link}
use Rattle.definitions.specs.Lists.{every, has, distinct}
use Rattle.definitions.specs.Map.{Map}
use Rattle.definitions.specs.Load.{link_ranged, ranged, once}
use Rattle.laws.specs.Lists.{every-head, every-tail}
use Rattle.laws.specs.Loadable.{ranged-is, ChildRanged, link-ranged}
use Rattle.text.specs.Records.{no_link}
use Rattle.members.specs.Levels.{slot_of, slot_small, slot-one}

-- no child is seen yet
unfoldable pub unseen : List Bool
unseen = replicate 1280 false

-- child c is seen
abbrev pub seen_in : List Bool → ℕ → Bool
seen_in t c = get_or t (slot_of c) false

-- no link has a child that is seen, or that is another's
unfoldable pub fresh : List Bool → List Link → Bool
fresh t [] = true
fresh t (l ∷ ls) = not (seen_in t l.child) && fresh (set t (slot_of l.child) true) ls

-- a loop that asks each link from the front: link k is l, and the slot of its child i
module _ (t : List Bool) (ls : List Link) (k : ℕ) (h : k < length ls) (l : Link) (e : l ≡ get_or ls k no_link) (i : ℕ) (q : i ≡ slot_of l.child) where
  pub fresh-next : get_or t i false ≡ false → fresh (set t i true) (drop (k + 1) ls) ≡ fresh t (drop k ls)
  unfolding fresh
  fresh-next z = rw (add-one k, drop-cons ls k no_link h, ← e, ← q, z)

  pub fresh-stop : get_or t i false ≡ true → false ≡ fresh t (drop k ls)
  unfolding fresh
  fresh-stop z = rw (drop-cons ls k no_link h, ← e, ← q, z)

pub fresh-end : (t : List Bool) (ls : List Link) (k : ℕ) → length ls ≤ k → true ≡ fresh t (drop k ls)
unfolding fresh
fresh-end t ls k h = rw (drop_of_length-le ls {i = k} h)

abbrev child : Link → ℕ
child l = l.child

-- one child more is seen
seen_more : (t : List Bool) (c d : ℕ) → length t ≡ 1280 → ChildRanged c → ChildRanged d
    → seen_in (set t (slot_of c) true) d ≡ eqb d c || seen_in t d
seen_more t c d s p q = go (eqb d c) refl
  where
    go : (b : Bool) → eqb d c ≡ b → seen_in (set t (slot_of c) true) d ≡ b || seen_in t d
    go true e = rw (eqb-true d c e) (get_or-set_same t (slot_of c) true false (rw s (slot_small c p)))
    go false e = get_or-set_other t (slot_of c) (slot_of d) true false (λ u. eqb-false d c e (slot-one d c q p u))

-- where none of the links has a child that is seen, and none has c, none has one that is seen with c
none_more : (t : List Bool) (c : ℕ) (ls : List Link) → length t ≡ 1280 → ChildRanged c → every link_ranged ls ≡ true
    → every (λ (l : Link). not (seen_in (set t (slot_of c) true) l.child)) ls ≡ not (has c (map child ls)) && every (λ (l : Link). not (seen_in t l.child)) ls
unfolding every has
none_more t c [] s p r = refl
none_more t c (l ∷ ls) s p r =
    let q = link-ranged l (every-head link_ranged l ls r) in
    rw (none_more t c ls s p (every-tail link_ranged l ls r), seen_more t c l.child s p q.child)
    (shuffle (eqb l.child c) (seen_in t l.child) (has c (map child ls)) (every (λ (n : Link). not (seen_in t n.child)) ls))
  where
    shuffle : (a b c d : Bool) → not (a || b) && (not c && d) ≡ not (a || c) && (not b && d)
    shuffle true b c d = refl
    shuffle false true true d = refl
    shuffle false true false d = refl
    shuffle false false true d = refl
    shuffle false false false d = refl

-- what the loop answers
fresh-is : (t : List Bool) (ls : List Link) → length t ≡ 1280 → every link_ranged ls ≡ true
    → fresh t ls ≡ every (λ (l : Link). not (seen_in t l.child)) ls && distinct (map child ls)
unfolding fresh every distinct
fresh-is t [] s r = refl
fresh-is t (l ∷ ls) s r =
    let c = (link-ranged l (every-head link_ranged l ls r)).child in
    rw (fresh-is (set t (slot_of l.child) true) ls (length-set t (slot_of l.child) true ∙ s) (every-tail link_ranged l ls r), none_more t l.child ls s c (every-tail link_ranged l ls r))
    (shuffle (not (seen_in t l.child)) (not (has l.child (map child ls))) (every (λ (n : Link). not (seen_in t n.child)) ls) (distinct (map child ls)))
  where
    shuffle : (a b c d : Bool) → a && (b && c && d) ≡ a && c && (b && d)
    shuffle false b c d = refl
    shuffle true false false d = refl
    shuffle true false true d = refl
    shuffle true true false d = refl
    shuffle true true true d = refl

unseen-length : length unseen ≡ 1280
unfolding unseen
unseen-length = length-replicate 1280 false

none_seen : (ls : List Link) → every link_ranged ls ≡ true → every (λ (l : Link). not (seen_in unseen l.child)) ls ≡ true
unfolding every unseen
none_seen [] r = refl
none_seen (l ∷ ls) r =
    rw (get_or-replicate 1280 (slot_of l.child) false false (slot_small l.child (link-ranged l (every-head link_ranged l ls r)).child))
    (none_seen ls (every-tail link_ranged l ls r))

-- question 8
pub fresh-once : (m : Map) → ranged m ≡ true → fresh unseen m.links ≡ once m
unfolding once
fresh-once m h =
    let r = (ranged-is m h).links in
    rw (fresh-is unseen m.links unseen-length r, none_seen m.links r)
