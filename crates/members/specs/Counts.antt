-- How many children each bucket has, by a table. Assumes nothing.
use Rattle.std.specs.Prelude.{◌≡◌, refl, List, [], ◌∷◌, map, ℕ, ◌<◌, ◌≤◌, length, get_or, take}
use Rattle.std.proofs.Common.{sym, ◌∙◌, arith, take_all}
use Rattle.std.proofs.lemmas.List.{length-map}
use Rattle.definitions.specs.declared.Link.{Link}
use Rattle.definitions.specs.Lists.{sum}
use Rattle.definitions.specs.Map.{Map}
use Rattle.definitions.specs.View.{children_of}
use Rattle.members.specs.Totals.{links_of, Totalled}

-- the table r has the number of each bucket's children
pub record Counts (m : Map) (r : List ℕ) : Type 0 where
  pub size : length r ≡ 256
  pub count : (b : ℕ) → b < 256 → get_or r b 0 ≡ length (children_of m b)

-- each link counts one
abbrev pub counted : Link → ℕ
counted l = 1

count-is : (ls : List Link) → sum (map counted ls) ≡ length ls
unfolding sum
count-is [] = refl
count-is (l ∷ ls) = omega (arith, count-is ls)

-- all links are counted
pub counts-are : (m : Map) (r : List ℕ) (k : ℕ) → Totalled counted 1 (take k m.links) r → length m.links ≤ k → Counts m r
unfolding children_of
counts-are m r k h q =
    let t = rw (take_all k m.links q) at h in
    record {
      size = h.size;
      count = λ b l. t.total b l ∙ count-is (links_of b m.links) ∙ sym (length-map (links_of b m.links) (λ (n : Link). n.child));
    }
