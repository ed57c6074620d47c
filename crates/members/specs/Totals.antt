-- Tables that a loop over the links fills: of each bucket a number of each of its links, added. Assumes nothing.
use Rattle.std.specs.Prelude.{◌≡◌, refl, Bool, true, false, cond, List, [], ◌∷◌, ◌++◌, map, ℕ, ◌+◌, ◌*◌, ◌<◌, ◌≤◌, eqb, length, get_or, set, take}
use Rattle.std.proofs.Common.{sym, ap, ◌∙◌, subst, append-nil, arith, add-one, length-append, length-set, take-suc, length-take-le, get_or-set_same, get_or-set_other, eqb-true, eq-eqb}
use Rattle.std.proofs.lemmas.List.{map-append}
use Rattle.std.proofs.lemmas.Bool.{eqb-false}
use Rattle.definitions.specs.declared.Link.{Link}
use Rattle.definitions.specs.Lists.{kept, sum}
use Rattle.definitions.specs.Frames.{frames_in}
use Rattle.definitions.specs.Map.{map_of}
use Rattle.laws.specs.Lists.{kept_append}
use Rattle.text.specs.declared.Shape.{Shape}
use Rattle.text.specs.Shape.{shape_of}
use Rattle.text.specs.Lines.{plain}
use Rattle.text.specs.RoundTrip.{Framed}
use Rattle.text.specs.Records.{no_link, link_at}
use Rattle.members.specs.Tables.{blank, blank-length, blank-at}

-- the links of bucket b
abbrev pub links_of : ℕ → List Link → List Link
links_of b ls = kept (λ (l : Link). eqb l.bucket b) ls

-- one entry more, at the end
sum-last : (xs : List ℕ) (x : ℕ) → sum (xs ++ x ∷ []) ≡ sum xs + x
unfolding sum
sum-last [] x = omega arith
sum-last (y ∷ ys) x = omega (arith, sum-last ys x)

kept-last : {A : Type 0} (p : A → Bool) (f : A → ℕ) (xs : List A) (x : A) (t : Bool) → p x ≡ t
    → sum (map f (kept p (xs ++ x ∷ []))) ≡ sum (map f (kept p xs)) + cond t (f x) 0
unfolding kept
kept-last {A} p f xs x t e = ap (λ (l : List A). sum (map f l)) (kept_append p xs (x ∷ [])) ∙ go t e
  where
    go : (u : Bool) → p x ≡ u → sum (map f (kept p xs ++ kept p (x ∷ []))) ≡ sum (map f (kept p xs)) + cond u (f x) 0
    go true q = rw (q, map-append f (kept p xs) (x ∷ [])) (sum-last (map f (kept p xs)) (f x))
    go false q = rw (q, append-nil) (omega arith)

-- f gives a link's number, top is what none is above
module _ (f : Link → ℕ) (top : ℕ) where
  -- the table r has of each bucket the numbers of its links, added
  pub record Totalled (ls : List Link) (r : List ℕ) : Type 0 where
    pub size : length r ≡ 256
    pub total : (b : ℕ) → b < 256 → get_or r b 0 ≡ sum (map f (links_of b ls))
    pub most : (b : ℕ) → b < 256 → get_or r b 0 ≤ length ls * top

  -- no link yet
  pub totalled_none : Totalled [] (blank 256)
  unfolding kept sum
  totalled_none = record { size = blank-length 256; total = λ b h. blank-at 256 b h; most = λ b h. omega (arith, blank-at 256 b h) }

  -- one link more, whose number is v
  pub totalled_more : (ls : List Link) (r : List ℕ) (k : ℕ) (l : Link) (v : ℕ) → Totalled (take k ls) r → k < length ls → l ≡ get_or ls k no_link → l.bucket ≤ 255 → v ≡ f l
      → v ≤ top → Totalled (take (k + 1) ls) (set r l.bucket (get_or r l.bucket 0 + v))
  totalled_more ls r k l v h q e b c s =
      rw (add-one k, take-suc ls k no_link q, ← e)
      (record { size = length-set r l.bucket (get_or r l.bucket 0 + v) ∙ h.size; total = λ a n. each a n (eqb l.bucket a) refl; most = λ a n. few a n (eqb l.bucket a) refl })
    where
      last : (a : ℕ) (t : Bool) → eqb l.bucket a ≡ t → sum (map f (links_of a (take k ls ++ l ∷ []))) ≡ sum (map f (links_of a (take k ls))) + cond t (f l) 0
      last a t i = kept-last (λ (n : Link). eqb n.bucket a) f (take k ls) l t i

      here : get_or (set r l.bucket (get_or r l.bucket 0 + v)) l.bucket 0 ≡ get_or r l.bucket 0 + v
      here = get_or-set_same r l.bucket (get_or r l.bucket 0 + v) 0 (omega (arith, h.size))

      other : (a : ℕ) → eqb l.bucket a ≡ false → get_or (set r l.bucket (get_or r l.bucket 0 + v)) a 0 ≡ get_or r a 0
      other a i = get_or-set_other r l.bucket a (get_or r l.bucket 0 + v) 0 (λ u. eqb-false l.bucket a i (sym u))

      each : (a : ℕ) → a < 256 → (t : Bool) → eqb l.bucket a ≡ t
          → get_or (set r l.bucket (get_or r l.bucket 0 + v)) a 0 ≡ sum (map f (links_of a (take k ls ++ l ∷ [])))
      each a n true i =
          subst (λ (d : ℕ). get_or (set r l.bucket (get_or r l.bucket 0 + v)) d 0 ≡ sum (map f (links_of d (take k ls ++ l ∷ [])))) (eqb-true l.bucket a i)
          (omega (arith, here, h.total l.bucket (omega arith), last l.bucket true (eq-eqb l.bucket l.bucket refl), c))
      each a n false i = omega (arith, other a i, h.total a n, last a false i)

      long : length (take k ls ++ l ∷ []) ≡ length (take k ls) + 1
      long = length-append (take k ls) (l ∷ [])

      grown : length (take k ls) * top + top ≡ length (take k ls ++ l ∷ []) * top
      grown = rw long (omega arith)

      few : (a : ℕ) → a < 256 → (t : Bool) → eqb l.bucket a ≡ t → get_or (set r l.bucket (get_or r l.bucket 0 + v)) a 0 ≤ length (take k ls ++ l ∷ []) * top
      few a n true i =
          subst (λ (d : ℕ). get_or (set r l.bucket (get_or r l.bucket 0 + v)) d 0 ≤ length (take k ls ++ l ∷ []) * top) (eqb-true l.bucket a i)
          (omega (arith, here, grown, h.most l.bucket (omega arith), s))
      few a n false i = omega (arith, other a i, grown, h.most a n)

  -- no total is above so much for each link
  pub totalled-most : (ls : List Link) (r : List ℕ) (k b : ℕ) → Totalled (take k ls) r → k ≤ length ls → b ≤ 255 → get_or r b 0 ≤ k * top
  totalled-most ls r k b h q l = rw (length-take-le k ls q) at (h.most b (omega arith))

-- a text has fewer links than bytes
pub links-few : (t : List ℕ) → Framed t → (s : Shape) → s ≡ shape_of (frames_in t) → (k : ℕ) → k < length (map_of t).links → k < 65536
links-few t h s e k l = omega (arith, (link_at t h s e k l).room, (plain t h.sized).most)
