-- Questions 7 and 9, of each link and each step, by the levels of the items. Assumes nothing.
use Rattle.std.specs.Prelude.{◌≡◌, Bool, cond, not, ◌&&◌, ◌||◌, List, ℕ, ◌+◌, ◌<◌, ◌≤◌, leb, eqb, length, get_or}
use Rattle.std.proofs.Math.Path.{refl}
use Rattle.std.proofs.Common.{sym, ◌∙◌, arith}
use Rattle.std.proofs.Math.Bool.{true, false}
use Rattle.std.proofs.Math.Dec.{ltb}
use Rattle.std.proofs.lemmas.Bool.{false≢true}
use borrow.Author.Tests.{lt-ltb, le-ltb, le-leb, ltb-true, ltb-false, eqb-true, ne_eqb, eq-eqb, leb-true}
use Rattle.definitions.specs.declared.Link.{Link}
use Rattle.definitions.specs.declared.Step.{Step}
use Rattle.definitions.specs.declared.Action.TheVariants.{Select, Emit, Idle}
use Rattle.definitions.specs.declared.Mode.TheVariants.{FirstN, Independent, Through}
use Rattle.definitions.specs.Lists.{every}
use Rattle.definitions.specs.Map.{Map, bucket_item, bucket_number, action_of, actions_of}
use Rattle.definitions.specs.View.{bucket_type, type_by, type_of}
use Rattle.definitions.specs.Load.{within, take_ranged, select_ranged, emit_ranged, step_ranged, ranged, has_bucket, has_item, takes_present, present}
use Rattle.laws.specs.Lists.{both, every-at, every_map}
use Rattle.laws.specs.Loadable.{ranged-is, ChildRanged, LinkRanged}
use Rattle.text.specs.Records.{no_step}
use Rattle.members.specs.Levels.{level_of, looked_up, Levels, bucket-item}

-- ---- the questions of one link and one step

-- question 7 of a link
abbrev pub link_present : Map → Link → Bool
link_present m l = has_bucket m l.bucket && has_item m l.child

-- and of a step
abbrev pub step_present : Map → Step → Bool
step_present m p = takes_present m (action_of p)

-- question 9 of a link
abbrev pub link_falls : Map → Link → Bool
link_falls m l = ltb (type_of m l.child) (bucket_type m l.bucket)

-- ---- a bucket as an item

module _ (m : Map) (b : ℕ) where
  number-back : bucket_number (bucket_item b) ≡ b
  number-back = omega arith

  has-bucket : has_item m (bucket_item b) ≡ has_bucket m b
  unfolding has_item
  has-bucket = rw (le-leb 65536 (bucket_item b) (omega arith), number-back)

  type-bucket : type_of m (bucket_item b) ≡ bucket_type m b
  unfolding type_of type_by
  type-bucket = rw (le-leb 65536 (bucket_item b) (omega arith), number-back)

-- ---- a step

-- one of another kind than 1 takes no bucket
pub step_other : (m : Map) (p : Step) → (p.step ≡ 1 → ⊥) → true ≡ step_present m p
unfolding takes_present action_of
step_other m p n = rw (ne_eqb p.step 1 n) (go (eqb p.step 2) (eqb p.step 3) (eqb p.step 4) (eqb p.step 5))
  where
    through : (d : Bool) → true ≡ takes_present m (cond d (Select Through p.count p.ty) Idle)
    through true = refl
    through false = refl

    go : (a b c d : Bool)
        → true
        ≡ takes_present m
        (cond a (Select FirstN p.count p.ty) (cond b (Select Independent p.count p.ty) (cond c Emit (cond d (Select Through p.count p.ty) Idle))))
    go true b c d = refl
    go false true c d = refl
    go false false true d = refl
    go false false false d = through d

-- ---- by the levels

ltb-more : (a b : ℕ) → ltb (a + 1) (b + 1) ≡ ltb a b
ltb-more a b = go (ltb a b) refl
  where
    go : (t : Bool) → ltb a b ≡ t → ltb (a + 1) (b + 1) ≡ t
    go true e = lt-ltb (a + 1) (b + 1) (omega (arith, ltb-true a b e))
    go false e = le-ltb (a + 1) (b + 1) (omega (arith, ltb-false a b e))

module _ (m : Map) (r : List ℕ) (h : Levels m r) where
  -- an item is present where its level is above 0
  has-level : (i : ℕ) → ChildRanged i → ltb 0 (looked_up r i) ≡ has_item m i
  unfolding level_of
  has-level i c = rw (h.level i c) (go (has_item m i))
    where
      go : (b : Bool) → ltb 0 (cond b (type_of m i + 1) 0) ≡ b
      go true = lt-ltb 0 (type_of m i + 1) (omega arith)
      go false = refl

  has-bucket-level : (b : ℕ) → b ≤ 255 → ltb 0 (looked_up r (bucket_item b)) ≡ has_bucket m b
  has-bucket-level b l = has-level (bucket_item b) (bucket-item b l) ∙ has-bucket m b

  -- where it is present, its level is its type plus 1
  level-type : (i : ℕ) → ChildRanged i → has_item m i ≡ true → looked_up r i ≡ type_of m i + 1
  unfolding level_of
  level-type i c e = h.level i c ∙ rw e

  -- the questions of link l, by the levels of its two items
  module _ (l : Link) (q : LinkRanged l) where
    pub link-there : ltb 0 (looked_up r (bucket_item l.bucket)) && ltb 0 (looked_up r l.child) ≡ link_present m l
    link-there = rw (has-bucket-level l.bucket q.bucket, has-level l.child q.child) refl

    pub link-falls : link_present m l ≡ true → ltb (looked_up r l.child) (looked_up r (bucket_item l.bucket)) ≡ link_falls m l
    link-falls p =
        let (d, e) = both (has_bucket m l.bucket) (has_item m l.child) p in
        rw (level-type l.child q.child e, level-type (bucket_item l.bucket) (bucket-item l.bucket q.bucket) (has-bucket m l.bucket ∙ d), type-bucket m l.bucket)
        (ltb-more (type_of m l.child) (bucket_type m l.bucket))

  -- and of a step: one of kind 1 takes a bucket, and no other takes one
  pub step-there : (p : Step) → (p.step ≡ 1 → p.bucket ≤ 255) → not (eqb p.step 1) || ltb 0 (looked_up r (bucket_item p.bucket)) ≡ step_present m p
  unfolding takes_present action_of
  step-there p l = go (eqb p.step 1) refl
    where
      go : (t : Bool) → eqb p.step 1 ≡ t → not t || ltb 0 (looked_up r (bucket_item p.bucket)) ≡ step_present m p
      go true e = rw e (has-bucket-level p.bucket (l (eqb-true p.step 1 e)))
      go false e = step_other m p (λ n. false≢true (sym e ∙ eq-eqb p.step 1 n))

-- ---- steps

-- the bucket that a step takes is in range
pub step-bucket : (p : Step) → step_ranged p ≡ true → p.step ≡ 1 → p.bucket ≤ 255
unfolding step_ranged take_ranged select_ranged emit_ranged
step-bucket p r e = go (take_ranged p) refl (select_ranged p) refl r
  where
    -- a select's number is 2 at least
    selects : (b : Bool) → within 2 3 p.step ≡ b → b || eqb p.step 5 ≡ true → 2 ≤ p.step
    selects true h i = leb-true 2 p.step (both (leb 2 p.step) (leb p.step 3) h).0
    selects false h i = omega (arith, eqb-true p.step 5 i)

    go : (a : Bool) → take_ranged p ≡ a → (b : Bool) → select_ranged p ≡ b → a || b || emit_ranged p ≡ true → p.bucket ≤ 255
    go true h b i r = leb-true p.bucket 255 (both (eqb p.step 1 && eqb p.count 0 && eqb p.ty 0) (leb p.bucket 255) h).1
    go false h true i r =
        let s = within 2 3 p.step || eqb p.step 5 in
        let a = (both (s && within 1 16 p.count && leb p.ty 254) (eqb p.bucket 0) i).0 in
        let b = (both (s && within 1 16 p.count) (leb p.ty 254) a).0 in
        let c = (both s (within 1 16 p.count) b).0 in
        absurd (omega (arith, selects (within 2 3 p.step) refl c))
    go false h false i r =
        let a = (both (eqb p.step 4 && eqb p.count 0 && eqb p.ty 0) (eqb p.bucket 0) r).0 in
        let b = (both (eqb p.step 4 && eqb p.count 0) (eqb p.ty 0) a).0 in
        absurd (omega (arith, eqb-true p.step 4 (both (eqb p.step 4) (eqb p.count 0) b).0))

-- and step k is in range
pub step-in : (m : Map) → ranged m ≡ true → (k : ℕ) → k < length m.steps → step_ranged (get_or m.steps k no_step) ≡ true
step-in m h k l = every-at step_ranged m.steps k no_step (ranged-is m h).steps l

-- ---- question 7, put to each link and each step

pub present-by : (m : Map) → every (link_present m) m.links && every (step_present m) m.steps ≡ present m
unfolding present actions_of
present-by m = rw (every_map (takes_present m) action_of m.steps)
