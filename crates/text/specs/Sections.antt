-- The layer of frames in order: frames whose kinds do not fall are their sections, one after the other. Assumes nothing.
use Rattle.std.specs.Prelude.{◌≡◌, refl, Bool, true, false, List, [], ◌∷◌, ◌++◌, ℕ, zero, suc, ◌+◌, ◌<◌, ◌≤◌, leb, ltb, eqb}
use Rattle.std.proofs.Common.{sym, ap, ◌∙◌, ⊎_elim, append-nil, arith, eq-or-lt_of_le, leb-true, ltb-true, eqb-true, lt-ltb, le-leb, eq-eqb, ne_eqb}
use Rattle.std.proofs.lemmas.Bool.{eqb-false}
use Rattle.definitions.specs.Lists.{every, kept, linked_from}
use Rattle.definitions.specs.Frames.{Frame, section}
use Rattle.definitions.specs.Load.{kinds_of, sorted}
use Rattle.laws.specs.Lists.{and_both, every-head, every-tail, every-mono, linked-head, linked-tail}
use Rattle.text.specs.Frames.{good_frame, good-kind}

-- a frame is in the section of its kind
pub section-own : (k : ℕ) (f : Frame) (fs : List Frame) → f.kind ≡ k → section k (f ∷ fs) ≡ f ∷ section k fs
unfolding section kept
section-own k f fs e = rw (eq-eqb f.kind k e)

-- a frame is in no other section
pub section-other : (k : ℕ) (f : Frame) (fs : List Frame) → (f.kind ≡ k → ⊥) → section k (f ∷ fs) ≡ section k fs
unfolding section kept
section-other k f fs n = rw (ne_eqb f.kind k n)

rising-head : (k : ℕ) (f : Frame) (fs : List Frame) → linked_from leb k (kinds_of (f ∷ fs)) ≡ true → k ≤ f.kind
rising-head k f fs e = leb-true _ _ (linked-head leb k f.kind (kinds_of fs) e)

-- kinds that rise from k on rise from below it
pub rising-less : (k j : ℕ) (fs : List Frame) → j ≤ k → linked_from leb k (kinds_of fs) ≡ true → linked_from leb j (kinds_of fs) ≡ true
unfolding linked_from
rising-less k j [] h e = refl
rising-less k j (f ∷ fs) h e = and_both (le-leb j f.kind (omega (arith, rising-head k f fs e))) (linked-tail leb k f.kind (kinds_of fs) e)

above : (k : ℕ) (f : Frame) (fs : List Frame) → k < f.kind → linked_from leb k (kinds_of (f ∷ fs)) ≡ true → linked_from leb (suc k) (kinds_of (f ∷ fs)) ≡ true
unfolding linked_from
above k f fs h e = and_both (le-leb (suc k) f.kind h) (linked-tail leb k f.kind (kinds_of fs) e)

-- none is of a kind below where they start
none_below : (k j : ℕ) (fs : List Frame) → j < k → linked_from leb k (kinds_of fs) ≡ true → section j fs ≡ []
unfolding section kept
none_below k j [] h e = refl
none_below k j (f ∷ fs) h e =
    section-other j f fs (λ p. omega (arith, p, rising-head k f fs e)) ∙ none_below f.kind j fs (omega (arith, rising-head k f fs e))
    (linked-tail leb k f.kind (kinds_of fs) e)

-- the n sections from k on
unfoldable pub sections : ℕ → ℕ → List Frame → List Frame
sections k zero fs = []
sections k (suc n) fs = section k fs ++ sections (suc k) n fs

skip : (k n : ℕ) (f : Frame) (fs : List Frame) → f.kind < k → sections k n (f ∷ fs) ≡ sections k n fs
unfolding sections
skip k zero f fs h = refl
skip k (suc n) f fs h = rw (section-other k f fs (λ p. omega (arith, p)), skip (suc k) n f fs (omega arith))

none : (k n : ℕ) → sections k n [] ≡ []
unfolding sections section kept
none k zero = refl
none k (suc n) = none (suc k) n

-- a kind below m
abbrev pub below : ℕ → Frame → Bool
below m f = ltb f.kind m

-- kinds that rise from k on and stay below k + n: the n sections from k on
pub by-sections : (n k m : ℕ) (fs : List Frame) → k + n ≡ m → linked_from leb k (kinds_of fs) ≡ true → every (below m) fs ≡ true → sections k n fs ≡ fs
unfolding sections
by-sections n k m [] q e s = none k n
by-sections zero k m (f ∷ fs) q e s = absurd (omega (arith, q, rising-head k f fs e, ltb-true f.kind m (every-head (below m) f fs s)))
by-sections (suc n) k m (f ∷ fs) q e s = go (eqb f.kind k) refl (by-sections (suc n) k m fs q) (by-sections n (suc k) m (f ∷ fs) (omega (arith, q)))
  where
    go : (p : Bool) → eqb f.kind k ≡ p → (linked_from leb k (kinds_of fs) ≡ true → every (below m) fs ≡ true → sections k (suc n) fs ≡ fs)
        → (linked_from leb (suc k) (kinds_of (f ∷ fs)) ≡ true → every (below m) (f ∷ fs) ≡ true → sections (suc k) n (f ∷ fs) ≡ f ∷ fs)
        → section k (f ∷ fs) ++ sections (suc k) n (f ∷ fs) ≡ f ∷ fs
    go true p ih1 ih2 =
        let i : f.kind ≡ k = eqb-true _ _ p in
        rw (section-own k f fs i, skip (suc k) n f fs (omega (arith, i)))
        (ap (λ (gs : List Frame). f ∷ gs) (ih1 (rising-less f.kind k fs (omega (arith, i)) (linked-tail leb k f.kind (kinds_of fs) e)) (every-tail (below m) f fs s)))
    go false p ih1 ih2 =
        let n : f.kind ≡ k → ⊥ = eqb-false _ _ p in
        let l : k < f.kind = ⊎_elim (λ z. absurd (n (sym z))) (λ z. z) (eq-or-lt_of_le (rising-head k f fs e)) in
        let r : linked_from leb (suc k) (kinds_of (f ∷ fs)) ≡ true = above k f fs l e in
        rw (none_below (suc k) k (f ∷ fs) (omega arith) r) (ih2 r s)

-- good frames in order are the six sections, one after the other
pub in-sections : (fs : List Frame) → every good_frame fs ≡ true → sorted fs ≡ true
    → fs ≡ section 0 fs ++ (section 1 fs ++ (section 2 fs ++ (section 3 fs ++ (section 4 fs ++ section 5 fs))))
unfolding sections
in-sections fs g e =
    let r = by-sections 6 0 6 fs refl e (every-mono good_frame (below 6) fs (λ f h. lt-ltb _ _ (good-kind f h)) g) in
    sym (rw append-nil at r)
