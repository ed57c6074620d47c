-- How many frames a text has of each kind, counted frame by frame. Assumes nothing.
use Rattle.std.specs.Prelude.{◌≡◌, Bool, true, false, cond, List, [], ◌∷◌, ℕ, ◌+◌, ◌<◌, ◌≤◌, eqb, length}
use Rattle.std.proofs.Common.{sym, ◌∙◌, arith}
use Rattle.text.specs.declared.Shape.{Shape}
use Rattle.definitions.specs.Lists.{kept}
use Rattle.definitions.specs.Frames.{Frame, section}

-- the counts of frames
unfoldable pub shape_of : List Frame → Shape
shape_of fs =
    record {
      groups = length (section 0 fs);
      devices = length (section 1 fs);
      buckets = length (section 2 fs);
      links = length (section 3 fs);
      steps = length (section 4 fs);
      ends = length (section 5 fs);
    }

-- 1 where a is b
abbrev pub is : ℕ → ℕ → ℕ
is a b = cond (eqb a b) 1 0

-- one frame more, of kind k
unfoldable pub more : Shape → ℕ → Shape
more s k =
    record {
      groups = s.groups + is k 0;
      devices = s.devices + is k 1;
      buckets = s.buckets + is k 2;
      links = s.links + is k 3;
      steps = s.steps + is k 4;
      ends = s.ends + is k 5;
    }

-- each count is below n
pub record Small (s : Shape) (n : ℕ) : Type 0 where
  pub groups : s.groups < n
  pub devices : s.devices < n
  pub buckets : s.buckets < n
  pub links : s.links < n
  pub steps : s.steps < n
  pub ends : s.ends < n

-- two counts together
unfoldable pub plus : Shape → Shape → Shape
plus s r =
    record {
      groups = s.groups + r.groups;
      devices = s.devices + r.devices;
      buckets = s.buckets + r.buckets;
      links = s.links + r.links;
      steps = s.steps + r.steps;
      ends = s.ends + r.ends;
    }

is_le : (a b : ℕ) → is a b ≤ 1
is_le a b = go (eqb a b)
  where
    go : (p : Bool) → cond p 1 0 ≤ 1
    go true = omega arith
    go false = omega arith

-- one frame more, and one more in the bound
pub more-small : (s : Shape) (k n m : ℕ) → Small s n → n < m → Small (more s k) m
unfolding more
more-small s k n m h l =
    record {
      groups = omega (arith, h.groups, is_le k 0);
      devices = omega (arith, h.devices, is_le k 1);
      buckets = omega (arith, h.buckets, is_le k 2);
      links = omega (arith, h.links, is_le k 3);
      steps = omega (arith, h.steps, is_le k 4);
      ends = omega (arith, h.ends, is_le k 5);
    }

-- one frame more in a section
pub section-more : (k : ℕ) (f : Frame) (fs : List Frame) → length (section k (f ∷ fs)) ≡ is f.kind k + length (section k fs)
unfolding section kept
section-more k f fs = go (eqb f.kind k)
  where
    go : (p : Bool)
        → length (cond p (f ∷ kept (λ (g : Frame). eqb g.kind k) fs) (kept (λ (g : Frame). eqb g.kind k) fs)) ≡ cond p 1 0 + length (kept (λ (g : Frame). eqb g.kind k) fs)
    go true = omega arith
    go false = omega arith

abbrev mk : ℕ → ℕ → ℕ → ℕ → ℕ → ℕ → Shape
mk a b c d e f = record { groups = a; devices = b; buckets = c; links = d; steps = e; ends = f }

same : {a a' b b' c c' d d' e e' f f' : ℕ} → a ≡ a' → b ≡ b' → c ≡ c' → d ≡ d' → e ≡ e' → f ≡ f' → mk a b c d e f ≡ mk a' b' c' d' e' f'
same p q r s t u = rw (p, q, r, s, t, u)

-- one frame more in the shape
pub shape-more : (s : Shape) (f : Frame) (fs : List Frame) → plus (more s f.kind) (shape_of fs) ≡ plus s (shape_of (f ∷ fs))
unfolding plus more shape_of
shape-more s f fs =
    same (omega (arith, section-more 0 f fs)) (omega (arith, section-more 1 f fs)) (omega (arith, section-more 2 f fs))
    (omega (arith, section-more 3 f fs)) (omega (arith, section-more 4 f fs)) (omega (arith, section-more 5 f fs))

-- no frames left
pub shape-none : (s : Shape) → plus s (shape_of []) ≡ s
unfolding plus shape_of section kept
shape-none s = same (omega arith) (omega arith) (omega arith) (omega arith) (omega arith) (omega arith)

-- no frames yet
pub none-shape : (s : Shape) → plus (record { groups = 0; devices = 0; buckets = 0; links = 0; steps = 0; ends = 0 }) s ≡ s
unfolding plus
none-shape s = same (omega arith) (omega arith) (omega arith) (omega arith) (omega arith) (omega arith)

-- a loop that counts: one frame more
pub shape-next : (s w : Shape) (f : Frame) (fs gs : List Frame) (k : ℕ) → plus s (shape_of fs) ≡ w → fs ≡ f ∷ gs → k ≡ f.kind → plus (more s k) (shape_of gs) ≡ w
shape-next s w f fs gs k e p q = rw q (shape-more s f gs ∙ rw p at e)

-- and its end
pub shape-end : (s w : Shape) (fs : List Frame) → plus s (shape_of fs) ≡ w → fs ≡ [] → s ≡ w
shape-end s w fs e p = sym (shape-none s) ∙ rw p at e

-- a larger bound
pub small-le : (s : Shape) (n m : ℕ) → Small s n → n ≤ m → Small s m
small-le s n m h l =
    record {
      groups = omega (arith, h.groups);
      devices = omega (arith, h.devices);
      buckets = omega (arith, h.buckets);
      links = omega (arith, h.links);
      steps = omega (arith, h.steps);
      ends = omega (arith, h.ends);
    }
