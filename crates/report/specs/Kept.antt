-- What is kept of a line decides what the line does: the longest that does anything is an edit, of 14 bytes, and 15 are kept. Assumes nothing.
use Rattle.std.specs.Prelude.{◌≡◌, refl, Bool, true, false, cond, List, [], ◌∷◌, ◌++◌, ℕ, zero, suc, ◌<◌, length, take, None}
use Rattle.std.proofs.Common.{sym, ap, subst, ◌∙◌, arith, take_all, length-take-le, eq-eqb, ne_eqb}
use Rattle.std.proofs.Math.Decide.{dec_lt}
use Rattle.definitions.specs.Edit.{change_of}
use Rattle.definitions.specs.Calls.{EditAnswer, case_of, edit_of}
use Rattle.report.specs.declared.edits.Said.{Said}
use Rattle.protocol.specs.declared.asked.Program.{Program}
use Rattle.protocol.specs.declared.asked.Asked.{Asked}
use Rattle.protocol.specs.declared.asked.Asked.TheVariants.{Frames, Rows, Store, Return, Nothing}
use Rattle.protocol.specs.Asked.{asked_of}
use Rattle.protocol.specs.Forms.{asked-long}
use Rattle.report.specs.Edits.{Site, site_of, Session, session, is_edit, moves_said, edited, order_of, line_of, byte_of, end_of}
use Rattle.report.specs.Says.{Says}

-- how many bytes of a line are kept at most
abbrev pub most_kept : ℕ
most_kept = 15

-- the line l keeps the front of the bytes xs
abbrev pub Keeps : List ℕ → List ℕ → Type 0
Keeps l xs = l ≡ take most_kept xs

-- the site here is as the session says, and so is what is printed
pub record Answers (r : Said) (here : Site) (space : List ℕ) (s : Session) : Type 0 where
  pub site-is : here ≡ s.site
  pub says : Says r here.table space s.printed

-- and so is the line under way
pub record Stands (r : Said) (l : List ℕ) (here : Site) (space : List ℕ) (s : Session) : Type 0 where
  pub answers : Answers r here space s
  pub line : Keeps l s.line

-- ---- a line grows

take_front : (n : ℕ) (xs ys : List ℕ) → take n (take n xs ++ ys) ≡ take n (xs ++ ys)
take_front zero xs ys = refl
take_front (suc n) [] ys = refl
take_front (suc n) (x ∷ xs) ys = ap (λ (l : List ℕ). x ∷ l) (take_front n xs ys)

-- what is kept of all bytes is kept of those that were kept and the bytes ys
pub keeps-more : (l xs ys : List ℕ) → Keeps l xs → Keeps (take most_kept (l ++ ys)) (xs ++ ys)
keeps-more l xs ys k = rw k (take_front most_kept xs ys)

-- ---- the bytes kept ask for what the line does

pub malformed : (ys : List ℕ) → (length ys ≡ 14 → ⊥) → change_of ys ≡ None
unfolding change_of
malformed ys h = rw (ne_eqb (length ys) 14 h)

-- what is the same of every line that is longer than those that do anything is the same of what is kept of a line
same_kept : {A : Type 0} (g : List ℕ → A) (a : A) → ((ys : List ℕ) → 14 < length ys → g ys ≡ a) → (xs : List ℕ) → g (take most_kept xs) ≡ g xs
same_kept g a h xs = go (dec_lt (length xs) most_kept)
  where
    go : Dec (length xs < most_kept) → g (take most_kept xs) ≡ g xs
    go (yes s) = ap g (take_all most_kept xs (omega arith))
    go (no l) = h (take most_kept xs) (omega (arith, length-take-le most_kept xs (omega arith))) ∙ sym (h xs (omega (arith, l)))

-- the edit is that of its change, and any other line does what it asks for
line-change : (p : Program) (s : Site) (d e space : List ℕ) → change_of d ≡ change_of e → asked_of p d ≡ asked_of p e → line_of p s d space ≡ line_of p s e space
unfolding line_of edit_of case_of
line-change p s d e space h k = rw (h, k)

pub line_kept : (p : Program) (l xs : List ℕ) → Keeps l xs → (s : Site) (space : List ℕ) → line_of p s l space ≡ line_of p s xs space
line_kept p l xs k s space =
    line-change p s _ xs space
    (ap change_of k ∙ same_kept change_of None (λ ys n. malformed ys (λ e. omega (arith, e, n))) xs)
    (ap (asked_of p) k ∙ same_kept (asked_of p) Nothing (λ ys n. asked-long p ys (omega (arith, n))) xs)

-- ---- what a line answers

-- of no edit form
pub line-asked : (p : Program) (s : Site) (e space : List ℕ) → is_edit (change_of e) ≡ false → line_of p s e space ≡ order_of (asked_of p e) s space
unfolding line_of
line-asked p s e space h = rw h

-- an edit
pub line-edit : (p : Program) (s : Site) (e space : List ℕ) → is_edit (change_of e) ≡ true → line_of p s e space ≡ edited s.states (edit_of s.frames s.table e space)
unfolding line_of
line-edit p s e space h = rw h

-- an edit or a return has answered a, and what it answers is told
pub answers-edit : (r : Said) (a b : EditAnswer) (ws space : List ℕ) → a ≡ b → Says r a.table space (moves_said a)
    → Answers r (site_of a.frames a.table ws) space (edited ws b)
answers-edit r a b ws space e h = subst (λ (x : EditAnswer). Answers r (site_of a.frames a.table ws) space (edited ws x)) e (record { site-is = refl; says = h })

-- ---- the bytes and the end of the input

order-none : (a : Asked) (s : Site) (space : List ℕ) → (order_of a s space).line ≡ []
unfolding order_of
order-none Frames s space = refl
order-none Rows s space = refl
order-none (Store x) s space = refl
order-none (Return x) s space = refl
order-none Nothing s space = refl

-- a line has ended, and no line is under way
pub line-none : (p : Program) (s : Site) (e space : List ℕ) → (line_of p s e space).line ≡ []
unfolding line_of
line-none p s e space = go (is_edit (change_of e))
  where
    go : (b : Bool) → (cond b (edited s.states (edit_of s.frames s.table e space)) (order_of (asked_of p e) s space)).line ≡ []
    go true = refl
    go false = order-none (asked_of p e) s space

pub byte-10 : (p : Program) (s : Site) (l : List ℕ) (b : ℕ) (space : List ℕ) → b ≡ 10 → byte_of p s l b space ≡ line_of p s l space
unfolding byte_of
byte-10 p s l b space h = rw (eq-eqb b 10 h)

pub byte-other : (p : Program) (s : Site) (l : List ℕ) (b : ℕ) (space : List ℕ) → (b ≡ 10 → ⊥) → byte_of p s l b space ≡ session s (l ++ (b ∷ []))
unfolding byte_of
byte-other p s l b space h = rw (ne_eqb b 10 h)

-- a line that keeps no byte has none
pub keeps-none : (l xs : List ℕ) → Keeps l xs → length l ≡ 0 → xs ≡ []
keeps-none l [] k e = refl
keeps-none l (x ∷ xs) k e = absurd (let z : length l ≡ suc (length (take 14 xs)) = ap length k in omega (arith, z, e))

pub keeps-empty : (l xs : List ℕ) → Keeps l xs → xs ≡ [] → length l ≡ 0
keeps-empty l xs k e = ap length (k ∙ ap (take most_kept) e)

pub end_none : (p : Program) (s : Site) (l space : List ℕ) → l ≡ [] → end_of p s l space ≡ session s []
unfolding end_of
end_none p s l space e = rw e

pub end-some : (p : Program) (s : Site) (l space : List ℕ) → (l ≡ [] → ⊥) → end_of p s l space ≡ line_of p s l space
unfolding end_of
end-some p s [] space h = absurd (h refl)
end-some p s (b ∷ l) space h = refl
