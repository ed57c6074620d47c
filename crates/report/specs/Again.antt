-- "The map that `2c` prints is a map": from a map that loads, whatever lines came before, the map of the session loads, and a line `2c` prints it as it
-- stands; the states are left out. Assumes nothing.
use Rattle.std.specs.Prelude.{◌≡◌, refl, Bool, true, false, cond, ◌&&◌, List, [], ◌∷◌, ◌++◌, ℕ, zero, suc, ◌≤◌, eqb, length, drop}
use Rattle.std.proofs.Common.{sym, ap, ◌∙◌, arith, take_at}
use Rattle.definitions.specs.Lists.{same}
use Rattle.definitions.specs.Map.{map_of}
use Rattle.definitions.specs.Load.{load_number}
use Rattle.definitions.specs.Edit.{change_of}
use Rattle.definitions.specs.States.{stated}
use Rattle.definitions.specs.Calls.{EditCase, case_of, edit_number, edit_by, edit_answer, edit_of, whole_with, ReturnCase, return_case, return_number, return_by, return_answer, return_of, WriteAnswer, write_of}
use Rattle.laws.specs.Loadable.{put-loadable}
use Rattle.keeping.specs.States.{stated-is, return-loadable}
use Rattle.text.specs.Lines.{plain}
use Rattle.text.specs.Loading.{loaded}
use Rattle.text.specs.Agreement.{loaded-map, written-loads}
use Rattle.engine.specs.Calls.{whole-yes, write-0}
use Rattle.protocol.specs.declared.asked.Program.{Program}
use Rattle.protocol.specs.declared.asked.Program.TheVariants.{Operate}
use Rattle.protocol.specs.declared.asked.Asked.{Asked}
use Rattle.protocol.specs.declared.asked.Asked.TheVariants.{Frames, Rows, Store, Return, Nothing}
use Rattle.protocol.specs.Asked.{asked_of}
use Rattle.report.specs.Edits.{Site, Session, session, is_edit, or_refusal, frames_said, edited, order_of, line_of, byte_of, behind, bytes_of}
use Rattle.report.specs.Says.{all_yes}
use Rattle.report.specs.Kept.{malformed, line-asked}

-- ---- a line leaves a map that loads

edit-loads : (f t e s : List ℕ) → load_number f ≡ 0 → load_number (edit_of f t e s).frames ≡ 0
unfolding edit_of edit_answer edit_by edit_number case_of
edit-loads f t e s l = go (edit_number C) refl
  where
    C : EditCase
    C = case_of f t e s

    go : (n : ℕ) → edit_number C ≡ n → load_number (edit_by C n).frames ≡ 0
    go zero p = written-loads C.after (put-loadable (map_of f) (change_of e) (loaded-map f l) (all_yes 17 _ _ _ _ _ _ p).1)
    go (suc n) p = l

return-loads : (f t ws : List ℕ) (x : ℕ) (s : List ℕ) → load_number f ≡ 0 → load_number (return_of f t ws x s).frames ≡ 0
unfolding return_of return_answer return_by return_number return_case whole_with
return-loads f t ws x s l = go (return_number C) refl
  where
    C : ReturnCase
    C = return_case f t ws x s

    go : (n : ℕ) → return_number C ≡ n → load_number (return_by C n).frames ≡ 0
    go zero p =
        let y = all_yes 23 _ _ _ _ _ _ p in
        let s : stated (map_of f) ws ≡ true = ap (λ (b : Bool). b && stated (map_of f) ws) (sym (whole-yes f l)) ∙ y.0 in
        written-loads C.after (return-loadable (map_of f) ws x y.1 (stated-is (map_of f) ws s) (loaded-map f l))
    go (suc n) p = l

order-loads : (a : Asked) (s : Site) (space : List ℕ) → load_number s.frames ≡ 0 → load_number (order_of a s space).site.frames ≡ 0
unfolding order_of
order-loads Frames s space l = l
order-loads Rows s space l = l
order-loads (Store x) s space l = l
order-loads (Return x) s space l = return-loads s.frames s.table s.states x space l
order-loads Nothing s space l = l

pub line-loads : (p : Program) (s : Site) (e space : List ℕ) → load_number s.frames ≡ 0 → load_number (line_of p s e space).site.frames ≡ 0
unfolding line_of
line-loads p s e space l = go (is_edit (change_of e))
  where
    go : (b : Bool)
        → load_number (cond b (edited s.states (edit_of s.frames s.table e space)) (order_of (asked_of p e) s space)).site.frames ≡ 0
    go true = edit-loads s.frames s.table e space l
    go false = order-loads (asked_of p e) s space l

-- ---- and so do all bytes

byte-loads : (p : Program) (s : Site) (l : List ℕ) (b : ℕ) (space : List ℕ) → load_number s.frames ≡ 0 → load_number (byte_of p s l b space).site.frames ≡ 0
unfolding byte_of
byte-loads p s l b space h = go (eqb b 10)
  where
    go : (q : Bool) → load_number (cond q (line_of p s l space) (session s (l ++ (b ∷ [])))).site.frames ≡ 0
    go true = line-loads p s l space h
    go false = h

pub bytes-load : (p : Program) (space : List ℕ) (s : Session) (bs : List ℕ) → load_number s.site.frames ≡ 0 → load_number (bytes_of p space s bs).site.frames ≡ 0
unfolding bytes_of
bytes-load p space s [] h = h
bytes-load p space s (b ∷ bs) h =
    bytes-load p space (behind s.printed (byte_of p s.site s.line b space)) bs (byte-loads p s.site s.line b space h)

-- ---- the line `2c`

asks-frames : (s : Site) (space : List ℕ) → (line_of Operate s (50 ∷ 99 ∷ []) space).printed ≡ frames_said (write_of s.frames space)
unfolding is_edit asked_of same order_of
asks-frames s space = ap (λ (x : Session). x.printed) (line-asked Operate s (50 ∷ 99 ∷ []) space (ap is_edit (malformed (50 ∷ 99 ∷ []) (λ e. omega (arith, e)))))

-- it prints the map as it stands, where there is space for it
pub prints-map : (s : Site) (space : List ℕ) → load_number s.frames ≡ 0 → length s.frames ≤ length space
    → (line_of Operate s (50 ∷ 99 ∷ []) space).printed ≡ s.frames
unfolding frames_said or_refusal
prints-map s space e h =
    let f = s.frames in
    asks-frames s space ∙ ap (λ (a : WriteAnswer). frames_said a) (write-0 f space e h) ∙ take_at f (drop (length f) space) (length f) refl

-- AN OPERATOR'S DAY ENDS WITH A MAP: whatever bytes came behind a map that loads, `2c` prints the map that they led to, and load takes it again
pub saved : (space : List ℕ) (s : Site) (bs : List ℕ) → load_number s.frames ≡ 0 → 65536 ≤ length space
    → let e = (bytes_of Operate space (session s []) bs).site in
    ((line_of Operate e (50 ∷ 99 ∷ []) space).printed ≡ e.frames) × (load_number e.frames ≡ 0)
saved space s bs l h =
    let e = (bytes_of Operate space (session s []) bs).site in
    let k = bytes-load Operate space (session s []) bs l in
    (prints-map e space k (omega (arith, (plain e.frames (loaded e.frames k).framed.sized).most, h)), k)
